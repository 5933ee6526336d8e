-- `truncate` meets its contract.
use Rattle.lines.proofs.InlineLists.{blank-truncate}
use Rattle.lines.proofs.inline_list.InlineList.truncate.Goals as goal

pub invariant_of-self : goal.invariant_of-self
invariant_of-self g c =
    let inside = c.self.inside in
    rw (c.copy_from_slice.ensures.after, c.blank.ensures) (blank-truncate _ _ inside.count c.args.count inside.places c.if-count-self.true c.self.invariant)
