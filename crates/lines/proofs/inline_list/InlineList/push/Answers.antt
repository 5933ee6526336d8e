-- `push` meets its contract.
use Rattle.std.proofs.Common.{arith, rules}
use Rattle.lines.proofs.InlineLists.{blank-push}
use Rattle.lines.proofs.inline_list.InlineList.push.Goals as goal

pub invariant_of-self : goal.invariant_of-self
invariant_of-self g c =
    let inside = c.self.inside in
    blank-push _ _ inside.count inside.places _ (search (arith, rules)) c.self.invariant
