-- `set` meets its contract.
use lib.Seq.{take-set-lt}
use Rattle.lines.proofs.inline_list.InlineList.set.Goals as goal

pub returns-then-index-self : goal.returns-then-index-self
returns-then-index-self g c = rw (← c.self.view_is) (take-set-lt _ _ _ _ c.if-index-self.true)
