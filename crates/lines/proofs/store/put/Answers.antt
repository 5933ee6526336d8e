-- `put` meets its contract.
use Rattle.std.proofs.Common.{arith, ◌∙◌}
use Rattle.lines.proofs.Places.{put-within, put-behind, refill-set}
use Rattle.lines.proofs.store.put.Goals as goal

pub returns-then-k-len : goal.returns-then-k-len
returns-then-k-len g c = rw c.deref_mut.ensures.value (refill-set _ _ _ ∙ put-within _ _ _ (omega arith))

pub returns-else-k-len : goal.returns-else-k-len
returns-else-k-len g c = rw (put-behind c.args.list.now.items c.args.k c.args.x (omega arith)) c.push.ensures.items
