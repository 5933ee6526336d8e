-- `read_later` meets its contract (proofs/LaterTerms.antt).
use Prim.Native.Nat.{◌-◌}
use lib.ListN.{length}
use Rattle.checks.proofs.LaterTerms.{Inv}
use Rattle.checks.proofs.generator.read_later.Given as goal

abbrev pub invariant-loop-n : goal.invariant-loop-n
invariant-loop-n l = Inv l.p l.n l.text l.fn.first l.initial.at l.g.items l.last l.at

abbrev pub decreases-loop-n : goal.decreases-loop-n
decreases-loop-n l = length l.text - l.at
