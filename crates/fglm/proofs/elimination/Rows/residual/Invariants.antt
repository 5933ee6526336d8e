-- `Rows::residual` meets its contract. The loop's invariant: x is what the rows before r leave.
use Rattle.fglm.proofs.Reducing.{Reducing}
use Rattle.fglm.proofs.elimination.Rows.residual.Given as goal

abbrev pub invariant-loop-r : goal.invariant-loop-r
invariant-loop-r l = Reducing l.field.p l.fn.self l.v l.initial.x l.x l.r-index
