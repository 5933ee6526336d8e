-- `Rows::insert` meets its contract. The loop's invariant: the first i rows are cleared, the others are as they came.
use Rattle.fglm.proofs.Clearing.{Clearing}
use Rattle.fglm.proofs.elimination.Rows.insert.Given as goal

abbrev pub invariant-loop-i : goal.invariant-loop-i
invariant-loop-i l = Clearing l.field.p l.q l.initial.self l.self l.i
