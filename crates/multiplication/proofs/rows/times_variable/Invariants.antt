-- `times_variable` meets its contract. The loop's invariant: the coordinates are the sum over the rows below r.
use Rattle.multiplication.proofs.RowSums.{Summed}
use Rattle.multiplication.proofs.rows.times_variable.Given as goal

abbrev pub invariant-loop-r : goal.invariant-loop-r
invariant-loop-r l = Summed l.field.p l.tables l.i l.vector l.sum l.r
