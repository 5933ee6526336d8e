-- `Reciprocals::new` meets its contract. The loop's invariant: the table has the reciprocals of the numbers below a, and their pairs.
use Rattle.residue.proofs.Filling.{TableFilled}
use Rattle.residue.proofs.reciprocals.Reciprocals.new.Given as goal

abbrev pub invariant-loop-a : goal.invariant-loop-a
invariant-loop-a l = TableFilled l.field.p l.table l.a
