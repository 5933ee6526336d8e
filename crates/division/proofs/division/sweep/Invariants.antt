-- `sweep` meets its contract. The loop's invariant: the array is divided down to m.
use Rattle.monomial.specs.Represented.{row}
use Rattle.division.proofs.SweptArrays.{Swept}
use Rattle.division.proofs.division.sweep.Given as goal

abbrev pub invariant-loop-at : goal.invariant-loop-at
invariant-loop-at l = Swept l.basis l.initial.work l.work (row l.basis.n l.m) l.at
