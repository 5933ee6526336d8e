-- `add_product` meets its contract. The loop's invariant: the first terms are added.
use Rattle.monomial.specs.Represented.{row}
use Rattle.division.proofs.AddedMultiples.{AddedFirst}
use Rattle.division.proofs.division.add_product.Given as goal

abbrev pub invariant-loop-t : goal.invariant-loop-t
invariant-loop-t l = AddedFirst l.p l.n l.initial.work l.work l.c.0 (row l.n l.u) l.g l.t-index
