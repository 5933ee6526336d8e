-- `place` meets its contract. The loop's invariant: the sum and the place of the first i exponents.
use Rattle.monomial.specs.Represented.{row}
use Rattle.division.proofs.PlaceSums.{PlaceSum}
use Rattle.division.proofs.grevlex.place.Given as goal

abbrev pub invariant-loop-i : goal.invariant-loop-i
invariant-loop-i l = PlaceSum l.fn.n (row l.fn.n l.fn.m) l.i l.sum l.at
