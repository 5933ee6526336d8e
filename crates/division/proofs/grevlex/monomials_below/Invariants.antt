-- `monomials_below` meets its contract. The loop's invariant: the count is that of j variables.
use mathlib.Core.Path.{◌≡◌}
use Rattle.division.specs.GrevlexPlace.{monomials_below}
use Rattle.division.proofs.grevlex.monomials_below.Given as goal

abbrev pub invariant-loop-j : goal.invariant-loop-j
invariant-loop-j l = l.count ≡ monomials_below l.j l.d
