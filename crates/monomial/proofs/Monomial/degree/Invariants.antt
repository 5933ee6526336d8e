-- `Monomial::degree` meets its contract. The loop's invariant: d is the degree of the first i exponents.
use Prim.Native.Nat.{◌≤◌, ◌*◌}
use mathlib.Core.Path.{◌≡◌}
use Rattle.monomial.specs.Rows.{degree}
use Rattle.monomial.specs.Represented.{row, most_entry}
use Rattle.monomial.proofs.Monomial.degree.Given as goal

abbrev pub invariant-loop-i : goal.invariant-loop-i
invariant-loop-i l = (l.d ≤ most_entry * l.i) × (l.d ≡ degree l.i (row l.i l.self))
