-- `divided_by_another` meets its contract. The loop's invariant: none of the first j, but at place i, divides a monomial of the line.
use Prim.Native.Nat.{ℕ, ◌<◌}
use mathlib.Core.Path.{◌≡◌}
use lib.ListN.{get_or}
use Rattle.monomial.specs.Represented.{row}
use Rattle.staircase.specs.Places.{DividesTerm}
use Rattle.staircase.proofs.ArrayRows.{no_monomial}
use Rattle.staircase.proofs.divided.divided_by_another.Given as goal

abbrev pub invariant-loop-j : goal.invariant-loop-j
invariant-loop-j l = (k : ℕ) → k < l.j → ¬ ((¬ (k ≡ l.i)) × DividesTerm l.n (row l.n (get_or l.leads k no_monomial)) l.g)
