-- `first_divided` meets its contract. The loop's invariant: none of the first i lines has a monomial that another line's leading monomial divides.
use Prim.Native.Nat.{ℕ, ◌<◌}
use Rattle.staircase.specs.Sound.{generator_at}
use Rattle.staircase.specs.Leads.{lead_monomials}
use Rattle.staircase.specs.Places.{DividedByAnother}
use Rattle.staircase.proofs.divided.first_divided.Given as goal

abbrev pub invariant-loop-i : goal.invariant-loop-i
invariant-loop-i l = (k : ℕ) → k < l.i → ¬ DividedByAnother l.basis.n k (lead_monomials l.basis.n l.leads) (generator_at l.basis k)
