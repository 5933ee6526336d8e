-- Inner contracts. Variables over which a product stays out of the list of the irreducible monomials.
--   Detour n l m i j        x_j divides m, and x_i·m / x_j is not in the list
use Rattle.std.specs.Prelude.{ℕ, ◌<◌, ◌≡◌, true, List, length}
use Rattle.monomial.specs.Rows.{Row, product}
use Rattle.monomial.specs.Quotients.{quotient, divides, variable}
use Rattle.staircase.specs.Listed.{listed_at}
use Rattle.monomial.specs.declared.Monomial.{Monomial}

-- x_j divides m, and x_i·m / x_j is not in the list.
pub record Detour (n : ℕ) (l : List Monomial) (m : Row n) (i j : ℕ) : Type 0 where
  pub divisor : divides n (variable n j) m ≡ true
  pub outside : (k : ℕ) → k < length l → ¬ (listed_at n l k ≡ product n (variable n i) (quotient n m (variable n j)))
