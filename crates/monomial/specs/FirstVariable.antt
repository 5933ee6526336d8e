-- Inner contracts. The first variable of a monomial.
--   VariableAt n m r      r is the first variable that divides m
--   FirstVariable n m r   so it is, or r is None and m is 1
use Rattle.std.specs.Prelude.{ℕ, ◌<◌, ◌≡◌, Option, Some, None}
use Rattle.monomial.specs.Rows.{Row, exponent}

-- r is the first variable whose exponent in m is not 0.
pub record VariableAt (n : ℕ) (m : Row n) (r : ℕ) : Type 0 where
  pub within : r < n
  pub found : 0 < exponent n m r
  pub first : (k : ℕ) → k < r → exponent n m k ≡ 0

-- r is the first variable whose exponent in m is not 0, or None where there is none.
pub record FirstVariable (n : ℕ) (m : Row n) (r : Option ℕ) : Type 0 where
  pub some : (i : ℕ) → r ≡ Some i → VariableAt n m i
  pub none : r ≡ None → (k : ℕ) → k < n → exponent n m k ≡ 0
