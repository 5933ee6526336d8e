-- Believed. Terms as numbers.
--   Term        a coefficient and its exponents, as numbers
--   as_row n e   n exponents as a row
use Rattle.std.specs.Prelude.{ℕ, zero, suc, List, [], ◌∷◌}
use Rattle.monomial.specs.Rows.{Row}

-- A coefficient and its exponents.
abbrev pub Term : Type 0
Term = ℕ × List ℕ

-- n exponents as a row.
unfoldable pub as_row : (n : ℕ) → List ℕ → Row n
as_row zero e = tt
as_row (suc n) [] = (0, as_row n [])
as_row (suc n) (x ∷ e) = (x, as_row n e)
