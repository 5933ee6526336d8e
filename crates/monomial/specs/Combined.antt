-- Inner contracts. Two monomials, combined exponent by exponent.
--   Combines n P m k      P holds of the exponents of m and k of each variable
--   Combined n R m k a    R makes the exponents of a of those of m and k
use Rattle.std.specs.Prelude.{ℕ, ◌<◌, ◌≡◌}
use Rattle.monomial.specs.Rows.{Row, exponent}
use Rattle.monomial.specs.Represented.{row}
use Rattle.monomial.specs.declared.Exponent.{Exponent}
use Rattle.monomial.specs.declared.Monomial.{Monomial}

-- P holds of the exponents x and y of m and k of each variable.
abbrev pub Combines : ℕ → (Exponent → Exponent → Type 0) → Monomial → Monomial → Type 0
Combines n P m k = (i : ℕ) → i < n → (x y : Exponent) → x.0 ≡ exponent n (row n m) i → y.0 ≡ exponent n (row n k) i → P x y

-- Whatever R relates to the exponents of m and k of a variable is that of a.
abbrev pub Combined : (n : ℕ) → (Exponent → Exponent → Exponent → Type 0) → Monomial → Monomial → Row n → Type 0
Combined n R m k a = (i : ℕ) → i < n → (x y z : Exponent) → x.0 ≡ exponent n (row n m) i → y.0 ≡ exponent n (row n k) i → R x y z → z.0 ≡ exponent n a i
