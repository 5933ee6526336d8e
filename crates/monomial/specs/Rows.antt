-- Believed. Monomials in n variables as rows of n exponents (document 01, "Words and orders").
--   Row n            a row of n exponents
--   exponent n a i   the exponent of variable i in a, counted from 0
--   one n            the monomial 1
--   product n a b    exponents added
--   degree n a       the total degree
--   power n i e      x_i^e, the variables counted from 0
use Rattle.std.specs.Prelude.{ℕ, zero, suc, ◌+◌}

-- A monomial in n variables: the row of its n exponents (document 01).
abbrev pub Row : ℕ → Type 0
Row zero = Unit
Row (suc n) = ℕ × Row n

-- The exponent of variable i, counted from 0; past the row it is 0.
unfoldable pub exponent : (n : ℕ) → Row n → ℕ → ℕ
exponent zero a i = 0
exponent (suc n) a zero = a.0
exponent (suc n) a (suc i) = exponent n a.1 i

-- The monomial 1.
unfoldable pub one : (n : ℕ) → Row n
one zero = tt
one (suc n) = (0, one n)

-- The product of monomials.
unfoldable pub product : (n : ℕ) → Row n → Row n → Row n
product zero a b = tt
product (suc n) a b = (a.0 + b.0, product n a.1 b.1)

-- The total degree.
unfoldable pub degree : (n : ℕ) → Row n → ℕ
degree zero a = 0
degree (suc n) a = a.0 + degree n a.1

-- The power e of variable i, counted from 0.
abbrev pub power : (n : ℕ) → ℕ → ℕ → Row n
power zero i e = tt
power (suc n) zero e = (e, one n)
power (suc n) (suc i) e = (0, power n i e)
