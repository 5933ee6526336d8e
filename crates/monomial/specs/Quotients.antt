-- Inner contracts. Quotients, least common multiples and divisibility of monomials, as they are computed.
--   quotient n a b   exponents subtracted, for b dividing a
--   lcm n a b        the larger of each two exponents
--   divides n a b    whether no exponent of a is larger than that of b
--   is_one n a       whether a is 1
--   is_power n v a   whether a is a power of variable v
--   variable n i     variable i, counted from 0
use Rattle.std.specs.Prelude.{ℕ, zero, suc, ◌-◌, max, Bool, true, false, leb, eqb}
use Rattle.monomial.specs.Rows.{Row, power}

-- The quotient of a by b, for b dividing a.
unfoldable pub quotient : (n : ℕ) → Row n → Row n → Row n
quotient zero a b = tt
quotient (suc n) a b = (a.0 - b.0, quotient n a.1 b.1)

-- The least common multiple.
unfoldable pub lcm : (n : ℕ) → Row n → Row n → Row n
lcm zero a b = tt
lcm (suc n) a b = (max a.0 b.0, lcm n a.1 b.1)

-- Whether a divides b.
unfoldable pub divides : (n : ℕ) → Row n → Row n → Bool
divides zero a b = true
divides (suc n) a b = elim (leb a.0 b.0) [ true ↦ divides n a.1 b.1 | false ↦ false ]

-- Whether a is 1.
unfoldable pub is_one : (n : ℕ) → Row n → Bool
is_one zero a = true
is_one (suc n) a = elim (eqb a.0 0) [ true ↦ is_one n a.1 | false ↦ false ]

-- Whether a is a power of variable v, exponent 0 allowed (document 01, "Zero-dimensional").
unfoldable pub is_power : (n v : ℕ) → Row n → Bool
unfolding is_one
is_power zero v a = true
is_power (suc n) zero a = is_one n a.1
is_power (suc n) (suc v) a = elim (eqb a.0 0) [ true ↦ is_power n v a.1 | false ↦ false ]

-- Variable i, counted from 0.
abbrev pub variable : (n : ℕ) → ℕ → Row n
variable n i = power n i 1
