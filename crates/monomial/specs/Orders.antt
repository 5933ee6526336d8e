-- Believed. Lex and grevlex (document 01, "Words and orders"; 001 and 002).
--   compared x y         two numbers, three-way
--   lex n s a b          lex over the variables of the list s, greatest first
--   variables_from i k   the k variables from i on
--   variables n          x1 > x2 > .. > xn, document 01's order of the variables
--   backwards n          xn, .., x2, x1
--   grevlex n a b        grevlex
use Rattle.std.specs.Prelude.{true, false, List, [], ◌∷◌, ℕ, zero, suc, ltb}
use Rattle.monomial.specs.Rows.{Row, exponent, degree}
use Rattle.std.specs.declared.cmp.Ordering.{Ordering}
use Rattle.std.specs.declared.cmp.Ordering.TheVariants.{Less, Equal, Greater}

-- x against y.
unfoldable pub compared : ℕ → ℕ → Ordering
compared x y = elim (ltb x y) [ true ↦ Less | false ↦ elim (ltb y x) [ true ↦ Greater | false ↦ Equal ] ]

-- Lex over the variables of the list, greatest first: the first of them in which the exponents differ decides (document 01: the leftmost
-- nonzero entry of a - b).
unfoldable pub lex : (n : ℕ) → List ℕ → Row n → Row n → Ordering
unfolding compared exponent
lex n [] a b = Equal
lex n (i ∷ s) a b = elim (compared (exponent n a i) (exponent n b i)) [ Less ↦ Less | Equal ↦ lex n s a b | Greater ↦ Greater ]

-- The variables from i on, k of them.
unfoldable pub variables_from : ℕ → ℕ → List ℕ
variables_from i zero = []
variables_from i (suc k) = i ∷ variables_from (suc i) k

-- x1 > x2 > .. > xn, counted from 0 (document 01).
unfoldable pub variables : ℕ → List ℕ
unfolding variables_from
variables n = variables_from 0 n

-- xn, .., x2, x1, counted from 0.
unfoldable pub backwards : ℕ → List ℕ
backwards zero = []
backwards (suc k) = k ∷ backwards k

-- Grevlex: the higher total degree is greater; at equal degree a is greater when the rightmost nonzero entry of a - b is negative (document 01):
-- read from the last variable, b is greater.
unfoldable pub grevlex : (n : ℕ) → Row n → Row n → Ordering
unfolding compared degree lex backwards
grevlex n a b = elim (compared (degree n a) (degree n b)) [ Less ↦ Less | Equal ↦ lex n (backwards n) b a | Greater ↦ Greater ]
