-- Inner contracts. The place of a monomial in grevlex order. Grevlex is lex on the sums of the first exponents, the sum of all of them first.
--   monomials_below k d    C(d + k - 1, k): for d above 0 the number of monomials in k variables of degree below d
--   prefix_sum n a k       the sum of the first k exponents of a
--   place_of_first n a k   the place of the first k exponents of a
--   place n a              the place of a, from 0: as many monomials are smaller
--   most_degree            35, the largest degree of a least common multiple of two leading monomials after checks 12 to 14
--   space                  C(39, 4) = 82,251, the number of places up to that degree
--   PlaceIs n a r          r is the place of a, one of these
use Rattle.std.specs.Prelude.{ℕ, zero, suc, ◌+◌, ◌-◌, ◌<◌, ◌≡◌}
use Rattle.monomial.specs.Sizes.{most_variables}
use Rattle.monomial.specs.Rows.{Row, exponent}
use Rattle.lines.specs.Sizes.{most_standard}

-- C(d + k - 1, k): in k + 1 variables, those of degree below d, and those of degree d.
unfoldable pub monomials_below : ℕ → ℕ → ℕ
monomials_below zero d = 1
monomials_below (suc k) zero = 0
monomials_below (suc k) (suc d) = monomials_below (suc k) d + monomials_below k (suc d)

-- The sum of the first k exponents.
abbrev pub prefix_sum : (n : ℕ) → Row n → ℕ → ℕ
prefix_sum n a zero = 0
prefix_sum n a (suc k) = prefix_sum n a k + exponent n a k

-- The place of the first k exponents.
unfoldable pub place_of_first : (n : ℕ) → Row n → ℕ → ℕ
unfolding monomials_below
place_of_first n a zero = 0
place_of_first n a (suc k) = place_of_first n a k + monomials_below (suc k) (prefix_sum n a (suc k))

-- The place of a.
unfoldable pub place : (n : ℕ) → Row n → ℕ
unfolding place_of_first
place n a = place_of_first n a n

-- n + 31 for the largest n.
abbrev pub most_degree : ℕ
most_degree = most_variables + (most_standard - 1)

-- One place for each monomial of at most that degree.
unfoldable pub space : ℕ
unfolding monomials_below
space = monomials_below most_variables (suc most_degree)

-- The place of a is r.
pub record PlaceIs (n : ℕ) (a : Row n) (r : ℕ) : Type 0 where
  pub value : r ≡ place n a
  pub inside : r < space
