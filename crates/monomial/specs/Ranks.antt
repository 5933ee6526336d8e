-- Inner contracts. Ranks of monomials: one number for each monomial, whose order is grevlex.
--   base                               one more than the largest exponent of the code
--   weight c                           what digit c counts
--   from_digits f c                    the number with the digits f 0, .., f (c - 1)
--   key_of n m                         the exponents of m as digits, that of the last variable counting most
--   rank_of n m                        the rank of m
--   Short n m                          the exponents of m are digits
--   above_ranks                        more than any rank
--   RanksOf n B count ranks            the first ranks are those of the monomials B
--   VariableRanks n ranks              the first n ranks are those of the variables
--   RankAt ranks count w r             r is the first place of w among the first ranks
--   FirstRank ranks count w r          so it is, or r is None and w is none of them
--   RisingRanks ranks count            the first ranks rise
--   Bounded ranks count                the first ranks are below above_ranks
--   NextRank ranks from best j         of the ranks before place j that are at least `from`, the least is at place `best`
use Rattle.std.specs.Prelude.{ℕ, zero, suc, ◌+◌, ◌-◌, ◌*◌, ◌^◌, ◌≤◌, ◌<◌, ◌≡◌, List, length, get_or, Option, Some, None}
use Rattle.monomial.specs.Represented.{most_entry}
use Rattle.monomial.specs.Rows.{Row, one, exponent, degree}
use Rattle.monomial.specs.Quotients.{variable}
use Rattle.monomial.specs.Least.{Least}

-- One more than the largest exponent of the code.
abbrev pub base : ℕ
base = suc most_entry

-- What digit c counts: base to the power c.
unfoldable pub weight : ℕ → ℕ
weight zero = 1
weight (suc c) = base * weight c

-- The number with the digits f 0, .., f (c - 1).
unfoldable pub from_digits : (ℕ → ℕ) → ℕ → ℕ
unfolding weight
from_digits f zero = 0
from_digits f (suc c) = from_digits f c + weight c * f c

-- The exponents of m as digits, that of the last variable counting most.
abbrev pub key_of : (n : ℕ) → Row n → ℕ
key_of n m = from_digits (exponent n m) n

-- The rank of m: the degree counts most, and at equal degrees a greater key is a smaller monomial.
unfoldable pub rank_of : (n : ℕ) → Row n → ℕ
rank_of n m = degree n m * weight n - key_of n m

-- More than any rank.
abbrev pub above_ranks : ℕ
above_ranks = 2 ^ 63

-- The exponents of m are digits.
pub record Short (n : ℕ) (m : Row n) : Type 0 where
  pub short : (i : ℕ) → i < n → exponent n m i < base

-- The first ranks are those of the monomials B.
pub record RanksOf (n : ℕ) (B : List (Row n)) (count : ℕ) (ranks : List ℕ) : Type 0 where
  pub many : count ≤ length ranks
  pub rank : (k : ℕ) → k < count → get_or ranks k 0 ≡ rank_of n (get_or B k (one n))
  pub short : (k : ℕ) → k < count → Short n (get_or B k (one n))

-- The first n ranks are those of the variables.
pub record VariableRanks (n : ℕ) (ranks : List ℕ) : Type 0 where
  pub many : n ≤ length ranks
  pub rank : (i : ℕ) → i < n → get_or ranks i 0 ≡ rank_of n (variable n i)
  pub short : (i : ℕ) → i < n → Short n (variable n i)

-- r is the first place of w among the first ranks.
pub record RankAt (ranks : List ℕ) (count w r : ℕ) : Type 0 where
  pub within : r < count
  pub found : get_or ranks r 0 ≡ w
  pub first : (k : ℕ) → k < r → ¬ (get_or ranks k 0 ≡ w)

-- r is the first place of w among the first ranks, or None where it is none of them.
pub record FirstRank (ranks : List ℕ) (count w : ℕ) (r : Option ℕ) : Type 0 where
  pub some : (k : ℕ) → r ≡ Some k → RankAt ranks count w k
  pub none : r ≡ None → (k : ℕ) → k < count → ¬ (get_or ranks k 0 ≡ w)

-- The first ranks rise.
abbrev pub RisingRanks : List ℕ → ℕ → Type 0
RisingRanks ranks count = (j k : ℕ) → j < k → k < count → get_or ranks j 0 < get_or ranks k 0

-- The first ranks are below above_ranks.
abbrev pub Bounded : List ℕ → ℕ → Type 0
Bounded ranks count = (k : ℕ) → k < count → get_or ranks k 0 < above_ranks

-- Of the ranks before place j that are at least `from`, the least is at place `best`; that is None where there is none.
abbrev pub NextRank : List ℕ → (from : ℕ) (best : Option ℕ) (j : ℕ) → Type 0
NextRank ranks from = Least ◌<◌ (λ k. from ≤ get_or ranks k 0) (λ k. get_or ranks k 0)
