-- Inner contracts. The list of the irreducible monomials with its ranks, and the ranks of the products x_i·B_s.
--   Listing n l                     a list of at most 32 monomials in at most 4 variables, whose exponents have room for one more
--   RankedList n l rs xs            such a list with its ranks, as many, which rise, and the ranks of the variables
--   ProductAt n l i s w             w is the rank of x_i·B_s
--   ProductRank ranks x s r         r is the rank of x_i·B_s, where x is that of x_i
--   FirstRanks                      the ranks of the products x_i·B_0 are held
use Rattle.std.specs.Prelude.{ℕ, ◌+◌, ◌≤◌, ◌<◌, ◌≡◌, List, length, get_or}
use Rattle.monomial.specs.Sizes.{most_variables}
use Rattle.monomial.specs.Represented.{most_entry}
use Rattle.monomial.specs.Rows.{exponent, product}
use Rattle.monomial.specs.Quotients.{variable}
use Rattle.monomial.specs.Ranks.{rank_of, RanksOf, VariableRanks, RisingRanks}
use Rattle.lines.specs.Sizes.{most_standard}
use Rattle.staircase.specs.Listed.{listed, listed_at}
use Rattle.monomial.specs.declared.Monomial.{Monomial}

-- A list of at most 32 monomials in at most 4 variables, whose exponents have room for one more.
pub record Listing (n : ℕ) (l : List Monomial) : Type 0 where
  pub variables : n ≤ most_variables
  pub few : length l ≤ most_standard
  pub exponents : (k : ℕ) → k < length l → (i : ℕ) → i < n → exponent n (listed_at n l k) i < most_entry

-- Such a list with its ranks, as many, which rise, and the ranks of the variables.
pub record RankedList (n : ℕ) (l : List Monomial) (rs xs : List ℕ) : Type 0 where
  pub listing : Listing n l
  pub size : length rs ≡ length l
  pub ranks : RanksOf n (listed n l) (length l) rs
  pub rising : RisingRanks rs (length rs)
  pub variables : VariableRanks n xs

-- w is the rank of x_i·B_s.
pub record ProductAt (n : ℕ) (l : List Monomial) (i s w : ℕ) : Type 0 where
  pub within : i < n
  pub inside : s < length l
  pub rank : w ≡ rank_of n (product n (variable n i) (listed_at n l s))

-- r is the rank of x_i·B_s, where x is that of x_i, or 0 where the list has no B_s.
pub record ProductRank (ranks : List ℕ) (x s r : ℕ) : Type 0 where
  pub listed : s < length ranks → r ≡ x + get_or ranks s 0
  pub none : length ranks ≤ s → r ≡ 0

-- The ranks of the products x_i·B_0 are held.
pub record FirstRanks (ranks variables : List ℕ) (n : ℕ) (next : List ℕ) : Type 0 where
  pub size : length next ≡ most_variables
  pub first : (i : ℕ) → i < n → ProductRank ranks (get_or variables i 0) 0 (get_or next i 0)
