-- Inner contracts. The list of the irreducible monomials, as the code holds it.
--   listed n l              the monomials of the list, as rows of n exponents
--   listed_at n l k         monomial k of it, from 0
--   PlaceAt n B m k         k is the first place of m in B
--   Place n B m r           so it is, or there is none and m is not in it
--   Distinct n l            no monomial stands twice in it
--   ListsIrreducibles b l   the list has the irreducible monomials of the lines of b, in rising grevlex order
use Rattle.std.specs.Prelude.{ℕ, ◌≤◌, ◌<◌, ◌≡◌, List, length, get_or, Option, Some, None}
use Rattle.monomial.specs.Represented.{most_entry}
use Rattle.monomial.specs.Rows.{Row, one, exponent}
use Rattle.monomial.specs.Ordering.{Grevlex, monomials}
use Rattle.groebner.specs.Lines.{Reducible}
use Rattle.groebner.specs.RisingLists.{ListsRising}
use Rattle.lines.specs.Sizes.{most_standard}
use Rattle.monomial.specs.declared.Monomial.{Monomial}
use Rattle.lines.specs.declared.StoredBasis.{StoredBasis}
use Rattle.staircase.specs.StoredLines.{stored_lines}
use Rattle.staircase.specs.Leads.{rows_of}

-- The monomials of the list.
abbrev pub listed : (n : ℕ) → List Monomial → List (Row n)
listed n l = rows_of n l

-- Monomial k of the list, from 0.
abbrev pub listed_at : (n : ℕ) → List Monomial → ℕ → Row n
listed_at n l k = get_or (listed n l) k (one n)

-- k is the first place of m in B.
pub record PlaceAt (n : ℕ) (B : List (Row n)) (m : Row n) (k : ℕ) : Type 0 where
  pub within : k < length B
  pub found : get_or B k (one n) ≡ m
  pub first : (j : ℕ) → j < k → ¬ (get_or B j (one n) ≡ m)

-- The first place of m in B, or that m is not in it.
abbrev pub Place : (n : ℕ) → List (Row n) → Row n → Option ℕ → Type 0
Place n B m (Some k) = PlaceAt n B m k
Place n B m None = (k : ℕ) → k < length B → ¬ (get_or B k (one n) ≡ m)

-- The list has the irreducible monomials of the lines of b, in rising grevlex order.
pub record ListsIrreducibles (b : StoredBasis) (l : List Monomial) : Type 0 where
  pub few : length l ≤ most_standard
  pub exponents : (k : ℕ) → k < length l → (i : ℕ) → i < b.n → exponent b.n (listed_at b.n l k) i < most_entry
  pub lists : (h : 1 < b.p) → ListsRising (Grevlex b.n) (λ m. ¬ Reducible (monomials b.n) (stored_lines b h) m) (listed b.n l)

-- No monomial stands twice in the list.
abbrev pub Distinct : ℕ → List Monomial → Type 0
Distinct n l = (j k : ℕ) → j < length l → k < length l → listed_at n l j ≡ listed_at n l k → j ≡ k
