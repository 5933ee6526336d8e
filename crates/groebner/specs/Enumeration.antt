-- Inner contracts. What the enumeration yields (document 01, "The walk").
--   Enumerates R n lt lt' G D H B    what is known of the lines H and the standard monomials B
use Rattle.std.specs.Prelude.{◌≡◌, List, ◌++◌, ℕ, ◌+◌, ◌*◌, ◌≤◌, ◌<◌, length}
use Rattle.lists.specs.Lists.{◌∈◌}
use Rattle.residue.specs.Field.{Arithmetic}
use Rattle.monomial.specs.Rows.{Row, exponent}
use Rattle.monomial.specs.Ordering.{monomials}
use Rattle.groebner.specs.Lines.{Line, polynomial, Rising}
use Rattle.groebner.specs.Standard.{Standard}
use Rattle.groebner.specs.Conversions.{Conversion}
use Rattle.groebner.specs.RisingLists.{ListsRising, leads}

-- The lines H and the standard monomials B of the lines G with the order lt, for the order lt': the Conversion, in rising order, and all D standard
-- monomials, in rising order; at most 1 + (n - 1)·D lines, with exponents up to D and at most 1 + D terms each.
pub record Enumerates {F : Type 0} (R : Arithmetic F) (n : ℕ) (lt lt' : Row n → Row n → Type 0) (G : List (Line F (Row n))) (D : ℕ) (H : List (Line F (Row n))) (B : List (Row n)) : Type 0 where
  pub conversion : Conversion R (monomials n) lt lt' G H
  pub rising : Rising lt' H
  pub standard : ListsRising lt' (Standard R (monomials n) lt lt' G) B
  pub count : length B ≡ D
  pub few : 0 < n → length H + D ≤ 1 + n * D
  pub exponents : (m : Row n) → m ∈ (leads H ++ B) → (i : ℕ) → i < n → exponent n m i ≤ D
  pub terms : (h : Line F (Row n)) → h ∈ H → length (polynomial R h) ≤ 1 + D
