-- Inner contracts. The lex lines that the walk finds (document 01, "The walk").
--   Lists P l                   l lists the elements that have P, each once
--   Conversion R 𝓜 lt lt' G H   H has one line for each minimal monomial that is not standard
use Rattle.std.specs.Prelude.{◌≡◌, List, []}
use Rattle.lists.specs.Lists.{◌∈◌, Once}
use Rattle.residue.specs.Field.{Arithmetic}
use Rattle.monomial.specs.Ordering.{Monomials, Divides}
use Rattle.groebner.specs.Polynomials.{All}
use Rattle.groebner.specs.Lines.{Line, polynomial, Lines, Reducible}
use Rattle.groebner.specs.Remainders.{Remainder}
use Rattle.groebner.specs.Standard.{Standard}

-- The list of the elements that have P, each once.
pub record Lists {A : Type 0} (P : A → Type 0) (l : List A) : Type 0 where
  pub once : Once l
  pub all : (a : A) → P a → a ∈ l
  pub only : (a : A) → a ∈ l → P a

module _ {F M : Type 0} (R : Arithmetic F) (𝓜 : Monomials M) (lt lt' : M → M → Type 0) (G : List (Line F M)) where
  -- One line for each minimal monomial m that is not standard: m minus the combination of smaller standard monomials with the same remainder
  -- (document 01, "The walk").
  pub record Conversion (H : List (Line F M)) : Type 0 where
    pub lines : Lines R lt' H
    pub once : Once H
    pub leads : (h : Line F M) → h ∈ H → (¬ Standard R 𝓜 lt lt' G h.0) × ((d : M) → Divides 𝓜 d h.0 → ¬ (d ≡ h.0) → Standard R 𝓜 lt lt' G d)
    pub every : (m : M) → ¬ Standard R 𝓜 lt lt' G m → Reducible 𝓜 H m
    pub tails : (h : Line F M) → h ∈ H → All (Standard R 𝓜 lt lt' G) h.1
    pub remainders : (h : Line F M) → h ∈ H → Remainder R 𝓜 lt G (polynomial R h) []
