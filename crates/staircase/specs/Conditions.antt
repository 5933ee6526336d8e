-- Believed. What checks 12, 14 and 15 say of the lines G of a text (document 01, "Refused texts"); 13 is `ZeroDimensional` of groebner/specs/Standard.antt.
--   On G k g             g is line k of the text
--   Divided R 𝓜 G k      12: a monomial of line k is divisible by another line's leading monomial
--   Large n G            14: more than 32 monomials are divisible by no leading monomial
--   Failing R 𝓜 G lt k   15: the S-polynomial of line k and an earlier line has a remainder that is not zero
use Rattle.std.specs.Prelude.{ℕ, zero, suc, ◌<◌, ◌≡◌, List, [], length}
use Rattle.lists.specs.Lists.{At, ◌∈◌, Once, Each}
use Rattle.residue.specs.Field.{Arithmetic}
use Rattle.monomial.specs.Rows.{Row}
use Rattle.monomial.specs.Ordering.{Monomials, Divides, monomials}
use Rattle.groebner.specs.Polynomials.{Poly}
use Rattle.groebner.specs.Lines.{Line, polynomial, Reducible}
use Rattle.groebner.specs.Remainders.{Remainder}
use Rattle.groebner.specs.Bases.{SPolynomial}
use Rattle.lines.specs.Sizes.{most_standard}

-- Line k of the text: the first poly line is line 2.
abbrev pub On : {A : Type 0} → List A → ℕ → A → Type 0
On G zero g = ⊥
On G (suc zero) g = ⊥
On G (suc (suc i)) g = At G i g

-- 14: more than 32 monomials that no leading monomial divides.
abbrev pub Large : {F : Type 0} (n : ℕ) → List (Line F (Row n)) → Type 0
Large n G = (l : List (Row n)) × (length l ≡ suc most_standard) × Once l × Each (λ m. ¬ Reducible (monomials n) G m) l

module _ {F M : Type 0} (R : Arithmetic F) (𝓜 : Monomials M) (G : List (Line F M)) where
  -- 12: a monomial of line k is divisible by another line's leading monomial.
  pub record Divided (k : ℕ) : Type 0 where
    pub g : Line F M
    pub h : Line F M
    pub j : ℕ
    pub line : On G k g
    pub other : On G j h
    pub different : ¬ (j ≡ k)
    pub term : F × M
    pub of_line : term ∈ polynomial R g
    pub divides : Divides 𝓜 h.0 term.1

  -- 15: the S-polynomial of line k and an earlier line has a remainder that is not zero.
  pub record Failing (lt : M → M → Type 0) (k : ℕ) : Type 0 where
    pub f : Line F M
    pub g : Line F M
    pub j : ℕ
    pub earlier : On G j f
    pub later : On G k g
    pub before : j < k
    pub s : Poly F M
    pub pair : SPolynomial R 𝓜 f g s
    pub r : Poly F M
    pub remainder : Remainder R 𝓜 lt G s r
    pub nonzero : ¬ (r ≡ [])
