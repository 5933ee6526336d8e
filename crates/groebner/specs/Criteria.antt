-- Inner contracts. What the checks test of a list of lines (document 01, refusals 8, 12 and 15).
--   Clear R 𝓜 G           no monomial of a line is divisible by another line's leading monomial (document 01, refusal 12)
--   Buchberger R 𝓜 lt G   every S-polynomial of an earlier and a later line has remainder zero (document 01, refusal 15)
--   Low lt G              the tail of each line is below its leading monomial
use Rattle.std.specs.Prelude.{List, []}
use Rattle.lists.specs.Lists.{◌∈◌}
use Rattle.lists.specs.Pairs.{Before}
use Rattle.residue.specs.Field.{Arithmetic}
use Rattle.monomial.specs.Ordering.{Monomials, Divides}
use Rattle.groebner.specs.Polynomials.{Poly, All}
use Rattle.groebner.specs.Lines.{Line, polynomial}
use Rattle.groebner.specs.Remainders.{Remainder}
use Rattle.groebner.specs.Bases.{SPolynomial}

module _ {F M : Type 0} (R : Arithmetic F) (𝓜 : Monomials M) where
  -- No monomial of a line is divisible by the leading monomial of another line of the list (document 01, refusal 12; 001, definition 1.6 (2)).
  abbrev pub Clear : List (Line F M) → Type 0
  Clear G = (f g : Line F M) → Before f g G → All (λ m. ¬ Divides 𝓜 g.0 m) (polynomial R f) × All (λ m. ¬ Divides 𝓜 f.0 m) (polynomial R g)

  module _ (lt : M → M → Type 0) where
    -- Every S-polynomial of an earlier and a later line has remainder zero (document 01, refusal 15).
    abbrev pub Buchberger : List (Line F M) → Type 0
    Buchberger G = (f g : Line F M) → Before f g G → (s : Poly F M) → SPolynomial R 𝓜 f g s → Remainder R 𝓜 lt G s []

-- The tail of each line is below its leading monomial.
abbrev pub Low : {F M : Type 0} → (M → M → Type 0) → List (Line F M) → Type 0
Low {F} {M} lt G = (g : Line F M) → g ∈ G → All (λ m. lt m g.0) g.1
