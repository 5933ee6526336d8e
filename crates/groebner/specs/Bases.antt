-- Believed. Groebner bases (001, definition 1.6) and S-polynomials (document 01, "Words and orders").
--   SPolynomial R 𝓜 f g s           s is the S-polynomial of the lines f and g
--   Leading R 𝓜 lt f m              m is the leading monomial of f
--   Groebner R 𝓜 lt G               G is a Groebner basis of its ideal
--   Reduced R 𝓜 lt G                G is a reduced Groebner basis, each line once
use Rattle.std.specs.Prelude.{◌≡◌, List}
use Rattle.lists.specs.Lists.{◌∈◌, Once}
use Rattle.residue.specs.Field.{Arithmetic}
use Rattle.monomial.specs.Ordering.{Monomials, Divides, Lcm}
use Rattle.groebner.specs.Polynomials.{Poly, All, Polynomial, coef, Same, minus, shift}
use Rattle.groebner.specs.Lines.{Line, polynomial, Lines, Reducible}
use Rattle.groebner.specs.Ideals.{IdealOf}

module _ {F M : Type 0} (R : Arithmetic F) (𝓜 : Monomials M) where
  -- s is the S-polynomial of f and g: both leading monomials are raised to their least common multiple, and the lines subtracted.
  pub record SPolynomial (f g : Line F M) (s : Poly F M) : Type 0 where
    pub m : M
    pub lcm : Lcm 𝓜 f.0 g.0 m
    pub u : M
    pub left : m ≡ 𝓜.mul u f.0
    pub v : M
    pub right : m ≡ 𝓜.mul v g.0
    pub proper : Polynomial R s
    pub outcome : Same R 𝓜 s (minus R (shift 𝓜 u (polynomial R f)) (shift 𝓜 v (polynomial R g)))

  module _ (lt : M → M → Type 0) where
    -- m is the leading monomial of f: its coefficient is not zero, and those of all greater monomials are (001: multidegree).
    abbrev pub Leading : Poly F M → M → Type 0
    Leading f m = (¬ (coef R 𝓜 f m ≡ R.zero)) × ((k : M) → lt m k → coef R 𝓜 f k ≡ R.zero)

    -- The leading monomial of each element of the ideal is divisible by the leading monomial of a line (001, definition 1.6, in its usual
    -- form; LeadingTermsGenerate of proofs/LeadingTerms.antt is its wording, and the two are one).
    abbrev pub Groebner : List (Line F M) → Type 0
    Groebner G = (f : Poly F M) (m : M) → IdealOf R 𝓜 G f → Leading f m → Reducible 𝓜 G m

    -- A reduced Groebner basis (001, definition 1.6): (1), leading coefficient 1, is in the form of a line, and (2) is `clear`.
    pub record Reduced (G : List (Line F M)) : Type 0 where
      pub lines : Lines R lt G
      pub once : Once G
      pub groebner : Groebner G
      pub clear : (p q : Line F M) → p ∈ G → q ∈ G → ¬ (p ≡ q) → All (λ m. ¬ Divides 𝓜 q.0 m) (polynomial R p)
