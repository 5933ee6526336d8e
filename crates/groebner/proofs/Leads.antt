-- Leading monomials: of polynomials with the greatest term first, and of lines.
--   coef-over, coef-head, coef-past       coefficients at and above the greatest term
--   falling-unique                        with the greatest term first, a polynomial is written in one way
--   leads-low, leading_line, ideal-line   a line: its tail, its leading monomial, its place in the ideal
--   leading_unique                        a polynomial has one leading monomial
use mathlib.Core.Path.{◌≡◌, refl, sym, ◌∙◌, ap, ap₂, subst}
use mathlib.Core.List.{List, [], ◌∷◌}
use mathlib.Core.Logic.{◌⊎◌, inl, inr}
use Rattle.lists.specs.Lists.{◌∈◌}
use Rattle.residue.specs.Field.{Arithmetic}
use Rattle.residue.specs.RingLaws.{Ring}
use Rattle.monomial.specs.Ordering.{Monomials}
use Rattle.monomial.proofs.OrderLaws.{MonomialOrder}
use Rattle.monomial.proofs.AnyOrder.{irreflexive, asymmetric}
use Rattle.groebner.specs.Polynomials.{Poly, All, Polynomial, coef, Same}
use Rattle.groebner.specs.Lines.{Line, polynomial, Falling, Lines}
use Rattle.groebner.specs.Criteria.{Low}
use Rattle.groebner.specs.Ideals.{IdealOf}
use Rattle.groebner.specs.Bases.{Leading}
use Rattle.groebner.proofs.Linear.{all_map}
use Rattle.groebner.proofs.Terms.{coef-nil, coef-here, coef-there, coef-absent}
use Rattle.groebner.proofs.Ground.{PolynomialRing}
use Rattle.groebner.proofs.Ideals.{member-line, ideal-of-member}

module _ {F M : Type 0} {R : Arithmetic F} (ring : Ring R) {𝓜 : Monomials M} {lt : M → M → Type 0} (ord : MonomialOrder 𝓜 lt) where
  open R use {zero as 𝟘, add}

  -- Above all monomials of f its coefficients are zero.
  pub coef-over : (f : Poly F M) (m k : M) → All (λ x. lt x m) f → (m ≡ k) ⊎ lt m k → coef R 𝓜 f k ≡ 𝟘
  coef-over f m k a (inl e) = coef-absent ring 𝓜 f k (all_map (λ x h q. irreflexive ord (subst (λ z. lt z m) (q ∙ sym e) h)) a)
  coef-over f m k a (inr w) = coef-absent ring 𝓜 f k (all_map (λ x h q. asymmetric ord w (subst (λ z. lt z m) q h)) a)

  pub coef-head : (t : F × M) (f : Poly F M) → All (λ x. lt x t.1) f → coef R 𝓜 (t ∷ f) t.1 ≡ t.0
  coef-head t f a = coef-here ring 𝓜 t.0 t.1 f ∙ ap (add t.0) (coef-over f t.1 t.1 a (inl refl)) ∙ ring.add_zero _

  pub coef-past : (t : F × M) (f : Poly F M) (k : M) → All (λ x. lt x t.1) f → lt t.1 k → coef R 𝓜 (t ∷ f) k ≡ 𝟘
  coef-past t f k a w = coef-there ring 𝓜 t f k (λ e. irreflexive ord (subst (λ z. lt z k) (sym e) w)) ∙ coef-over f t.1 k a (inr w)

  -- With the greatest term first, a polynomial is written in one way.
  pub falling-unique : (f g : Poly F M) → Falling lt f → Falling lt g → Polynomial R f → Polynomial R g → Same R 𝓜 f g → f ≡ g
  falling-unique [] [] a b p q h = refl
  falling-unique [] (t ∷ g) a b p q h = absurd (q.0 (sym (coef-head t g b.0) ∙ sym (h t.1) ∙ coef-nil ring 𝓜 t.1))
  falling-unique (t ∷ f) [] a b p q h = absurd (p.0 (sym (coef-head t f a.0) ∙ h t.1 ∙ coef-nil ring 𝓜 t.1))
  falling-unique (t ∷ f) (s ∷ g) a b p q h = go (ord.total t.1 s.1) (falling-unique f g a.1 b.1 p.2 q.2)
    where
      go : lt t.1 s.1 ⊎ ((t.1 ≡ s.1) ⊎ lt s.1 t.1) → (Same R 𝓜 f g → f ≡ g) → t ∷ f ≡ s ∷ g
      go (inl w) r = absurd (q.0 (sym (coef-head s g b.0) ∙ sym (h s.1) ∙ coef-past t f s.1 a.0 w))
      go (inr (inr w)) r = absurd (p.0 (sym (coef-head t f a.0) ∙ h t.1 ∙ coef-past s g t.1 b.0 w))
      go (inr (inl e)) r = ap₂ (λ (x : F × M) (y : Poly F M). x ∷ y) (ap₂ (λ x y. (x, y)) (sym (coef-head t f a.0) ∙ h t.1 ∙ ap (coef R 𝓜 (s ∷ g)) e ∙ coef-head s g b.0) e) (r (λ k. rest k (𝓜.same? k t.1)))
        where
          rest : (k : M) → Dec (k ≡ t.1) → coef R 𝓜 f k ≡ coef R 𝓜 g k
          rest k (yes q) = coef-over f t.1 k a.0 (inl (sym q)) ∙ sym (coef-over g s.1 k b.0 (inl (sym e ∙ sym q)))
          rest k (no n) = sym (coef-there ring 𝓜 t f k n) ∙ h k ∙ coef-there ring 𝓜 s g k (λ q. n (q ∙ sym e))

module _ {F M : Type 0} {R : Arithmetic F} {𝓜 : Monomials M} {lt : M → M → Type 0} (𝓟 : PolynomialRing R 𝓜) (ord : MonomialOrder 𝓜 lt) where
  open R use {one as 𝟙}
  open 𝓟 use {field}
  open field use {ring, nontrivial}

  -- The tail of a line is below its leading monomial.
  pub leads-low : {G : List (Line F M)} → Lines R lt G → Low lt G
  leads-low s g p = (s.falling g p).0

  pub leading_line : {G : List (Line F M)} → Lines R lt G → (g : Line F M) → g ∈ G → Leading R 𝓜 lt (polynomial R g) g.0
  unfolding polynomial
  leading_line s g p = (λ e. nontrivial (sym (coef-head ring ord (𝟙, g.0) g.1 (leads-low s g p)) ∙ e), λ k w. coef-past ring ord (𝟙, g.0) g.1 k (leads-low s g p) w)

  pub ideal-line : {G : List (Line F M)} → Lines R lt G → (g : Line F M) → g ∈ G → IdealOf R 𝓜 G (polynomial R g)
  ideal-line {G} s g p = ideal-of-member 𝓟 ord G (leads-low s) (polynomial R g) (member-line 𝓟 ord G (leads-low s) g p)

  pub leading_unique : (f : Poly F M) (m k : M) → Leading R 𝓜 lt f m → Leading R 𝓜 lt f k → m ≡ k
  leading_unique f m k a b = go (ord.total m k)
    where
      go : lt m k ⊎ ((m ≡ k) ⊎ lt k m) → m ≡ k
      go (inl w) = absurd (b.0 (a.1 k w))
      go (inr (inl e)) = e
      go (inr (inr w)) = absurd (a.0 (b.1 m w))
