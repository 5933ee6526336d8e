-- Definition 1.7 of 001: the division by the lines, with a cofactor for each.
--   NoneAbove R 𝓜 lt m f        the coefficients of f above m are zero
--   Within R 𝓜 lt m qs fs       so of the product of each cofactor of qs and its generator of fs
--   division-to-the-letter      f is the sum of the products of cofactors and lines and of its remainder, and no product has a greater multidegree than f
use mathlib.Core.Path.{◌≡◌, refl, sym, ◌∙◌, ap, ap₂, subst}
use mathlib.Core.List.Memᴰ
use mathlib.Core.List.{List, [], ◌∷◌, ◌++◌, map}
use mathlib.Core.Logic.{◌⊎◌, inl, inr}
use Rattle.lists.specs.Lists.{◌∈◌}
use Rattle.residue.specs.Field.{Arithmetic}
use Rattle.residue.specs.RingLaws.{Ring}
use Rattle.monomial.specs.Ordering.{Monomials}
use Rattle.monomial.proofs.OrderLaws.{MonomialOrder}
use Rattle.groebner.specs.Polynomials.{Poly, Polynomial, expand, shift, times, coef, Same}
use Rattle.groebner.specs.Lines.{Line, polynomial}
use Rattle.groebner.specs.Criteria.{Low}
use Rattle.groebner.specs.Remainders.{Normal, Remainder, done, step}
use Rattle.groebner.specs.Ideals.{combine}
use Rattle.groebner.proofs.Modules.{mul-zero}
use Rattle.groebner.proofs.Terms.{coef-nil, coef-append, coef-scale}
use Rattle.groebner.proofs.Ground.{PolynomialRing}
use Rattle.groebner.proofs.Division.{coef-above}
use Rattle.groebner.proofs.Ideals.{add_cofactors, times-append, coef-add-cofactors, cofactor_at, coef-cofactor-at}
use Rattle.groebner.proofs.GroebnerBases.{step_value, place, step-above, step-under, regroup}

module _ {F M : Type 0} (R : Arithmetic F) (𝓜 : Monomials M) (lt : M → M → Type 0) where
  -- The coefficients above m are zero: the multidegree is at most m (001), or the polynomial is zero.
  abbrev pub NoneAbove : M → Poly F M → Type 0
  NoneAbove m f = (k : M) → lt m k → coef R 𝓜 f k ≡ R.zero

  -- So of each product of a cofactor and its generator.
  abbrev pub Within : M → List (Poly F M) → List (Poly F M) → Type 0
  Within m [] fs = Unit
  Within m (a ∷ qs) [] = Unit
  Within m (a ∷ qs) (f ∷ fs) = NoneAbove m (times R 𝓜 a f) × Within m qs fs

module _ {F M : Type 0} {R : Arithmetic F} (ring : Ring R) (𝓜 : Monomials M) (lt : M → M → Type 0) (m : M) where
  open R use {zero as 𝟘, add}

  within-join : (qs bs fs : List (Poly F M)) → Within R 𝓜 lt m qs fs → Within R 𝓜 lt m bs fs → Within R 𝓜 lt m (add_cofactors ring 𝓜 qs bs) fs
  unfolding add_cofactors
  within-join [] bs fs a b = b
  within-join (x ∷ qs) [] fs a b = a
  within-join (x ∷ qs) (y ∷ bs) [] a b = tt
  within-join (x ∷ qs) (y ∷ bs) (f ∷ fs) a b = (λ k w. times-append ring 𝓜 x y f k ∙ ap₂ add (a.0 k w) (b.0 k w) ∙ ring.add_zero 𝟘, within-join qs bs fs a.1 b.1)

  within-at : {f : Poly F M} {fs : List (Poly F M)} (i : f ∈ fs) (a : Poly F M) → NoneAbove R 𝓜 lt m (times R 𝓜 a f) → Within R 𝓜 lt m (cofactor_at ring 𝓜 i a) fs
  unfolding cofactor_at expand
  within-at (Memᴰ.head e) a n = ((λ k w. ap (λ f. coef R 𝓜 (times R 𝓜 a f) k) (sym e) ∙ n k w), tt)
  within-at (Memᴰ.tail i) a n = ((λ k w. coef-nil ring 𝓜 k), within-at i a n)

module _ {F M : Type 0} {R : Arithmetic F} {𝓜 : Monomials M} {lt : M → M → Type 0} (𝓟 : PolynomialRing R 𝓜) (ord : MonomialOrder 𝓜 lt) (G : List (Line F M)) (low : Low lt G) where
  open R use {zero as 𝟘, add, mul}
  open 𝓟 use {field}
  open field use {ring}

  abbrev fs : List (Poly F M)
  fs = map (polynomial R) G

  -- A monomial cofactor.
  coef-times-term : (c : F) (u : M) (f : Poly F M) (k : M) → coef R 𝓜 (times R 𝓜 ((c, u) ∷ []) f) k ≡ mul c (coef R 𝓜 (shift 𝓜 u f) k)
  unfolding expand
  coef-times-term c u f k = coef-append ring 𝓜 _ [] k ∙ ap (add _) (coef-nil ring 𝓜 k) ∙ ring.add_zero _ ∙ coef-scale ring 𝓜 c (shift 𝓜 u f) k

  -- Where f has no term above m (001: m is its multidegree).
  pub division-to-the-letter : (m : M) {f r : Poly F M} → NoneAbove R 𝓜 lt m f → Polynomial R f → Remainder R 𝓜 lt G f r
      → (qs : List (Poly F M)) × Same R 𝓜 f (combine R 𝓜 qs fs ++ r) × Normal 𝓜 G r × Within R 𝓜 lt m qs fs
  division-to-the-letter m b p (done h) = ([], λ k. refl, h, tt)
  division-to-the-letter m {f} {r} b p (step {f' = f'} s q) = more (division-to-the-letter m (λ k w. step-above 𝓟 ord G low s k (up k w under) ∙ b k w) s.proper q)
    where
      under : (s.m ≡ m) ⊎ lt s.m m
      under = step-under 𝓟 ord G low s p m b

      up : (k : M) → lt m k → (s.m ≡ m) ⊎ lt s.m m → lt s.m k
      up k w (inl e) = subst (λ z. lt z k) (sym e) w
      up k w (inr l) = ord.trans l w

      g∈ : polynomial R s.g ∈ fs
      g∈ = Memᴰ.map (polynomial R) (place 𝓟 ord G low s)

      term : Poly F M
      term = (s.c, s.u) ∷ []

      none : NoneAbove R 𝓜 lt m (times R 𝓜 term (polynomial R s.g))
      none k w = coef-times-term s.c s.u (polynomial R s.g) k
          ∙ ap (mul s.c) (coef-above 𝓟 ord G low s.g (place 𝓟 ord G low s) s.u k (subst (λ z. lt z k) s.quotient (up k w under))) ∙ mul-zero ring s.c

      more : (qs : List (Poly F M)) × Same R 𝓜 f' (combine R 𝓜 qs fs ++ r) × Normal 𝓜 G r × Within R 𝓜 lt m qs fs
          → (qs : List (Poly F M)) × Same R 𝓜 f (combine R 𝓜 qs fs ++ r) × Normal 𝓜 G r × Within R 𝓜 lt m qs fs
      more (qs, same, normal, within) = (
        add_cofactors ring 𝓜 (cofactor_at ring 𝓜 g∈ term) qs,
        λ k. regroup 𝓟 ord G low (coef R 𝓜 f k) _ (coef R 𝓜 (combine R 𝓜 qs fs) k) (coef R 𝓜 r k) (coef R 𝓜 f' k) (step_value 𝓟 ord G low s k) (same k ∙ coef-append ring 𝓜 _ r k)
            ∙ ap₂ add (sym (coef-add-cofactors ring 𝓜 (cofactor_at ring 𝓜 g∈ term) qs fs k ∙ ap₂ add (coef-cofactor-at ring 𝓜 g∈ term k ∙ coef-times-term s.c s.u (polynomial R s.g) k) refl)) refl
            ∙ sym (coef-append ring 𝓜 _ r k),
        normal,
        within-join ring 𝓜 lt m (cofactor_at ring 𝓜 g∈ term) qs fs (within-at ring 𝓜 lt m g∈ term none) within,
      )
