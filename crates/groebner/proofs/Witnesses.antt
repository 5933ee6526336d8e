-- What one example shows, where a definition speaks of all.
--   of-each                        what holds of every element of an explicit list holds of each
--   EachPair P l, of-pairs         what holds of each earlier and later element
--   same-remainder                 two remainders have the same coefficients (T1)
--   s-polynomial-unique            two S-polynomials of one pair have the same coefficients
--   Zero f g                       an S-polynomial of the lines f and g has remainder zero
--   buchberger-of-one              one such S-polynomial of each pair is enough
--   standard-of-coefficient        a coefficient that only the remainder of m has makes m standard
--   dependent-of-combination       one combination shows that m is not standard
use mathlib.Core.Path.{◌≡◌, sym, ◌∙◌, ap, ap₂, subst}
use mathlib.Core.List.{List, [], ◌∷◌}
use mathlib.Core.Logic.{inl, inr}
use Rattle.lists.specs.Lists.{◌∈◌, Each}
use Rattle.lists.specs.Pairs.{Before}
use Rattle.lists.proofs.EachElement.{each_at}
use Rattle.residue.specs.Field.{Arithmetic}
use Rattle.monomial.specs.Ordering.{Monomials}
use Rattle.monomial.proofs.OrderLaws.{MonomialOrder}
use Rattle.groebner.specs.Polynomials.{Poly, Same, coef, scale, minus, shift}
use Rattle.groebner.specs.Lines.{Line, polynomial}
use Rattle.groebner.specs.Remainders.{Remainder}
use Rattle.groebner.specs.Bases.{SPolynomial}
use Rattle.groebner.specs.Criteria.{Buchberger, Low}
use Rattle.groebner.specs.Standard.{Smaller, RemainderOf, Standard, combination}
use Rattle.groebner.proofs.Modules.{mul-zero}
use Rattle.groebner.proofs.Terms.{coef-nil, coef-append, coef-scale}
use Rattle.groebner.proofs.NormalForms.{NF-same}
use Rattle.groebner.proofs.Ground.{PolynomialRing, cancel_right, divides-antisym}
use Rattle.groebner.proofs.Division.{rewriting, remainder-NF}
use Rattle.groebner.proofs.GroebnerBases.{zero-remainder}

-- Each earlier and later element have P.
abbrev pub EachPair : {A : Type 0} → (A → A → Type 0) → List A → Type 0
EachPair P [] = Unit
EachPair P (x ∷ l) = Each (P x) l × EachPair P l

module _ {A : Type 0} where
  pub of-each : (P : A → Type 0) (l : List A) → Each P l → (x : A) → x ∈ l → P x
  of-each P l e x i = each_at P l e i

  pub of-pairs : (P : A → A → Type 0) (l : List A) → EachPair P l → (x y : A) → Before x y l → P x y
  of-pairs P [] e x y b = absurd b
  of-pairs P (z ∷ l) e x y (inl b) = subst (λ w. P w y) (sym b.0) (each_at (P z) l e.0 b.1)
  of-pairs P (z ∷ l) e x y (inr b) = of-pairs P l e.1 x y b

module _ {F M : Type 0} {R : Arithmetic F} {𝓜 : Monomials M} {lt : M → M → Type 0} (𝓟 : PolynomialRing R 𝓜) (ord : MonomialOrder 𝓜 lt) where
  open 𝓟 use {field, monoid}
  open field use {ring}

  pub s-polynomial-unique : (f g : Line F M) (s t : Poly F M) → SPolynomial R 𝓜 f g s → SPolynomial R 𝓜 f g t → Same R 𝓜 s t
  s-polynomial-unique f g s t a b k = a.outcome k ∙ ap₂ (λ u v. coef R 𝓜 (minus R (shift 𝓜 u (polynomial R f)) (shift 𝓜 v (polynomial R g))) k)
      (cancel_right monoid ord a.u b.u f.0 (sym a.left ∙ one ∙ b.left)) (cancel_right monoid ord a.v b.v g.0 (sym a.right ∙ one ∙ b.right)) ∙ sym (b.outcome k)
    where
      one : a.m ≡ b.m
      one = divides-antisym ord a.m b.m (a.lcm.least b.m b.lcm.left b.lcm.right) (b.lcm.least a.m a.lcm.left a.lcm.right)

  module _ (G : List (Line F M)) (low : Low lt G) where
    pub same-remainder : {f r s : Poly F M} → Remainder R 𝓜 lt G f r → Remainder R 𝓜 lt G f s → Same R 𝓜 r s
    same-remainder a b k = remainder-NF 𝓟 ord G low a k ∙ sym (remainder-NF 𝓟 ord G low b k)

    -- An S-polynomial of f and g has remainder zero.
    abbrev pub Zero : Line F M → Line F M → Type 0
    Zero f g = (s : Poly F M) × SPolynomial R 𝓜 f g s × Remainder R 𝓜 lt G s []

    pub buchberger-of-one : EachPair Zero G → Buchberger R 𝓜 lt G
    buchberger-of-one e f g b t w = zero-remainder 𝓟 ord G low t w.proper (λ k. let (s, v, r) = of-pairs Zero G e f g b in
        NF-same (rewriting 𝓟 ord G low) t s (s-polynomial-unique f g t s w v) k ∙ sym (remainder-NF 𝓟 ord G low r k) ∙ coef-nil ring 𝓜 k)

    module _ (lt' : M → M → Type 0) (m : M) {r : Poly F M} (own : RemainderOf R 𝓜 lt lt' G m r) where
      pub standard-of-coefficient : (k : M) → ¬ (coef R 𝓜 r k ≡ R.zero)
          → ((j : M) → lt' j m → (s : Poly F M) × RemainderOf R 𝓜 lt lt' G j s × (coef R 𝓜 s k ≡ R.zero)) → Standard R 𝓜 lt lt' G m
      standard-of-coefficient k n others = (r, own, λ l e. n (e k ∙ none l))
        where
          none : (l : List (Smaller R 𝓜 lt lt' G m)) → coef R 𝓜 (combination R 𝓜 lt lt' G l) k ≡ R.zero
          none [] = coef-nil ring 𝓜 k
          none (x ∷ l) = let (s, q, z) = others x.k x.smaller in
              coef-append ring 𝓜 (scale R x.c x.r) (combination R 𝓜 lt lt' G l) k
              ∙ ap₂ R.add (coef-scale ring 𝓜 x.c x.r k ∙ ap (R.mul x.c) (same-remainder x.remainder q k ∙ z) ∙ mul-zero ring x.c) (none l) ∙ ring.add_zero R.zero

      pub dependent-of-combination : (l : List (Smaller R 𝓜 lt lt' G m)) → Same R 𝓜 r (combination R 𝓜 lt lt' G l) → ¬ Standard R 𝓜 lt lt' G m
      dependent-of-combination l e s = s.2 l (λ k. same-remainder s.1 own k ∙ e k)
