-- Lines H, in another order, of elements of the ideal of G, such that no element of that ideal but zero is free of the leads of H: they have the same ideal,
-- and are a Groebner basis of it.
--   ideal-into, ideal-onto      the ideal of H is that of G
--   same-ideal                  both
--   groebner-by-freedom         H is a Groebner basis
use mathlib.Core.Path.{◌≡◌, sym, subst}
use mathlib.Core.List.{List, []}
use Rattle.lists.specs.Lists.{◌∈◌}
use Rattle.residue.specs.Field.{Arithmetic}
use Rattle.monomial.specs.Ordering.{Monomials}
use Rattle.monomial.proofs.OrderLaws.{MonomialOrder}
use Rattle.groebner.specs.Polynomials.{Poly, Polynomial, coef}
use Rattle.groebner.specs.Lines.{Line, polynomial}
use Rattle.groebner.specs.Criteria.{Low}
use Rattle.groebner.specs.Remainders.{Normal, Remainder}
use Rattle.groebner.specs.Ideals.{IdealOf, SameIdeal}
use Rattle.groebner.specs.Bases.{Groebner}
use Rattle.groebner.proofs.Modules.{self, undo-difference}
use Rattle.groebner.proofs.Terms.{clean, clean-proper, clean-same}
use Rattle.groebner.proofs.NormalForms.{Rewriting, rule, Member, member-add, member-neg, member-same}
use Rattle.groebner.proofs.Ground.{PolynomialRing}
use Rattle.groebner.proofs.Division.{LinePlace, rewriting, remainder, remainder-proper, remainder-finished}
use Rattle.groebner.proofs.Ideals.{ideal-same, member-of-ideal, ideal-of-member}
use Rattle.groebner.proofs.GroebnerBases.{remainder-member, ideal-of-zero, groebner-of-zero}
use Rattle.groebner.proofs.Congruence.{into}

module _ {F M : Type 0} {R : Arithmetic F} {𝓜 : Monomials M} {lt lt' : M → M → Type 0} (𝓟 : PolynomialRing R 𝓜) (ord : MonomialOrder 𝓜 lt) (G : List (Line F M)) (low : Low lt G)
    (ord' : MonomialOrder 𝓜 lt') (H : List (Line F M)) (low' : Low lt' H)
    (inside : (h : Line F M) → h ∈ H → IdealOf R 𝓜 G (polynomial R h)) (free : (f : Poly F M) → Polynomial R f → Normal 𝓜 H f → IdealOf R 𝓜 G f → f ≡ []) where
  open 𝓟 use {field}
  open field use {ring, decide}

  abbrev S : Rewriting R 𝓜 (LinePlace G)
  S = rewriting 𝓟 ord G low

  abbrev T : Rewriting R 𝓜 (LinePlace H)
  T = rewriting 𝓟 ord' H low'

  held : (j : LinePlace H) → Member S (coef R 𝓜 (rule T j))
  unfolding rule polynomial
  held j = member-of-ideal 𝓟 ord G low (polynomial R j.0) (inside j.0 j.1)

  pub ideal-into : (f : Poly F M) → IdealOf R 𝓜 H f → IdealOf R 𝓜 G f
  ideal-into f a = ideal-of-member 𝓟 ord G low f (into S T held _ (member-of-ideal 𝓟 ord' H low' f a))

  zero-by-H : (f : Poly F M) → Polynomial R f → IdealOf R 𝓜 G f → Remainder R 𝓜 lt' H f []
  unfolding self
  zero-by-H f p a = go (remainder 𝓟 ord' H low' f p)
    where
      go : (r : Poly F M) × Remainder R 𝓜 lt' H f r → Remainder R 𝓜 lt' H f []
      go (r, q) = subst (λ x. Remainder R 𝓜 lt' H f x) (free r (remainder-proper 𝓟 ord' H low' p q) (remainder-finished 𝓟 ord' H low' q) still) q
        where
          still : IdealOf R 𝓜 G r
          still = ideal-of-member 𝓟 ord G low r (member-same S _ _ (λ k. undo-difference (self ring) (coef R 𝓜 f k) (coef R 𝓜 r k))
              (member-add S _ _ (member-of-ideal 𝓟 ord G low f a) (member-neg S _ (into S T held _ (remainder-member 𝓟 ord' H low' q)))))

  pub ideal-onto : (f : Poly F M) → IdealOf R 𝓜 G f → IdealOf R 𝓜 H f
  ideal-onto f a = ideal-same ring 𝓜 _ f g (λ k. sym (clean-same ring 𝓜 decide f k))
      (ideal-of-zero 𝓟 ord' H low' (zero-by-H g (clean-proper ring 𝓜 decide f) (ideal-same ring 𝓜 _ g f (clean-same ring 𝓜 decide f) a)))
    where
      g : Poly F M
      g = clean ring 𝓜 decide f

  pub same-ideal : SameIdeal R 𝓜 G H
  same-ideal f = (ideal-onto f, ideal-into f)

  pub groebner-by-freedom : Groebner R 𝓜 lt' H
  groebner-by-freedom = groebner-of-zero 𝓟 ord' H low' (λ f p a. zero-by-H f p (ideal-into f a))
