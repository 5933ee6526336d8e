-- The image of a monomial: the coefficients of its remainder. Standard monomials by demand 2's words are those whose image is independent of smaller ones.
--   𝓕                        the functions from monomials to coefficients, as a module
--   image 𝓟 ord G low m      the coefficients of the remainder of m
--   lin-at                   a sum of functions, at a place
--   image-remainder          the remainder of a monomial has the image's coefficients
--   image-NF                 the linear extension of the image is the normal form
--   standard-iff             standard (demand 2) exactly if not dependent on the images of smaller monomials
--   image-equation           on a Groebner basis: equal images exactly if the difference lies in the ideal
--   image-shifts             on a Groebner basis: an equation between images holds of the multiples too
use mathlib.Core.Path.{◌≡◌, refl, sym, ◌∙◌, ap, ap₂, subst, fun_ext}
use mathlib.Core.List.{List, [], ◌∷◌}
use mathlib.Core.Logic.{◌↔◌}
use Rattle.residue.specs.Field.{Arithmetic}
use Rattle.residue.specs.RingLaws.{Ring}
use Rattle.monomial.specs.Ordering.{Monomials}
use Rattle.monomial.proofs.OrderLaws.{MonomialOrder}
use Rattle.groebner.specs.Polynomials.{Poly, All, all_nil, all_cons, Polynomial, relabel, scale, negate, minus, shift, coef}
use Rattle.groebner.specs.Lines.{Line}
use Rattle.groebner.specs.Criteria.{Low}
use Rattle.groebner.specs.Remainders.{Remainder}
use Rattle.groebner.specs.Ideals.{IdealOf}
use Rattle.groebner.specs.Bases.{Groebner}
use Rattle.groebner.specs.Standard.{Smaller, combination, Standard}
use Rattle.groebner.proofs.Modules.{Module, self, functions}
use Rattle.groebner.proofs.Linear.{lin}
use Rattle.groebner.proofs.Terms.{coef-nil, coef-append, coef-scale}
use Rattle.groebner.proofs.NormalForms.{Rewriting, nf, nfc, NF, NF-coef, Member, member-shift}
use Rattle.groebner.proofs.Ground.{PolynomialRing}
use Rattle.groebner.proofs.Division.{LinePlace, rewriting, remainder, remainder-NF}
use Rattle.groebner.proofs.Ideals.{member-of-ideal, ideal-of-member}
use Rattle.groebner.proofs.GroebnerBases.{groebner-NF}
use Rattle.groebner.proofs.Congruence.{agree-of-member, member-of-agree}
use Rattle.groebner.proofs.Spans.{Dependent, Shifts}

-- A sum of functions, at a place.
pub lin-at : {F M N : Type 0} {R : Arithmetic F} (ring : Ring R) (L : M → N → F) (f : Poly F M) (k : N) → lin (functions N (self ring)) L f k ≡ lin (self ring) (λ m. L m k) f
unfolding lin functions self
lin-at ring L [] k = refl
lin-at {R = R} ring L (t ∷ f) k = ap (R.add _) (lin-at ring L f k)

module _ {F M : Type 0} {R : Arithmetic F} {𝓜 : Monomials M} {lt : M → M → Type 0} (𝓟 : PolynomialRing R 𝓜) (ord : MonomialOrder 𝓜 lt) (G : List (Line F M)) (low : Low lt G) where
  open R use {zero as 𝟘, one as 𝟙, add, mul}
  open 𝓟 use {field}
  open field use {ring, nontrivial}

  abbrev S : Rewriting R 𝓜 (LinePlace G)
  S = rewriting 𝓟 ord G low

  -- The functions from monomials to coefficients.
  abbrev pub 𝓕 : Module R (M → F)
  𝓕 = functions M (self ring)

  -- The coefficients of the remainder of m.
  abbrev pub image : M → M → F
  image m k = coef R 𝓜 (nf S m) k

  -- A monomial as a polynomial.
  abbrev mono : M → Poly F M
  mono m = (𝟙, m) ∷ []

  mono-proper : (m : M) → Polynomial R (mono m)
  mono-proper m = (nontrivial, all_nil, tt)

  lin-mono : (L : M → F) (m : M) → lin (self ring) L (mono m) ≡ L m
  unfolding lin self
  lin-mono L m = ring.add_zero _ ∙ ring.mul_comm 𝟙 (L m) ∙ ring.mul_one (L m)

  image_mono : (m k : M) → coef R 𝓜 (NF S (mono m)) k ≡ image m k
  image_mono m k = NF-coef S (mono m) k ∙ lin-mono (nfc S k) m

  pub image-remainder : (m : M) (r : Poly F M) → Remainder R 𝓜 lt G (mono m) r → (k : M) → coef R 𝓜 r k ≡ image m k
  image-remainder m r q k = remainder-NF 𝓟 ord G low q k ∙ image_mono m k

  pub image-NF : (f : Poly F M) (k : M) → lin 𝓕 image f k ≡ coef R 𝓜 (NF S f) k
  image-NF f k = lin-at ring image f k ∙ sym (NF-coef S f k)

  relabel-scale : (u : M) (c : F) (f : Poly F M) → relabel (𝓜.mul u) (scale R c f) ≡ scale R c (relabel (𝓜.mul u) f)
  unfolding relabel scale
  relabel-scale u c [] = refl
  relabel-scale u c (t ∷ f) = ap ((mul c t.0, 𝓜.mul u t.1) ∷◌) (relabel-scale u c f)

  shift-minus : (u m : M) (f : Poly F M) → shift 𝓜 u (minus R (mono m) f) ≡ minus R (mono (𝓜.mul u m)) (shift 𝓜 u f)
  unfolding relabel negate
  shift-minus u m f = ap ((𝟙, 𝓜.mul u m) ∷◌) (relabel-scale u (R.neg 𝟙) f)

  -- Standard monomials for a second order.
  module _ (lt' : M → M → Type 0) where
    terms : {m : M} → List (Smaller R 𝓜 lt lt' G m) → Poly F M
    terms [] = []
    terms (x ∷ l) = (x.c, x.k) ∷ terms l

    all_terms : {m : M} (l : List (Smaller R 𝓜 lt lt' G m)) → All (λ k. lt' k m) (terms l)
    unfolding terms
    all_terms [] = all_nil
    all_terms (x ∷ l) = all_cons x.smaller (all_terms l)

    coef-combination : {m : M} (l : List (Smaller R 𝓜 lt lt' G m)) (k : M) → coef R 𝓜 (combination R 𝓜 lt lt' G l) k ≡ lin (self ring) (λ j. image j k) (terms l)
    unfolding terms lin self
    coef-combination [] k = coef-nil ring 𝓜 k
    coef-combination (x ∷ l) k = coef-append ring 𝓜 (scale R x.c x.r) (combination R 𝓜 lt lt' G l) k
        ∙ ap₂ add (coef-scale ring 𝓜 x.c x.r k ∙ ap (mul x.c) (image-remainder x.k x.r x.remainder k)) (coef-combination l k)

    smaller : {m : M} {f : Poly F M} → All (λ k. lt' k m) f → List (Smaller R 𝓜 lt lt' G m)
    smaller all_nil = []
    smaller (all_cons {t = t} p a) = let r = remainder 𝓟 ord G low (mono t.1) (mono-proper t.1) in
        record { c = t.0; k = t.1; smaller = p; r = r.0; remainder = r.1 } ∷ smaller a

    terms-smaller : {m : M} {f : Poly F M} (a : All (λ k. lt' k m) f) → terms (smaller a) ≡ f
    unfolding terms smaller
    terms-smaller all_nil = refl
    terms-smaller (all_cons {t = t} p a) = ap (t ∷◌) (terms-smaller a)

    standard-of-independent : (m : M) → ¬ Dependent 𝓕 image lt' m → Standard R 𝓜 lt lt' G m
    standard-of-independent m n = let r = remainder 𝓟 ord G low (mono m) (mono-proper m) in
        (r.0, r.1, λ l same. n (terms l, all_terms l, fun_ext (λ k. sym (image-remainder m r.0 r.1 k) ∙ same k ∙ coef-combination l k ∙ sym (lin-at ring image (terms l) k))))

    independent-of-standard : (m : M) → Standard R 𝓜 lt lt' G m → ¬ Dependent 𝓕 image lt' m
    independent-of-standard m (r, q, none) (f, a, e) = none (smaller a) (λ k. image-remainder m r q k ∙ ap (λ v. v k) e ∙ lin-at ring image f k
        ∙ ap (lin (self ring) (λ j. image j k)) (sym (terms-smaller a)) ∙ sym (coef-combination (smaller a) k))

    pub standard-iff : (m : M) → Standard R 𝓜 lt lt' G m ↔ (¬ Dependent 𝓕 image lt' m)
    standard-iff m = (independent-of-standard m, standard-of-independent m)

  -- On a Groebner basis.
  module _ (gb : Groebner R 𝓜 lt G) where
    pub image-equation : (m : M) (q : Poly F M) → (image m ≡ lin 𝓕 image q) ↔ IdealOf R 𝓜 G (minus R (mono m) q)
    image-equation m q = (
      λ e. ideal-of-member 𝓟 ord G low (minus R (mono m) q) (member-of-agree S (mono m) q (λ k. image_mono m k ∙ ap (λ v. v k) e ∙ image-NF q k)),
      λ a. fun_ext (λ k. sym (image_mono m k) ∙ agree-of-member S (groebner-NF 𝓟 ord G low gb) (mono m) q (member-of-ideal 𝓟 ord G low (minus R (mono m) q) a) k ∙ sym (image-NF q k)),
    )

    pub image-shifts : Shifts 𝓕 image 𝓜
    image-shifts u m f e = (image-equation (𝓜.mul u m) (shift 𝓜 u f)).1 (ideal-of-member 𝓟 ord G low _
        (subst (λ g. Member S (coef R 𝓜 g)) (shift-minus u m f) (member-shift S u (minus R (mono m) f) (member-of-ideal 𝓟 ord G low _ ((image-equation m f).0 e)))))
