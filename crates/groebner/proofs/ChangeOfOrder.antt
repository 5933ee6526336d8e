-- The change of order (T6, T7). G is a Groebner basis in one order, and H has, for a second order, one line for each minimal monomial that is not standard:
-- H is the reduced Groebner basis of the same ideal in the second order, and the standard monomials are those that no lead of H divides.
--   standard-divisor        divisors of a standard monomial are standard (T6)
--   standard-independent    the remainders of standard monomials are independent (T6)
--   Of a Conversion H (T7): conversion-ideal, conversion-standard, conversion-reduced
use mathlib.Core.Path.{◌≡◌, sym, ◌∙◌, ap, ap₂, fun_ext}
use mathlib.Core.List.{List, [], ◌∷◌}
use mathlib.Core.Logic.{◌↔◌}
use Rattle.lists.specs.Lists.{◌∈◌}
use Rattle.residue.specs.Field.{Arithmetic}
use Rattle.monomial.specs.Ordering.{Monomials, Divides}
use Rattle.monomial.proofs.OrderLaws.{MonomialOrder}
use Rattle.groebner.specs.Polynomials.{Poly, All, all_cons, Polynomial, negate, minus, δ, coef}
use Rattle.groebner.specs.Lines.{Line, polynomial, Reducible}
use Rattle.groebner.specs.Criteria.{Low}
use Rattle.groebner.specs.Remainders.{Normal}
use Rattle.groebner.specs.Ideals.{IdealOf, SameIdeal}
use Rattle.groebner.specs.Bases.{Groebner, Reduced}
use Rattle.groebner.specs.Standard.{Standard}
use Rattle.groebner.specs.Conversions.{Conversion}
use Rattle.groebner.proofs.Modules.{self, functions, equal-of-difference, cancel-difference, opposite-opposite}
use Rattle.groebner.proofs.Linear.{all_map, all_append, all-scale}
use Rattle.groebner.proofs.Terms.{all_of, coef-cons, coef-negate, coef-minus, nil-of-zero}
use Rattle.groebner.proofs.NormalForms.{Rewriting, member-add, member-neg, member-same}
use Rattle.groebner.proofs.Ground.{PolynomialRing}
use Rattle.groebner.proofs.Division.{LinePlace, rewriting}
use Rattle.groebner.proofs.Ideals.{ideal-same, member-of-ideal, ideal-of-member}
use Rattle.groebner.proofs.GroebnerBases.{groebner-NF, ideal-of-zero}
use Rattle.groebner.proofs.Leads.{falling-unique}
use Rattle.groebner.proofs.Spans.{Dependent, dependent-up, independent}
use Rattle.groebner.proofs.Images.{𝓕, image, image-NF, standard-iff, image-equation, image-shifts}
use Rattle.groebner.proofs.OtherLines.{same-ideal, groebner-by-freedom}

module _ {F M : Type 0} {R : Arithmetic F} {𝓜 : Monomials M} {lt lt' : M → M → Type 0} (𝓟 : PolynomialRing R 𝓜) (ord : MonomialOrder 𝓜 lt) (ord' : MonomialOrder 𝓜 lt')
    (G : List (Line F M)) (low : Low lt G) (gb : Groebner R 𝓜 lt G) where
  open R use {zero as 𝟘, one as 𝟙, add, mul, neg}
  open 𝓜 use {mul as prod}
  open 𝓟 use {field, monoid}
  open field use {ring, decide}

  abbrev S : Rewriting R 𝓜 (LinePlace G)
  S = rewriting 𝓟 ord G low

  abbrev Std : M → Type 0
  Std = Standard R 𝓜 lt lt' G

  abbrev Dep : M → Type 0
  Dep = Dependent (𝓕 𝓟 ord G low) (image 𝓟 ord G low) lt'

  std : (m : M) → Std m ↔ (¬ Dep m)
  std = standard-iff 𝓟 ord G low lt'

  pub standard-divisor : (d m : M) → Divides 𝓜 d m → Std m → Std d
  standard-divisor d m p s = (std d).1 (λ n. (std m).0 s (dependent-up (𝓕 𝓟 ord G low) (image 𝓟 ord G low) ord' (image-shifts 𝓟 ord G low gb) d m p n))

  -- A combination of standard monomials in the ideal is zero.
  pub standard-independent : (f : Poly F M) → All Std f → IdealOf R 𝓜 G f → (k : M) → coef R 𝓜 f k ≡ 𝟘
  unfolding functions self
  standard-independent f a i = independent (𝓕 𝓟 ord G low) (image 𝓟 ord G low) ord' field f (all_map (λ m. (std m).0) a)
      (fun_ext (λ k. image-NF 𝓟 ord G low f k ∙ groebner-NF 𝓟 ord G low gb f (member-of-ideal 𝓟 ord G low f i) k))

  module _ (H : List (Line F M)) (w : Conversion R 𝓜 lt lt' G H) where
    open w use {lines, once, leads, every, tails, remainders}

    low' : Low lt' H
    low' h p = (lines.falling h p).0

    inside : (h : Line F M) → h ∈ H → IdealOf R 𝓜 G (polynomial R h)
    inside h p = ideal-of-zero 𝓟 ord G low (remainders h p)

    -- What no lead of H divides is standard.
    standard-of-free : (m : M) → ¬ Reducible 𝓜 H m → Std m
    standard-of-free m n = (std m).1 (λ d. n (every m (λ s. (std m).0 s d)))

    free : (f : Poly F M) → Polynomial R f → Normal 𝓜 H f → IdealOf R 𝓜 G f → f ≡ []
    free f p fin a = nil-of-zero ring 𝓜 f p (standard-independent f (all_of f (λ c m t. standard-of-free m (fin c m t))) a)

    pub conversion-ideal : SameIdeal R 𝓜 G H
    conversion-ideal = same-ideal 𝓟 ord G low ord' H low' inside free

    -- The lead of a line depends on its tail.
    lead-dependent : (h : Line F M) → h ∈ H → Dep h.0
    unfolding polynomial negate self
    lead-dependent h p = (
      negate R h.1,
      all-scale R (neg 𝟙) (low' h p),
      (image-equation 𝓟 ord G low gb h.0 (negate R h.1)).1
          (ideal-same ring 𝓜 _ (minus R ((𝟙, h.0) ∷ []) (negate R h.1)) (polynomial R h) value (inside h p)),
    )
      where
        value : (k : M) → coef R 𝓜 ((𝟙, h.0) ∷ negate R (negate R h.1)) k ≡ coef R 𝓜 ((𝟙, h.0) ∷ h.1) k
        value k = coef-cons ring 𝓜 (𝟙, h.0) (negate R (negate R h.1)) k
            ∙ ap (add _) (coef-negate ring 𝓜 (negate R h.1) k ∙ ap neg (coef-negate ring 𝓜 h.1 k) ∙ opposite-opposite (self ring) _) ∙ sym (coef-cons ring 𝓜 (𝟙, h.0) h.1 k)

    reducible-dependent : (m : M) → Reducible 𝓜 H m → Dep m
    reducible-dependent m (h, p, d) = dependent-up (𝓕 𝓟 ord G low) (image 𝓟 ord G low) ord' (image-shifts 𝓟 ord G low gb) h.0 m d (lead-dependent h p)

    pub conversion-standard : (m : M) → Std m ↔ (¬ Reducible 𝓜 H m)
    conversion-standard m = (λ s r. (std m).0 s (reducible-dependent m r), standard-of-free m)

    -- Two lines with the same lead are equal: their difference is a combination of standard monomials.
    same-lead : (g h : Line F M) → g ∈ H → h ∈ H → g.0 ≡ h.0 → g ≡ h
    unfolding polynomial negate self
    same-lead g h p q e = ap₂ (λ (x : M) (y : Poly F M). (x, y)) e (falling-unique ring ord' g.1 h.1 (lines.falling g p).1 (lines.falling h q).1 (lines.proper g p) (lines.proper h q)
        (λ k. equal-of-difference (self ring) _ _ (sym (coef-minus ring 𝓜 g.1 h.1 k) ∙ standard-independent (minus R g.1 h.1) (all_append (tails g p) (all-scale R (neg 𝟙) (tails h q))) gone k)))
      where
        value : (k : M) → coef R 𝓜 (minus R g.1 h.1) k ≡ add (coef R 𝓜 (polynomial R g) k) (neg (coef R 𝓜 (polynomial R h) k))
        value k = coef-minus ring 𝓜 g.1 h.1 k ∙ sym (ap₂ (λ x y. add x (neg y)) (coef-cons ring 𝓜 (𝟙, g.0) g.1 k) (coef-cons ring 𝓜 (𝟙, h.0) h.1 k ∙ ap (λ m. add (mul 𝟙 (δ R 𝓜 k m)) (coef R 𝓜 h.1 k)) (sym e))
            ∙ cancel-difference (self ring) _ _ _)

        gone : IdealOf R 𝓜 G (minus R g.1 h.1)
        gone = ideal-of-member 𝓟 ord G low _ (member-same S _ _ value (member-add S _ _ (member-of-ideal 𝓟 ord G low _ (inside g p)) (member-neg S _ (member-of-ideal 𝓟 ord G low _ (inside h q)))))

    pub conversion-reduced : Reduced R 𝓜 lt' H
    unfolding polynomial
    conversion-reduced = record {
      lines = lines;
      once = once;
      groebner = groebner-by-freedom 𝓟 ord G low ord' H low' inside free;
      clear = λ p q a b n. all_cons (λ d. other p q a b n d (𝓜.same? q.0 p.0)) (all_map (λ m s d. (conversion-standard m).0 s (q, b, d)) (tails p a));
    }
      where
        other : (p q : Line F M) → p ∈ H → q ∈ H → ¬ (p ≡ q) → Divides 𝓜 q.0 p.0 → Dec (q.0 ≡ p.0) → ⊥
        other p q a b n d (yes e) = n (sym (same-lead q p b a e))
        other p q a b n d (no m) = (leads q b).0 ((leads p a).1 q.0 d m)
