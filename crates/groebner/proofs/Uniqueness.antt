-- Uniqueness (T8): two reduced Groebner bases of one ideal in one order have the same lines, and written in rising order they are the same list.
--   unique-lines      every line of one is a line of the other
--   unique-basis      two rising reduced Groebner bases of one ideal are equal
use mathlib.Core.Path.{◌≡◌, refl, sym, ◌∙◌, ap, ap₂, subst}
use mathlib.Core.List.Memᴰ
use mathlib.Core.List.{List, ◌∷◌, List-discrete}
use mathlib.Core.HLevel.{×_discrete}
use mathlib.Core.Logic.{◌⊎◌, inl, inr}
use Rattle.lists.specs.Lists.{◌∈◌}
use Rattle.residue.specs.Field.{Arithmetic}
use Rattle.monomial.specs.Ordering.{Monomials, Divides}
use Rattle.monomial.proofs.OrderLaws.{MonomialOrder}
use Rattle.groebner.specs.Polynomials.{Poly, All, all_cons, minus, coef, Same}
use Rattle.groebner.specs.Lines.{Line, polynomial, Reducible, Rising}
use Rattle.groebner.specs.Remainders.{Normal}
use Rattle.groebner.specs.Ideals.{IdealOf, SameIdeal}
use Rattle.groebner.specs.Bases.{Reduced}
use Rattle.groebner.proofs.Modules.{self, equal-of-difference}
use Rattle.groebner.proofs.Terms.{all-at, find, coef-nil, coef-there, coef-absent, coef-minus, no-term, clean, clean-proper, clean-same}
use Rattle.groebner.proofs.NormalForms.{member-add, member-neg, member-same}
use Rattle.groebner.proofs.Ground.{PolynomialRing, not-below, divides-antisym, divides-trans}
use Rattle.groebner.proofs.Division.{rewriting}
use Rattle.groebner.proofs.Ideals.{member-of-ideal, ideal-of-member}
use Rattle.groebner.proofs.GroebnerBases.{zero-of-finished}
use Rattle.groebner.proofs.Leads.{coef-over, coef-head, falling-unique, leads-low, leading_line, ideal-line}
use Rattle.groebner.proofs.RisingLists.{rising-lines-unique}

module _ {F M : Type 0} {R : Arithmetic F} {𝓜 : Monomials M} {lt : M → M → Type 0} (𝓟 : PolynomialRing R 𝓜) (ord : MonomialOrder 𝓜 lt) where
  open R use {zero as 𝟘, one as 𝟙, add, neg}
  open 𝓜 use {mul as prod}
  open 𝓟 use {field, monoid}
  open field use {ring, decide, nontrivial}

  line-discrete : (g h : Line F M) → Dec (g ≡ h)
  line-discrete = ×_discrete 𝓜.same? (List-discrete (×_discrete decide 𝓜.same?))

  -- In a reduced basis, a line whose lead divides another line's lead is that line, and no lead divides a monomial of a tail.
  own-lead : {G : List (Line F M)} → Reduced R 𝓜 lt G → (g x : Line F M) → g ∈ G → x ∈ G → Divides 𝓜 x.0 g.0 → g ≡ x
  unfolding polynomial
  own-lead red g x p q d = go (line-discrete g x)
    where
      head : All (λ m. ¬ Divides 𝓜 x.0 m) ((𝟙, g.0) ∷ g.1) → ⊥
      head (all_cons h a) = h d

      go : Dec (g ≡ x) → g ≡ x
      go (yes e) = e
      go (no n) = absurd (head (red.clear g x p q n))

  no-tail : {G : List (Line F M)} → Reduced R 𝓜 lt G → (g x : Line F M) → g ∈ G → x ∈ G → (c : F) (k : M) → (c, k) ∈ g.1 → ¬ Divides 𝓜 x.0 k
  unfolding polynomial
  no-tail {G} red g x p q c k t d = go (line-discrete g x)
    where
      go : Dec (g ≡ x) → ⊥
      go (yes e) = not-below ord d.0 x.0 (subst (λ z. lt z x.0) d.1 (subst (λ (y : Line F M). lt k y.0) e (all-at (leads-low 𝓟 ord red.lines g p) t)))
      go (no n) = all-at (red.clear g x p q n) (Memᴰ.tail t) d

  module _ (G H : List (Line F M)) (rG : Reduced R 𝓜 lt G) (rH : Reduced R 𝓜 lt H) (same : SameIdeal R 𝓜 G H) where
    partner : (g : Line F M) → g ∈ G → (h : Line F M) × (h ∈ H) × (g.0 ≡ h.0)
    partner g p = up (rH.groebner (polynomial R g) g.0 ((same (polynomial R g)).0 (ideal-line 𝓟 ord rG.lines g p)) (leading_line 𝓟 ord rG.lines g p))
      where
        up : Reducible 𝓜 H g.0 → (h : Line F M) × (h ∈ H) × (g.0 ≡ h.0)
        up (h, q, d) = (h, q, down (rG.groebner (polynomial R h) h.0 ((same (polynomial R h)).1 (ideal-line 𝓟 ord rH.lines h q)) (leading_line 𝓟 ord rH.lines h q)))
          where
            down : Reducible 𝓜 G h.0 → g.0 ≡ h.0
            down (x, w, e) = divides-antisym ord g.0 h.0 (subst (λ (y : Line F M). Divides 𝓜 y.0 h.0) (sym (own-lead rG g x p w (divides-trans monoid e d))) e) d

  module _ (G H : List (Line F M)) (rG : Reduced R 𝓜 lt G) (rH : Reduced R 𝓜 lt H) (same : SameIdeal R 𝓜 G H) where
    same_line : (g h : Line F M) → g ∈ G → h ∈ H → g.0 ≡ h.0 → g ≡ h
    unfolding polynomial self
    same_line g h p q e = ap₂ (λ (x : M) (y : Poly F M). (x, y)) e (falling-unique ring ord g.1 h.1 (rG.lines.falling g p).1 (rH.lines.falling h q).1 (rG.lines.proper g p) (rH.lines.proper h q) tails)
      where
        raw : Poly F M
        raw = minus R (polynomial R g) (polynomial R h)

        d : Poly F M
        d = clean ring 𝓜 decide raw

        value : (k : M) → coef R 𝓜 d k ≡ add (coef R 𝓜 (polynomial R g) k) (neg (coef R 𝓜 (polynomial R h) k))
        value k = clean-same ring 𝓜 decide raw k ∙ coef-minus ring 𝓜 (polynomial R g) (polynomial R h) k

        inside : IdealOf R 𝓜 G d
        inside = ideal-of-member 𝓟 ord G (leads-low 𝓟 ord rG.lines) d (member-same (rewriting 𝓟 ord G (leads-low 𝓟 ord rG.lines)) _ _ value (member-add (rewriting 𝓟 ord G (leads-low 𝓟 ord rG.lines)) _ _
            (member-of-ideal 𝓟 ord G (leads-low 𝓟 ord rG.lines) (polynomial R g) (ideal-line 𝓟 ord rG.lines g p)) (member-neg (rewriting 𝓟 ord G (leads-low 𝓟 ord rG.lines)) _
            (member-of-ideal 𝓟 ord G (leads-low 𝓟 ord rG.lines) (polynomial R h) ((same (polynomial R h)).1 (ideal-line 𝓟 ord rH.lines h q))))))

        heads : (k : M) → coef R 𝓜 g.1 k ≡ 𝟘 → coef R 𝓜 h.1 k ≡ 𝟘 → coef R 𝓜 (polynomial R g) k ≡ coef R 𝓜 (polynomial R h) k
        heads k a b = go (𝓜.same? k g.0)
          where
            go : Dec (k ≡ g.0) → coef R 𝓜 (polynomial R g) k ≡ coef R 𝓜 (polynomial R h) k
            go (yes w) = ap (coef R 𝓜 (polynomial R g)) w ∙ coef-head ring ord (𝟙, g.0) g.1 (leads-low 𝓟 ord rG.lines g p) ∙ sym (ap (coef R 𝓜 (polynomial R h)) (w ∙ e) ∙ coef-head ring ord (𝟙, h.0) h.1 (leads-low 𝓟 ord rH.lines h q))
            go (no n) = coef-there ring 𝓜 (𝟙, g.0) g.1 k n ∙ a ∙ sym (coef-there ring 𝓜 (𝟙, h.0) h.1 k (λ w. n (w ∙ sym e)) ∙ b)

        clear : Normal 𝓜 G d
        clear c k t (x, w, z) = no-term ring 𝓜 d (clean-proper ring 𝓜 decide raw) c k (value k ∙ ap₂ (λ x y. add x (neg y)) (heads k (on_g (find 𝓜 g.1 k)) (on_h (find 𝓜 h.1 k))) refl ∙ ring.add_neg _) t
          where
            on_g : ((a : F) × ((a, k) ∈ g.1)) ⊎ All (λ y. ¬ (y ≡ k)) g.1 → coef R 𝓜 g.1 k ≡ 𝟘
            on_g (inl a) = absurd (no-tail rG g x p w a.0 k a.1 z)
            on_g (inr a) = coef-absent ring 𝓜 g.1 k a

            on_h : ((a : F) × ((a, k) ∈ h.1)) ⊎ All (λ y. ¬ (y ≡ k)) h.1 → coef R 𝓜 h.1 k ≡ 𝟘
            on_h (inl a) = let y = partner G H rG rH same x w in absurd (no-tail rH h y.0 q y.1 a.0 k a.1 (z.0, z.1 ∙ ap (prod z.0) y.2))
            on_h (inr a) = coef-absent ring 𝓜 h.1 k a

        agree : Same R 𝓜 (polynomial R g) (polynomial R h)
        agree k = equal-of-difference (self ring) _ _ (sym (value k) ∙ ap (λ f. coef R 𝓜 f k) (zero-of-finished 𝓟 ord G (leads-low 𝓟 ord rG.lines) rG.groebner d (clean-proper ring 𝓜 decide raw) inside clear) ∙ coef-nil ring 𝓜 k)

        tails : Same R 𝓜 g.1 h.1
        tails k = go (𝓜.same? k g.0)
          where
            go : Dec (k ≡ g.0) → coef R 𝓜 g.1 k ≡ coef R 𝓜 h.1 k
            go (yes w) = coef-over ring ord g.1 g.0 k (leads-low 𝓟 ord rG.lines g p) (inl (sym w)) ∙ sym (coef-over ring ord h.1 h.0 k (leads-low 𝓟 ord rH.lines h q) (inl (sym e ∙ sym w)))
            go (no n) = sym (coef-there ring 𝓜 (𝟙, g.0) g.1 k n) ∙ agree k ∙ coef-there ring 𝓜 (𝟙, h.0) h.1 k (λ w. n (w ∙ sym e))

    -- Every line of G is a line of H.
    pub unique-lines : (g : Line F M) → g ∈ G → g ∈ H
    unique-lines g p = let y = partner G H rG rH same g p in Memᴰ.cast (same_line g y.0 p y.1 y.2) y.1

pub unique-basis : {F M : Type 0} {R : Arithmetic F} {𝓜 : Monomials M} {lt : M → M → Type 0} (𝓟 : PolynomialRing R 𝓜) (ord : MonomialOrder 𝓜 lt) (G H : List (Line F M))
    → Reduced R 𝓜 lt G → Reduced R 𝓜 lt H → Rising lt G → Rising lt H → SameIdeal R 𝓜 G H → G ≡ H
unique-basis 𝓟 ord G H rG rH x y same = rising-lines-unique ord G H x y (unique-lines 𝓟 ord G H rG rH same) (unique-lines 𝓟 ord H G rH rG (λ f. ((same f).1, (same f).0)))
