-- Definition 1.6 of 001, of reduced Groebner bases: its (1) and (2) say the same as Reduced of specs/Bases.antt.
--   leading-coefficient             (1): the leading coefficient of a line is 1
--   reduced-to-the-letter           a reduced Groebner basis: (2) is Reduced.clear
--   OneWith R L f                   f is the polynomial of a line that has L
--   Other G p q                     q is a line of G and not p
--   MonomialsOutside R 𝓜 lt G       (2), in the wording of 001
use mathlib.Core.Path.{◌≡◌, refl, sym, ◌∙◌, ap, ap₂, subst}
use mathlib.Core.List.Memᴰ
use mathlib.Core.List.{List, [], ◌∷◌}
use mathlib.Core.Logic.{◌⊎◌, inl, inr, ◌↔◌}
use Rattle.lists.specs.Lists.{◌∈◌, Once}
use Rattle.residue.specs.Field.{Arithmetic}
use Rattle.monomial.specs.Ordering.{Monomials, Divides}
use Rattle.monomial.proofs.OrderLaws.{MonomialOrder}
use Rattle.groebner.specs.Polynomials.{Poly, All, relabel, scale, expand, δ, coef}
use Rattle.groebner.specs.Lines.{Line, polynomial, Lines}
use Rattle.groebner.specs.Bases.{Leading, Reduced}
use Rattle.groebner.proofs.Linear.{all_map}
use Rattle.groebner.proofs.Terms.{all-at, all_of, coef-cons, coef-nil, coef-here}
use Rattle.groebner.proofs.Ground.{PolynomialRing}
use Rattle.groebner.proofs.Leads.{coef-head, leads-low, leading_line, leading_unique}
use Rattle.groebner.proofs.LeadingTerms.{sum_of_products, Generated, LeadingTerm, LeadingTermsGenerate, gather, term_of, same-monomial, groebner-to-the-letter}

-- q is a line of G and not p.
abbrev pub Other : {F M : Type 0} → List (Line F M) → Line F M → Line F M → Type 0
Other G p q = (q ∈ G) × ¬ (p ≡ q)

-- f is the polynomial of a line that has L.
abbrev pub OneWith : {F M : Type 0} → Arithmetic F → (Line F M → Type 0) → Poly F M → Type 0
OneWith {F} {M} R L f = (g : Line F M) × L g × (f ≡ polynomial R g)

-- No monomial of a line p lies in the ideal that the leading terms of the lines other than p generate.
abbrev pub MonomialsOutside : {F M : Type 0} → Arithmetic F → Monomials M → (M → M → Type 0) → List (Line F M) → Type 0
MonomialsOutside {F} {M} R 𝓜 lt G = (p : Line F M) → p ∈ G → All (λ m. ¬ Generated R 𝓜 (LeadingTerm R 𝓜 lt (OneWith R (Other G p))) ((R.one, m) ∷ [])) (polynomial R p)

module _ {F M : Type 0} {R : Arithmetic F} {𝓜 : Monomials M} {lt : M → M → Type 0} (𝓟 : PolynomialRing R 𝓜) (ord : MonomialOrder 𝓜 lt) (G : List (Line F M)) (lines : Lines R lt G) where
  open R use {zero as 𝟘, one as 𝟙, add, mul}
  open 𝓜 use {mul as prod}
  open 𝓟 use {field}
  open field use {ring, nontrivial}

  -- Of the leading terms of the lines that have L:
  module _ (L : Line F M → Type 0) (within : (g : Line F M) → L g → g ∈ G) where
    -- They generate the terms that their monomials divide.
    generated : (f : Poly F M) → ((c : F) (m : M) → (c, m) ∈ f → (g : Line F M) × L g × Divides 𝓜 g.0 m) → Generated R 𝓜 (LeadingTerm R 𝓜 lt (OneWith R L)) f
    unfolding polynomial expand relabel scale
    generated [] h = ([], λ y q. absurd (Memᴰ.not-nil q), λ k. refl)
    generated (t ∷ f) h = go (h t.0 t.1 (Memᴰ.head refl)) (generated f (λ c m q. h c m (Memᴰ.tail q)))
      where
        go : (g : Line F M) × L g × Divides 𝓜 g.0 t.1 → Generated R 𝓜 (LeadingTerm R 𝓜 lt (OneWith R L)) f → Generated R 𝓜 (LeadingTerm R 𝓜 lt (OneWith R L)) (t ∷ f)
        go (g, l, (u, e)) (rs, each, same) = (((t.0, u) ∷ [], (𝟙, g.0) ∷ []) ∷ rs, λ y q. gen y (Memᴰ.cases_cons q), λ k. coef-cons ring 𝓜 t f k ∙ ap₂ add (ap₂ mul (sym (ring.mul_one t.0)) (ap (δ R 𝓜 k) e)) (same k) ∙ sym (coef-cons ring 𝓜 (mul t.0 𝟙, prod u g.0) (sum_of_products R 𝓜 rs) k))
          where
            gen : (y : Poly F M × Poly F M) → (y ≡ ((t.0, u) ∷ [], (𝟙, g.0) ∷ [])) ⊎ (y ∈ rs) → LeadingTerm R 𝓜 lt (OneWith R L) y.1
            gen y (inl q) = (polynomial R g, g.0, (g, l, refl), leading_line 𝓟 ord lines g (within g l), ap (λ (z : Poly F M × Poly F M). z.1) q ∙ ap (λ c. (c, g.0) ∷ []) (sym (coef-head ring ord (𝟙, g.0) g.1 (leads-low 𝓟 ord lines g (within g l)))))
            gen y (inr q) = each y q

    -- Of what they generate each monomial is divisible by one of theirs.
    divisible : (f : Poly F M) → Generated R 𝓜 (LeadingTerm R 𝓜 lt (OneWith R L)) f → (m : M) → ¬ (coef R 𝓜 f m ≡ 𝟘) → (g : Line F M) × L g × Divides 𝓜 g.0 m
    divisible f (rs, each, same) m n = close (gather 𝓟 ord G lines (LeadingTerm R 𝓜 lt (OneWith R L)) (term_of 𝓟 ord G lines (OneWith R L)) rs each m (λ z. n (same m ∙ z)))
      where
        close : (d : F) × (x : M) × LeadingTerm R 𝓜 lt (OneWith R L) ((d, x) ∷ []) × Divides 𝓜 x m → (g : Line F M) × L g × Divides 𝓜 g.0 m
        close (d, x, (h, y, (g, l, e), b, q), w) = (g, l, subst (λ z. Divides 𝓜 z m) (same-monomial 𝓟 ord G lines _ _ x y q ∙ leading_unique 𝓟 ord (polynomial R g) y g.0 (subst (λ z. Leading R 𝓜 lt z y) e b) (leading_line 𝓟 ord lines g (within g l))) w)

  coef-term : (c : F) (m : M) → coef R 𝓜 ((c, m) ∷ []) m ≡ c
  coef-term c m = coef-here ring 𝓜 c m [] ∙ ap (add _) (coef-nil ring 𝓜 m) ∙ ring.add_zero _

  -- (1)
  pub leading-coefficient : (g : Line F M) → g ∈ G → Leading R 𝓜 lt (polynomial R g) g.0 × (coef R 𝓜 (polynomial R g) g.0 ≡ 𝟙)
  unfolding polynomial
  leading-coefficient g p = (leading_line 𝓟 ord lines g p, coef-head ring ord (𝟙, g.0) g.1 (leads-low 𝓟 ord lines g p))

  -- (1) is in the form of a line, and (2) is `clear`.
  pub reduced-to-the-letter : Once G → (LeadingTermsGenerate R 𝓜 lt G × MonomialsOutside R 𝓜 lt G) ↔ Reduced R 𝓜 lt G
  reduced-to-the-letter once = (
    λ l. record { lines = lines; once = once; groebner = (groebner-to-the-letter 𝓟 ord G lines).0 l.0; clear = λ p q i j ne. all_map (λ m n d. n (term p q m j ne d)) (l.1 p i) },
    λ r. (
      (groebner-to-the-letter 𝓟 ord G lines).1 r.groebner,
      λ p i. all_of (polynomial R p) (λ c m k w. outside r p i c m k (divisible (Other G p) (λ q o. o.0) ((𝟙, m) ∷ []) w m (λ z. nontrivial (sym (coef-term 𝟙 m) ∙ z)))),
    ),
  )
    where
      term : (p q : Line F M) (m : M) → q ∈ G → ¬ (p ≡ q) → Divides 𝓜 q.0 m → Generated R 𝓜 (LeadingTerm R 𝓜 lt (OneWith R (Other G p))) ((𝟙, m) ∷ [])
      term p q m j ne d = generated (Other G p) (λ q o. o.0) ((𝟙, m) ∷ []) (λ c k i. at c k (Memᴰ.cases_cons i))
        where
          at : (c : F) (k : M) → (◌≡◌ {A = F × M} (c, k) (𝟙, m)) ⊎ (◌∈◌ {A = F × M} (c, k) []) → (g : Line F M) × Other G p g × Divides 𝓜 g.0 k
          at c k (inl e) = (q, (j, ne), subst (Divides 𝓜 q.0) (sym (ap (λ (t : F × M). t.1) e)) d)
          at c k (inr i) = absurd (Memᴰ.not-nil i)

      outside : Reduced R 𝓜 lt G → (p : Line F M) → p ∈ G → (c : F) (m : M) → (c, m) ∈ polynomial R p → ¬ ((q : Line F M) × Other G p q × Divides 𝓜 q.0 m)
      outside r p i c m k (q, o, d) = all-at (r.clear p q i o.0 o.1) k d
