-- The core of Buchberger's criterion: if each S-pair is a combination of multiples below its least common multiple, normal forms vanish on the ideal.
--   SPair S i j         the S-polynomial of the lines i and j, as a combination of multiples below the least common multiple
-- combination-zero, all-vanish, NF-multiple, NF-of-member
use mathlib.Core.Path.{◌≡◌, refl, sym, ◌∙◌, ap, subst}
use mathlib.Core.WellFounded.{induction}
use Rattle.residue.specs.Field.{Arithmetic}
use Rattle.monomial.specs.Ordering.{Monomials}
use Rattle.groebner.specs.Polynomials.{Poly, All, negate, minus, coef, Same}
use Rattle.groebner.proofs.Modules.{Module, self, equal-of-difference}
use Rattle.groebner.proofs.Linear.{all_map, all_true, lin, lin-append, lin-negate, lin-expand, lin-on, lin-zero, lin-same}
use Rattle.groebner.proofs.NormalForms.{Pick, found, stuck, Rewriting, rule_multiple, multiple-prod, nfc, NF, NF-coef, chosen-vanishes, rules_combined, Member}

module _ {F M I : Type 0} {R : Arithmetic F} {𝓜 : Monomials M} (S : Rewriting R 𝓜 I) where
  open 𝓜 use {mul as prod}
  open S use {ring, monoid, lt, wf, mono, lead, pick}

  -- Cofactors a and b that raise both leads to their least common multiple, and the difference as a combination of multiples below it.
  pub record SPair (i j : I) : Type 0 where
    pub a : M
    pub b : M
    pub meet : (u v : M) → prod u (lead i) ≡ prod v (lead j) → (w : M) × (u ≡ prod w a) × (v ≡ prod w b)
    pub comb : Poly F (M × I)
    pub below : All (λ x. lt (prod x.0 (lead x.1)) (prod a (lead i))) comb
    pub rep : Same R 𝓜 (minus R (rule_multiple S a i) (rule_multiple S b j)) (rules_combined S comb)

  module _ {W : Type 0} (𝓥 : Module R W) where
    open 𝓥 use {null, plus, opposite}

    -- A combination of multiples that vanish under L vanishes under L.
    pub combination-zero : (L : M → W) {c : Poly F (M × I)} → All (λ x. lin 𝓥 L (rule_multiple S x.0 x.1) ≡ null) c → lin 𝓥 L (rules_combined S c) ≡ null
    unfolding rules_combined
    combination-zero L {c} a = lin-expand 𝓥 L (λ x. rule_multiple S x.0 x.1) c ∙ lin-on 𝓥 (λ x. lin 𝓥 L (rule_multiple S x.0 x.1)) (λ _. null) (λ m h. h) a ∙ lin-zero 𝓥 c

    module _ (L : M → W) (chosen-vanishes : (m : M) (i : I) (u : M) (e : m ≡ prod u (lead i)) → pick m ≡ found i u e → lin 𝓥 L (rule_multiple S u i) ≡ null) (sp : (i j : I) → SPair i j) where
      Gone : M → Type 0
      Gone m = (u : M) (i : I) → m ≡ prod u (lead i) → lin 𝓥 L (rule_multiple S u i) ≡ null

      pair : {i j : I} (s : SPair i j) (w : M) → ((y : M) → lt y (prod w (prod s.a (lead i))) → Gone y) → lin 𝓥 L (rule_multiple S (prod w s.a) i) ≡ lin 𝓥 L (rule_multiple S (prod w s.b) j)
      unfolding Gone
      pair {i} {j} s w ih = multiple-prod S 𝓥 L w s.a i ∙ equal-of-difference 𝓥 _ _ diff ∙ sym (multiple-prod S 𝓥 L w s.b j)
        where
          K : M → W
          K m = L (prod w m)

          each : (x : M × I) → lt (prod x.0 (lead x.1)) (prod s.a (lead i)) → lin 𝓥 K (rule_multiple S x.0 x.1) ≡ null
          each x h = sym (multiple-prod S 𝓥 L w x.0 x.1) ∙ ih (prod w (prod x.0 (lead x.1))) (mono w h) (prod w x.0) x.1 (sym (monoid.mul_assoc w x.0 (lead x.1)))

          diff : plus (lin 𝓥 K (rule_multiple S s.a i)) (opposite (lin 𝓥 K (rule_multiple S s.b j))) ≡ null
          diff = rw (← lin-negate 𝓥 K (rule_multiple S s.b j), ← lin-append 𝓥 K (rule_multiple S s.a i) (negate R (rule_multiple S s.b j)))
              (lin-same ring 𝓜 𝓥 K _ _ s.rep ∙ combination-zero K (all_map each s.below))

      step : (m : M) → ((y : M) → lt y m → Gone y) → (u : M) (i : I) → m ≡ prod u (lead i) → (p : Pick prod lead m) → pick m ≡ p → lin 𝓥 L (rule_multiple S u i) ≡ null
      step m ih u i e (stuck h) q = absurd (h i u e)
      step m ih u i e (found j v e') q = go (sp i j) ((sp i j).meet u v (sym e ∙ e'))
        where
          go : (s : SPair i j) → (w : M) × (u ≡ prod w s.a) × (v ≡ prod w s.b) → lin 𝓥 L (rule_multiple S u i) ≡ null
          go s t = ap (λ z. lin 𝓥 L (rule_multiple S z i)) t.1
              ∙ pair s t.0 (λ y h. ih y (subst (lt y) (sym (monoid.mul_assoc _ _ _) ∙ ap (λ z. prod z (lead i)) (sym t.1) ∙ sym e) h))
              ∙ ap (λ z. lin 𝓥 L (rule_multiple S z j)) (sym t.2) ∙ chosen-vanishes m j v e' q

      -- All multiples vanish under L, if the chosen ones do.
      pub all-vanish : (u : M) (i : I) → lin 𝓥 L (rule_multiple S u i) ≡ null
      unfolding Gone
      all-vanish u i = induction wf {C = Gone} (prod u (lead i)) (λ m ih u i e. step m ih u i e (pick m) refl) u i refl

  -- If each S-pair reduces, the normal forms of all multiples vanish, and so do those of the ideal's elements.
  module _ (sp : (i j : I) → SPair i j) where
    pub NF-multiple : (u : M) (i : I) (k : M) → lin (self ring) (nfc S k) (rule_multiple S u i) ≡ R.zero
    unfolding self
    NF-multiple u i k = all-vanish (self ring) (nfc S k) (chosen-vanishes S k) sp u i

    pub NF-of-member : (f : Poly F M) → Member S (coef R 𝓜 f) → (k : M) → coef R 𝓜 (NF S f) k ≡ R.zero
    unfolding self
    NF-of-member f a k = NF-coef S f k ∙ lin-same ring 𝓜 (self ring) (nfc S k) f (rules_combined S a.0) a.1 ∙ combination-zero (self ring) (nfc S k) (all_true (λ x. NF-multiple x.0 x.1 k) a.0)
