-- Combinations of the images of monomials under a map L into a module, for any monomial ordering.
--   LinearSpan 𝓥 L P w   w is a combination of images of monomials that have P
--   Dependent 𝓥 L lt m   the image of m is a combination of images of smaller monomials
--   Shifts 𝓥 L 𝓜         what L says of a monomial it says of the monomial's multiples
-- Of spans: span-one, span-on, span-trans
-- dependent-multiple, dependent-up: multiples of a dependent monomial are dependent, so independent monomials are closed under divisors
-- independent: the images of independent monomials are linearly independent
use mathlib.Core.Path.{◌≡◌, refl, sym, ◌∙◌, ap, ap₂, subst}
use mathlib.Core.List.{[], ◌∷◌, ◌++◌}
use mathlib.Core.Logic.{◌⊎◌, inl, inr}
use mathlib.Core.WellFounded.{induction}
use Rattle.residue.specs.Field.{Arithmetic}
use Rattle.residue.specs.RingLaws.{Field}
use Rattle.monomial.specs.Ordering.{Monomials, Divides}
use Rattle.monomial.proofs.OrderLaws.{MonomialOrder}
use Rattle.groebner.specs.Polynomials.{Poly, All, all_nil, all_cons, scale, shift, δ, coef}
use Rattle.groebner.proofs.Modules.{Module, null-plus, opposite-unique, zero-act, neg-act, act-opposite, opposite-opposite, mul-zero}
use Rattle.groebner.proofs.Linear.{all_append, all_map, all_both, all-scale, all-relabel, all_without, without, without-off, lin, lin-append, lin-scale, lin-split, coef-split}
use Rattle.groebner.proofs.Terms.{coef-nil}

module _ {F M : Type 0} {R : Arithmetic F} {W : Type 0} (𝓥 : Module R W) (L : M → W) where
  -- w is a combination of images of monomials that have P.
  abbrev pub LinearSpan : (M → Type 0) → W → Type 0
  LinearSpan P w = (f : Poly F M) × All P f × (w ≡ lin 𝓥 L f)

  pub span-one : {P : M → Type 0} (m : M) → P m → LinearSpan P (L m)
  unfolding lin
  span-one m p = ((R.one, m) ∷ [], all_cons p all_nil, sym (𝓥.plus_null _ ∙ 𝓥.act_one (L m)))

  pub span-on : {P Q : M → Type 0} → ((m : M) → P m → Q m) → {w : W} → LinearSpan P w → LinearSpan Q w
  span-on h s = (s.0, all_map h s.1, s.2)

  lin-span : {P Q : M → Type 0} → ((m : M) → P m → LinearSpan Q (L m)) → {f : Poly F M} → All P f → LinearSpan Q (lin 𝓥 L f)
  unfolding lin
  lin-span h all_nil = ([], all_nil, refl)
  lin-span {Q = Q} h (all_cons {t = t} {f = f} p a) = step (h t.1 p) (lin-span h a)
    where
      step : LinearSpan Q (L t.1) → LinearSpan Q (lin 𝓥 L f) → LinearSpan Q (𝓥.plus (𝓥.act t.0 (L t.1)) (lin 𝓥 L f))
      step s r = (
        scale R t.0 s.0 ++ r.0,
        all_append (all-scale R t.0 s.1) r.1,
        ap₂ 𝓥.plus (ap (𝓥.act t.0) s.2 ∙ sym (lin-scale 𝓥 L t.0 s.0)) r.2 ∙ sym (lin-append 𝓥 L (scale R t.0 s.0) r.0),
      )

  -- Combinations of combinations.
  pub span-trans : {P Q : M → Type 0} → ((m : M) → P m → LinearSpan Q (L m)) → {w : W} → LinearSpan P w → LinearSpan Q w
  span-trans {Q = Q} h {w} s = step (lin-span h s.1)
    where
      step : LinearSpan Q (lin 𝓥 L s.0) → LinearSpan Q w
      step r = (r.0, r.1, s.2 ∙ r.2)

  -- The image of m is a combination of images of smaller monomials.
  abbrev pub Dependent : (M → M → Type 0) → M → Type 0
  Dependent lt m = LinearSpan (λ k. lt k m) (L m)

  -- An equation between images holds of the multiples too.
  abbrev pub Shifts : Monomials M → Type 0
  Shifts 𝓜 = (u m : M) (f : Poly F M) → L m ≡ lin 𝓥 L f → L (𝓜.mul u m) ≡ lin 𝓥 L (shift 𝓜 u f)

  module _ {𝓜 : Monomials M} {lt : M → M → Type 0} (ord : MonomialOrder 𝓜 lt) where
    open 𝓜 use {mul as prod}

    pub dependent-multiple : Shifts 𝓜 → (u m : M) → Dependent lt m → Dependent lt (prod u m)
    dependent-multiple shifts u m s = (shift 𝓜 u s.0, all-relabel (λ k. lt k (prod u m)) (prod u) (all_map (λ k l. ord.mono u l) s.1), shifts u m s.0 s.2)

    pub dependent-up : Shifts 𝓜 → (d m : M) → Divides 𝓜 d m → Dependent lt d → Dependent lt m
    dependent-up shifts d m (u, e) s = subst (Dependent lt) (sym e) (dependent-multiple shifts u d s)

    -- The images of independent monomials are linearly independent, over a field.
    module _ (field : Field R) where
      open field use {ring, decide, reciprocal}

      abbrev Upto : M → M → Type 0
      Upto k m = (m ≡ k) ⊎ lt m k

      upto-trans : (a b c : M) → Upto b a → Upto c b → Upto c a
      upto-trans a b c (inl e) q = subst (Upto c) (sym e) q
      upto-trans a b c (inr l) (inl e) = inr (subst (lt a) e l)
      upto-trans a b c (inr l) (inr q) = inr (ord.trans l q)

      -- the greatest monomial of a polynomial with terms
      top : {P : M → Type 0} {t : F × M} {f : Poly F M} → All P (t ∷ f) → (k : M) × P k × All (Upto k) (t ∷ f)
      top {P} (all_cons {t = t} {f = []} p all_nil) = (t.1, p, all_cons (inl refl) all_nil)
      top {P} (all_cons {t = t} {f = s ∷ f} p (all_cons q a)) = step (top (all_cons q a))
        where
          step : (k : M) × P k × All (Upto k) (s ∷ f) → (k : M) × P k × All (Upto k) (t ∷ s ∷ f)
          step r = pick (ord.total t.1 r.0)
            where
              pick : lt t.1 r.0 ⊎ ((t.1 ≡ r.0) ⊎ lt r.0 t.1) → (k : M) × P k × All (Upto k) (t ∷ s ∷ f)
              pick (inl l) = (r.0, r.1, all_cons (inr l) r.2)
              pick (inr (inl e)) = (r.0, r.1, all_cons (inl e) r.2)
              pick (inr (inr l)) = (t.1, p, all_cons (inl refl) (all_map (λ m u. upto-trans m r.0 t.1 u (inr l)) r.2))

      -- c·v + w = 0 with c invertible
      solve : (c d : F) (v w : W) → R.mul c d ≡ R.one → 𝓥.plus (𝓥.act c v) w ≡ 𝓥.null → v ≡ 𝓥.act (R.neg d) w
      solve c d v w i e = sym (neg-act 𝓥 d w ∙ ap (λ x. 𝓥.opposite (𝓥.act d x)) (opposite-unique 𝓥 (𝓥.act c v) w e) ∙ ap 𝓥.opposite (act-opposite 𝓥 d (𝓥.act c v)) ∙ opposite-opposite 𝓥 _
          ∙ sym (𝓥.act_mul d c v) ∙ ap (λ x. 𝓥.act x v) (ring.mul_comm d c ∙ i) ∙ 𝓥.act_one v)

      Claim : M → Type 0
      Claim k = (f : Poly F M) → All (λ m. (¬ Dependent lt m) × Upto k m) f → ¬ Dependent lt k → lin 𝓥 L f ≡ 𝓥.null → (j : M) → coef R 𝓜 f j ≡ R.zero

      via-top : {P : M → Type 0} → ((m : M) → P m → ¬ Dependent lt m) → ((k : M) → P k → Claim k) → (f : Poly F M) → All P f → lin 𝓥 L f ≡ 𝓥.null → (j : M) → coef R 𝓜 f j ≡ R.zero
      unfolding Claim
      via-top h ih [] a e j = coef-nil ring 𝓜 j
      via-top {P} h ih (t ∷ f) a e j = step (top a)
        where
          step : (k : M) × P k × All (Upto k) (t ∷ f) → coef R 𝓜 (t ∷ f) j ≡ R.zero
          step r = ih r.0 r.1 (t ∷ f) (all_both (all_map h a) r.2) (h r.0 r.1) e j

      claim-step : (k : M) → ((y : M) → lt y k → Claim y) → Claim k
      unfolding Claim
      claim-step k ih f a s e j = step (decide (coef R 𝓜 f k) R.zero)
        where
          g : Poly F M
          g = without 𝓜 k f

          split : 𝓥.plus (𝓥.act (coef R 𝓜 f k) (L k)) (lin 𝓥 L g) ≡ 𝓥.null
          split = sym (lin-split ring 𝓜 𝓥 L k f) ∙ e

          rest : All (λ m. ((¬ Dependent lt m) × Upto k m) × ¬ (m ≡ k)) g
          rest = all_both (all_without 𝓜 k a) (without-off 𝓜 k f)

          less : (m : M) → ((¬ Dependent lt m) × Upto k m) × ¬ (m ≡ k) → lt m k
          less m p = elim p.0.1 [ inl q ↦ absurd (p.1 q) | inr l ↦ l ]

          step : Dec (coef R 𝓜 f k ≡ R.zero) → coef R 𝓜 f j ≡ R.zero
          step (no n) = let d = reciprocal (coef R 𝓜 f k) n in
              absurd (s (scale R (R.neg d.0) g, all-scale R (R.neg d.0) (all_map less rest), solve _ d.0 (L k) (lin 𝓥 L g) d.1 split ∙ sym (lin-scale 𝓥 L (R.neg d.0) g)))
          step (yes z) = coef-split ring 𝓜 j k f
              ∙ ap₂ R.add (ap (λ x. R.mul x (δ R 𝓜 j k)) z ∙ ring.mul_comm _ _ ∙ mul-zero ring _) (via-top (λ m p. p.0.0) (λ m p. ih m (less m p)) g rest gone j)
              ∙ ring.add_zero _
            where
              gone : lin 𝓥 L g ≡ 𝓥.null
              gone = sym (null-plus 𝓥 _) ∙ ap (λ x. 𝓥.plus x (lin 𝓥 L g)) (sym (zero-act 𝓥 (L k)) ∙ ap (λ x. 𝓥.act x (L k)) (sym z)) ∙ split

      pub independent : (f : Poly F M) → All (λ m. ¬ Dependent lt m) f → lin 𝓥 L f ≡ 𝓥.null → (j : M) → coef R 𝓜 f j ≡ R.zero
      independent f a e j = via-top (λ m p. p) (λ k p. induction ord.wf {C = Claim} k claim-step) f a e j
