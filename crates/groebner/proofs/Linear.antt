-- The linear extension of a map on monomials, and what holds of every monomial of a polynomial.
--   lin 𝓥 L f         Σ c·L(m) over the terms c·m of f, in a module 𝓥
--   without 𝓜 k f     f without its terms at the monomial k
-- Of All: all_append, all_map, all_true, all_both, all-scale, all-relabel, all-expand, all_without, without-off
-- Of lin, by its polynomial: lin-append, lin-scale, lin-negate, lin-relabel, lin-expand, lin-split
-- Of lin, by its map: lin-on, lin-plus, lin-opposite, lin-zero, lin-act, lin-swap; lin-self
-- coef-lin: the coefficient is a linear extension; lin-same: polynomials with the same coefficients have the same linear extensions
-- coef-split: the coefficients, with those at one monomial apart; lin-vanish: without coefficients the linear extension is null
use mathlib.Core.Path.{◌≡◌, refl, sym, ◌∙◌, ap, ap₂}
use mathlib.Core.List.Memᴰ
use mathlib.Core.List.{List, [], ◌∷◌, ◌++◌}
use mathlib.Core.Logic.{◌⊎◌, inl, inr, ite}
use Rattle.lists.specs.Lists.{◌∈◌}
use Rattle.residue.specs.Field.{Arithmetic}
use Rattle.residue.specs.RingLaws.{Ring}
use Rattle.monomial.specs.Ordering.{Monomials}
use Rattle.groebner.specs.Polynomials.{Poly, All, all_nil, all_cons, relabel, scale, negate, expand, δ, coef, Same}
use Rattle.groebner.proofs.Modules.{Module, self, null-plus, plus-left-comm, plus-medial, zero-act, act-null, neg-act, act-opposite, opposite-null, opposite-plus, equal-of-difference, zero-add, mul-zero}

module _ {F M : Type 0} where
  pub all_append {ℓ} : {P : M → Type ℓ} {f g : Poly F M} → All P f → All P g → All P (f ++ g)
  all_append all_nil b = b
  all_append (all_cons h a) b = all_cons h (all_append a b)

  pub all_map {ℓ ℓ'} : {P : M → Type ℓ} {Q : M → Type ℓ'} → ((m : M) → P m → Q m) → {f : Poly F M} → All P f → All Q f
  all_map h all_nil = all_nil
  all_map h (all_cons {t = t} p a) = all_cons (h t.1 p) (all_map h a)

  pub all_true {ℓ} : {P : M → Type ℓ} → ((m : M) → P m) → (f : Poly F M) → All P f
  all_true h [] = all_nil
  all_true h (t ∷ f) = all_cons (h t.1) (all_true h f)

  pub all_both : {P Q : M → Type 0} {f : Poly F M} → All P f → All Q f → All (λ m. P m × Q m) f
  all_both all_nil all_nil = all_nil
  all_both (all_cons p a) (all_cons q b) = all_cons (p, q) (all_both a b)

  pub all-scale {ℓ} : (R : Arithmetic F) {P : M → Type ℓ} (c : F) {f : Poly F M} → All P f → All P (scale R c f)
  unfolding scale
  all-scale R c all_nil = all_nil
  all-scale R c (all_cons h a) = all_cons h (all-scale R c a)

  pub all-relabel {ℓ} : {N : Type 0} (P : M → Type ℓ) (s : N → M) {f : Poly F N} → All (λ m. P (s m)) f → All P (relabel s f)
  unfolding relabel
  all-relabel P s all_nil = all_nil
  all-relabel P s (all_cons h a) = all_cons h (all-relabel P s a)

  pub all-expand {ℓ} : (R : Arithmetic F) {N : Type 0} {P : M → Type ℓ} (n : N → Poly F M) {f : Poly F N} → All (λ m. All P (n m)) f → All P (expand R n f)
  unfolding expand
  all-expand R n all_nil = all_nil
  all-expand R n (all_cons {t = t} h a) = all_append (all-scale R t.0 h) (all-expand R n a)

-- Linear extension.
module _ {F : Type 0} {R : Arithmetic F} {W : Type 0} (𝓥 : Module R W) where
  open 𝓥 use {ring, null, plus, opposite, act, plus_assoc, plus_null, act_plus, act_mul, act_one}

  -- Σ c·L(m) over the terms c·m.
  unfoldable pub lin : {M : Type 0} → (M → W) → Poly F M → W
  lin L [] = null
  lin L (t ∷ f) = plus (act t.0 (L t.1)) (lin L f)

  module _ {M : Type 0} where
    pub lin-append : (L : M → W) (f g : Poly F M) → lin L (f ++ g) ≡ plus (lin L f) (lin L g)
    unfolding lin
    lin-append L [] g = sym (null-plus 𝓥 (lin L g))
    lin-append L (t ∷ f) g = rw (lin-append L f g) (sym (plus_assoc _ _ _))

    pub lin-scale : (L : M → W) (c : F) (f : Poly F M) → lin L (scale R c f) ≡ act c (lin L f)
    unfolding lin scale
    lin-scale L c [] = sym (act-null 𝓥 c)
    lin-scale L c (t ∷ f) = rw (lin-scale L c f, act_mul c t.0 (L t.1)) (sym (act_plus c _ _))

    pub lin-negate : (L : M → W) (f : Poly F M) → lin L (negate R f) ≡ opposite (lin L f)
    unfolding negate
    lin-negate L f = lin-scale L (R.neg R.one) f ∙ neg-act 𝓥 R.one (lin L f) ∙ ap opposite (act_one (lin L f))

    pub lin-relabel : {N : Type 0} (L : M → W) (s : N → M) (f : Poly F N) → lin L (relabel s f) ≡ lin (λ m. L (s m)) f
    unfolding lin relabel
    lin-relabel L s [] = refl
    lin-relabel L s (t ∷ f) = ap (plus _) (lin-relabel L s f)

    pub lin-expand : {N : Type 0} (L : M → W) (n : N → Poly F M) (f : Poly F N) → lin L (expand R n f) ≡ lin (λ m. lin L (n m)) f
    unfolding lin expand
    lin-expand L n [] = refl
    lin-expand L n (t ∷ f) = lin-append L (scale R t.0 (n t.1)) (expand R n f) ∙ ap₂ plus (lin-scale L t.0 (n t.1)) (lin-expand L n f)

    -- Two maps that agree on the monomials of f.
    pub lin-on {ℓ} : {P : M → Type ℓ} (L K : M → W) → ((m : M) → P m → L m ≡ K m) → {f : Poly F M} → All P f → lin L f ≡ lin K f
    unfolding lin
    lin-on L K h all_nil = refl
    lin-on L K h (all_cons {t = t} p a) = ap₂ plus (ap (act t.0) (h t.1 p)) (lin-on L K h a)

    pub lin-plus : (L K : M → W) (f : Poly F M) → lin (λ m. plus (L m) (K m)) f ≡ plus (lin L f) (lin K f)
    unfolding lin
    lin-plus L K [] = sym (plus_null null)
    lin-plus L K (t ∷ f) = ap₂ plus (act_plus t.0 (L t.1) (K t.1)) (lin-plus L K f) ∙ plus-medial 𝓥 _ _ _ _

    pub lin-opposite : (L : M → W) (f : Poly F M) → lin (λ m. opposite (L m)) f ≡ opposite (lin L f)
    unfolding lin
    lin-opposite L [] = sym (opposite-null 𝓥)
    lin-opposite L (t ∷ f) = ap₂ plus (act-opposite 𝓥 t.0 (L t.1)) (lin-opposite L f) ∙ sym (opposite-plus 𝓥 _ _)

    pub lin-zero : (f : Poly F M) → lin (λ _. null) f ≡ null
    unfolding lin
    lin-zero [] = refl
    lin-zero (t ∷ f) = ap₂ plus (act-null 𝓥 t.0) (lin-zero f) ∙ plus_null null

    pub lin-act : (L : M → W) (c : F) (f : Poly F M) → lin (λ m. act c (L m)) f ≡ act c (lin L f)
    unfolding lin
    lin-act L c [] = sym (act-null 𝓥 c)
    lin-act L c (t ∷ f) = ap₂ plus (sym (act_mul t.0 c (L t.1)) ∙ ap (λ x. act x (L t.1)) (ring.mul_comm t.0 c) ∙ act_mul c t.0 (L t.1))
        (lin-act L c f) ∙ sym (act_plus c _ _)

  -- A double sum, either way round.
  pub lin-swap : {M N : Type 0} (L : M → N → W) (f : Poly F M) (g : Poly F N) → lin (λ m. lin (L m) g) f ≡ lin (λ n. lin (λ m. L m n) f) g
  unfolding lin
  lin-swap L [] g = sym (lin-zero g)
  lin-swap L (t ∷ f) g = ap₂ plus (sym (lin-act (L t.1) t.0 g)) (lin-swap L f g) ∙ sym (lin-plus (λ n. act t.0 (L t.1 n)) (λ n. lin (λ m. L m n) f) g)

-- A sum in a ring does not depend on how the ring's laws are proved.
pub lin-self : {F M : Type 0} {R : Arithmetic F} (ring ring' : Ring R) (L : M → F) (f : Poly F M) → lin (self ring) L f ≡ lin (self ring') L f
unfolding lin self
lin-self ring ring' L [] = refl
lin-self {R = R} ring ring' L (t ∷ f) = ap (R.add _) (lin-self ring ring' L f)

-- f without its terms at k.
unfoldable pub without : {F M : Type 0} → Monomials M → M → Poly F M → Poly F M
without 𝓜 k [] = []
without 𝓜 k (t ∷ f) = ite (𝓜.same? k t.1) (without 𝓜 k f) (t ∷ without 𝓜 k f)

module _ {F M : Type 0} (𝓜 : Monomials M) where
  pub all_without {ℓ} : {P : M → Type ℓ} (k : M) {f : Poly F M} → All P f → All P (without 𝓜 k f)
  unfolding without
  all_without k all_nil = all_nil
  all_without {P = P} k (all_cons {t = t} {f = f} p a) = go (𝓜.same? k t.1) (all_without k a)
    where
      go : (d : Dec (k ≡ t.1)) → All P (without 𝓜 k f) → All P (ite d (without 𝓜 k f) (t ∷ without 𝓜 k f))
      go (yes e) b = b
      go (no n) b = all_cons p b

  pub without-off : (k : M) (f : Poly F M) → All (λ m. ¬ (m ≡ k)) (without 𝓜 k f)
  unfolding without
  without-off k [] = all_nil
  without-off k (t ∷ f) = go (𝓜.same? k t.1) (without-off k f)
    where
      go : (d : Dec (k ≡ t.1)) → All (λ m. ¬ (m ≡ k)) (without 𝓜 k f) → All (λ m. ¬ (m ≡ k)) (ite d (without 𝓜 k f) (t ∷ without 𝓜 k f))
      go (yes e) b = b
      go (no n) b = all_cons (λ e. n (sym e)) b

module _ {F M : Type 0} {R : Arithmetic F} (ring : Ring R) (𝓜 : Monomials M) where
  -- The coefficient of k is the linear extension of δ k.
  pub coef-lin : (f : Poly F M) (k : M) → coef R 𝓜 f k ≡ lin (self ring) (δ R 𝓜 k) f
  unfolding coef lin self
  coef-lin [] k = refl
  coef-lin (t ∷ f) k = ap (R.add _) (coef-lin f k)

  -- The terms at k apart from the others.
  pub lin-split : {W : Type 0} (𝓥 : Module R W) (L : M → W) (k : M) (f : Poly F M)
      → lin 𝓥 L f ≡ 𝓥.plus (𝓥.act (coef R 𝓜 f k) (L k)) (lin 𝓥 L (without 𝓜 k f))
  unfolding lin coef without δ
  lin-split 𝓥 L k [] = sym (ap (λ x. 𝓥.plus x 𝓥.null) (zero-act 𝓥 (L k)) ∙ 𝓥.plus_null 𝓥.null)
  lin-split 𝓥 L k (t ∷ f) = go (𝓜.same? k t.1) (lin-split 𝓥 L k f)
    where
      go : (d : Dec (k ≡ t.1)) → lin 𝓥 L f ≡ 𝓥.plus (𝓥.act (coef R 𝓜 f k) (L k)) (lin 𝓥 L (without 𝓜 k f))
          → 𝓥.plus (𝓥.act t.0 (L t.1)) (lin 𝓥 L f)
          ≡ 𝓥.plus (𝓥.act (R.add (R.mul t.0 (ite d R.one R.zero)) (coef R 𝓜 f k)) (L k)) (lin 𝓥 L (ite d (without 𝓜 k f) (t ∷ without 𝓜 k f)))
      go (yes p) e = simp (e, ring.mul_one, ← p, 𝓥.act_add, 𝓥.plus_assoc)
      go (no p) e = simp (e, mul-zero ring, zero-add ring, plus-left-comm 𝓥)

  pub coef-split : (m k : M) (f : Poly F M) → coef R 𝓜 f m ≡ R.add (R.mul (coef R 𝓜 f k) (δ R 𝓜 m k)) (coef R 𝓜 (without 𝓜 k f) m)
  unfolding self
  coef-split m k f = coef-lin f m ∙ lin-split (self ring) (δ R 𝓜 m) k f ∙ ap (R.add _) (sym (coef-lin (without 𝓜 k f) m))

  coef-without-zero : (k : M) (f : Poly F M) → ((m : M) → coef R 𝓜 f m ≡ R.zero) → (m : M) → coef R 𝓜 (without 𝓜 k f) m ≡ R.zero
  coef-without-zero k f h m = sym (zero-add ring _) ∙ ap (λ x. R.add x (coef R 𝓜 (without 𝓜 k f) m)) (sym (ring.mul_comm R.zero (δ R 𝓜 m k) ∙ mul-zero ring (δ R 𝓜 m k))
      ∙ ap (λ x. R.mul x (δ R 𝓜 m k)) (sym (h k))) ∙ sym (coef-split m k f) ∙ h m

  keys : Poly F M → List M
  keys [] = []
  keys (t ∷ f) = t.1 ∷ keys f

  all-keys : (f : Poly F M) → All (λ m. m ∈ keys f) f
  unfolding keys
  all-keys [] = all_nil
  all-keys (t ∷ f) = all_cons (Memᴰ.head refl) (all_map (λ m p. Memᴰ.tail p) (all-keys f))

  among-without : (k : M) (ks : List M) {f : Poly F M} → All (λ m. m ∈ (k ∷ ks)) f → All (λ m. m ∈ ks) (without 𝓜 k f)
  among-without k ks {f} a = all_map (λ m p. drop m p.1 (Memᴰ.cases_cons p.0)) (all_both (all_without 𝓜 k a) (without-off 𝓜 k f))
    where
      drop : (m : M) → ¬ (m ≡ k) → (m ≡ k) ⊎ (m ∈ ks) → m ∈ ks
      drop m n (inl e) = absurd (n e)
      drop m n (inr i) = i

  -- If the terms of f are among ks and all coefficients vanish, so does a linear extension.
  vanish : {W : Type 0} (𝓥 : Module R W) (L : M → W) (ks : List M) (f : Poly F M) → All (λ m. m ∈ ks) f → ((k : M) → coef R 𝓜 f k ≡ R.zero) → lin 𝓥 L f ≡ 𝓥.null
  unfolding lin
  vanish 𝓥 L [] [] a h = refl
  vanish 𝓥 L [] (t ∷ f) (all_cons p a) h = absurd (Memᴰ.not-nil p)
  vanish 𝓥 L (k ∷ ks) f a h = lin-split 𝓥 L k f ∙ rw (h k, zero-act 𝓥 (L k), null-plus 𝓥) (vanish 𝓥 L ks (without 𝓜 k f) (among-without k ks a) (coef-without-zero k f h))

  pub lin-vanish : {W : Type 0} (𝓥 : Module R W) (L : M → W) (f : Poly F M) → ((k : M) → coef R 𝓜 f k ≡ R.zero) → lin 𝓥 L f ≡ 𝓥.null
  lin-vanish 𝓥 L f h = vanish 𝓥 L (keys f) f (all-keys f) h

  -- Polynomials with the same coefficients have the same linear extensions.
  pub lin-same : {W : Type 0} (𝓥 : Module R W) (L : M → W) (f g : Poly F M) → Same R 𝓜 f g → lin 𝓥 L f ≡ lin 𝓥 L g
  unfolding self
  lin-same 𝓥 L f g h = equal-of-difference 𝓥 (lin 𝓥 L f) (lin 𝓥 L g)
      (rw (← lin-negate 𝓥 L g, ← lin-append 𝓥 L f (negate R g)) (lin-vanish 𝓥 L (f ++ negate R g) zero))
    where
      zero : (k : M) → coef R 𝓜 (f ++ negate R g) k ≡ R.zero
      zero k = coef-lin (f ++ negate R g) k ∙ lin-append (self ring) (δ R 𝓜 k) f (negate R g)
          ∙ ap₂ R.add (sym (coef-lin f k) ∙ h k) (lin-negate (self ring) (δ R 𝓜 k) g ∙ ap R.neg (sym (coef-lin g k))) ∙ ring.add_neg (coef R 𝓜 g k)
