-- Coefficients of sums and multiples, and polynomials in good form: their terms are the coefficients that are not zero.
--   clean 𝓜 decide f      f in good form: no monomial twice, no coefficient zero
-- Of δ: δ-same, δ-other
-- Of coef: coef-cons, coef-nil, coef-here, coef-there, coef-absent, coef-append, coef-scale, coef-negate, coef-minus, coef-shift, coef-times, coef-without
-- Of terms: all-at, all_of, find, coef-of-term, nonzero-of-term, term-of-coef, no-term, nil-of-zero
-- Of equality: equal-of-same, same-of-equal, equal-nil
-- Of clean: clean-proper, clean-same
use mathlib.Core.Path.{◌≡◌, refl, sym, ◌∙◌, ap, ap₂, subst, fun_ext}
use mathlib.Core.List.Memᴰ
use mathlib.Core.List.{[], ◌∷◌, ◌++◌}
use mathlib.Core.Logic.{◌⊎◌, inl, inr, ite, if_pos, if_neg}
use Rattle.lists.specs.Lists.{◌∈◌}
use Rattle.residue.specs.Field.{Arithmetic}
use Rattle.residue.specs.RingLaws.{Ring}
use Rattle.monomial.specs.Ordering.{Monomials}
use Rattle.groebner.specs.Polynomials.{Poly, All, all_nil, all_cons, Polynomial, Equal, scale, negate, minus, shift, times, δ, coef, Same}
use Rattle.groebner.proofs.Modules.{self, zero-add, mul-zero}
use Rattle.groebner.proofs.Linear.{all_map, all_without, without, without-off, lin, lin-append, lin-scale, lin-negate, lin-relabel, lin-expand, coef-lin, coef-split}

-- All over members.
module _ {F M : Type 0} where
  pub all-at : {P : M → Type 0} {f : Poly F M} {c : F} {m : M} → All P f → (c, m) ∈ f → P m
  all-at {f = []} a h = absurd (Memᴰ.not-nil h)
  all-at {P} {f = t ∷ f} {c} {m} (all_cons p a) h = go (Memᴰ.cases_cons h) (λ q. all-at a q)
    where
      go : ((c, m) ≡ t) ⊎ ((c, m) ∈ f) → ((c, m) ∈ f → P m) → P m
      go (inl e) r = subst (λ (x : F × M). P x.1) (sym e) p
      go (inr q) r = r q

  pub all_of : {P : M → Type 0} (f : Poly F M) → ((c : F) (m : M) → (c, m) ∈ f → P m) → All P f
  all_of [] h = all_nil
  all_of (t ∷ f) h = all_cons (h t.0 t.1 (Memᴰ.head refl)) (all_of f (λ c m q. h c m (Memᴰ.tail q)))

  -- A monomial stands in f, or nowhere.
  pub find : (𝓜 : Monomials M) (f : Poly F M) (m : M) → ((c : F) × ((c, m) ∈ f)) ⊎ All (λ k. ¬ (k ≡ m)) f
  find 𝓜 [] m = inr all_nil
  find 𝓜 (t ∷ f) m = go (𝓜.same? t.1 m) (find 𝓜 f m)
    where
      go : Dec (t.1 ≡ m) → ((c : F) × ((c, m) ∈ f)) ⊎ All (λ k. ¬ (k ≡ m)) f → ((c : F) × ((c, m) ∈ (t ∷ f))) ⊎ All (λ k. ¬ (k ≡ m)) (t ∷ f)
      go (yes e) r = inl (t.0, Memᴰ.head (ap (λ x. (t.0, x)) (sym e)))
      go (no n) (inl q) = inl (q.0, Memᴰ.tail q.1)
      go (no n) (inr a) = inr (all_cons n a)

  pub equal-nil : (f : Poly F M) → Equal f [] → f ≡ []
  equal-nil [] e = refl
  equal-nil (t ∷ f) e = absurd (Memᴰ.not-nil (e.0 t (Memᴰ.head refl)))

module _ {F M : Type 0} {R : Arithmetic F} (ring : Ring R) (𝓜 : Monomials M) where
  open R use {zero as 𝟘, one as 𝟙, add, mul, neg}

  pub δ-same : (k : M) → δ R 𝓜 k k ≡ 𝟙
  unfolding δ
  δ-same k = if_pos (𝓜.same? k k) refl 𝟙 𝟘

  pub δ-other : (k m : M) → ¬ (k ≡ m) → δ R 𝓜 k m ≡ 𝟘
  unfolding δ
  δ-other k m h = if_neg (𝓜.same? k m) h 𝟙 𝟘

  pub coef-cons : (t : F × M) (f : Poly F M) (k : M) → coef R 𝓜 (t ∷ f) k ≡ add (mul t.0 (δ R 𝓜 k t.1)) (coef R 𝓜 f k)
  unfolding coef
  coef-cons t f k = refl

  pub coef-nil : (k : M) → coef R 𝓜 [] k ≡ 𝟘
  unfolding coef
  coef-nil k = refl

  pub coef-here : (c : F) (m : M) (f : Poly F M) → coef R 𝓜 ((c, m) ∷ f) m ≡ add c (coef R 𝓜 f m)
  coef-here c m f = coef-cons (c, m) f m ∙ ap (λ x. add x (coef R 𝓜 f m)) (ap (mul c) (δ-same m) ∙ ring.mul_one c)

  pub coef-there : (t : F × M) (f : Poly F M) (k : M) → ¬ (k ≡ t.1) → coef R 𝓜 (t ∷ f) k ≡ coef R 𝓜 f k
  coef-there t f k h = coef-cons t f k ∙ ap (λ x. add x (coef R 𝓜 f k)) (ap (mul t.0) (δ-other k t.1 h) ∙ mul-zero ring t.0) ∙ zero-add ring _

  pub coef-absent : (f : Poly F M) (k : M) → All (λ m. ¬ (m ≡ k)) f → coef R 𝓜 f k ≡ 𝟘
  coef-absent [] k all_nil = coef-nil k
  coef-absent (t ∷ f) k (all_cons h a) = coef-there t f k (λ e. h (sym e)) ∙ coef-absent f k a

  pub coef-append : (f g : Poly F M) (k : M) → coef R 𝓜 (f ++ g) k ≡ add (coef R 𝓜 f k) (coef R 𝓜 g k)
  unfolding self
  coef-append f g k = coef-lin ring 𝓜 (f ++ g) k ∙ lin-append (self ring) (δ R 𝓜 k) f g ∙ ap₂ add (sym (coef-lin ring 𝓜 f k)) (sym (coef-lin ring 𝓜 g k))

  pub coef-scale : (c : F) (f : Poly F M) (k : M) → coef R 𝓜 (scale R c f) k ≡ mul c (coef R 𝓜 f k)
  unfolding self
  coef-scale c f k = coef-lin ring 𝓜 (scale R c f) k ∙ lin-scale (self ring) (δ R 𝓜 k) c f ∙ ap (mul c) (sym (coef-lin ring 𝓜 f k))

  pub coef-negate : (f : Poly F M) (k : M) → coef R 𝓜 (negate R f) k ≡ neg (coef R 𝓜 f k)
  unfolding self
  coef-negate f k = coef-lin ring 𝓜 (negate R f) k ∙ lin-negate (self ring) (δ R 𝓜 k) f ∙ ap neg (sym (coef-lin ring 𝓜 f k))

  pub coef-minus : (f g : Poly F M) (k : M) → coef R 𝓜 (minus R f g) k ≡ add (coef R 𝓜 f k) (neg (coef R 𝓜 g k))
  coef-minus f g k = coef-append f (negate R g) k ∙ ap (add _) (coef-negate g k)

  pub coef-shift : (u : M) (f : Poly F M) (k : M) → coef R 𝓜 (shift 𝓜 u f) k ≡ lin (self ring) (λ m. δ R 𝓜 k (𝓜.mul u m)) f
  coef-shift u f k = coef-lin ring 𝓜 (shift 𝓜 u f) k ∙ lin-relabel (self ring) (δ R 𝓜 k) (𝓜.mul u) f

  pub coef-times : (f g : Poly F M) (k : M) → coef R 𝓜 (times R 𝓜 f g) k ≡ lin (self ring) (λ m. coef R 𝓜 (shift 𝓜 m g) k) f
  coef-times f g k = coef-lin ring 𝓜 (times R 𝓜 f g) k ∙ lin-expand (self ring) (δ R 𝓜 k) (λ m. shift 𝓜 m g) f
      ∙ ap (λ L. lin (self ring) L f) (fun_ext (λ m. sym (coef-lin ring 𝓜 (shift 𝓜 m g) k)))

  -- The terms of a polynomial are its coefficients that are not zero.
  pub coef-of-term : (f : Poly F M) → Polynomial R f → (c : F) (m : M) → (c, m) ∈ f → coef R 𝓜 f m ≡ c
  coef-of-term [] p c m h = absurd (Memᴰ.not-nil h)
  coef-of-term (t ∷ f) p c m h = go (Memᴰ.cases_cons h) (λ q. coef-of-term f p.2 c m q)
    where
      go : ((c, m) ≡ t) ⊎ ((c, m) ∈ f) → ((c, m) ∈ f → coef R 𝓜 f m ≡ c) → coef R 𝓜 (t ∷ f) m ≡ c
      go (inl e) r = subst (λ (x : F × M). coef R 𝓜 (x ∷ f) m ≡ c) e (coef-here c m f
          ∙ ap (add c) (coef-absent f m (all_map (λ k n q. n (q ∙ ap (λ (x : F × M). x.1) e)) p.1)) ∙ ring.add_zero c)
      go (inr q) r = coef-there t f m (λ e. all-at p.1 q e) ∙ r q

  pub nonzero-of-term : (f : Poly F M) → Polynomial R f → (c : F) (m : M) → (c, m) ∈ f → ¬ (c ≡ 𝟘)
  nonzero-of-term [] p c m h = absurd (Memᴰ.not-nil h)
  nonzero-of-term (t ∷ f) p c m h = go (Memᴰ.cases_cons h) (λ q. nonzero-of-term f p.2 c m q)
    where
      go : ((c, m) ≡ t) ⊎ ((c, m) ∈ f) → ((c, m) ∈ f → ¬ (c ≡ 𝟘)) → ¬ (c ≡ 𝟘)
      go (inl e) r = λ z. p.0 (sym (ap (λ (x : F × M). x.0) e) ∙ z)
      go (inr q) r = r q

  pub term-of-coef : (f : Poly F M) → Polynomial R f → (m : M) → ¬ (coef R 𝓜 f m ≡ 𝟘) → (coef R 𝓜 f m, m) ∈ f
  term-of-coef f p m h = go (find 𝓜 f m)
    where
      go : ((c : F) × ((c, m) ∈ f)) ⊎ All (λ k. ¬ (k ≡ m)) f → (coef R 𝓜 f m, m) ∈ f
      go (inl q) = subst (λ x. (x, m) ∈ f) (sym (coef-of-term f p q.0 m q.1)) q.1
      go (inr a) = absurd (h (coef-absent f m a))

  -- A coefficient of a term is zero only if there is no such term.
  pub no-term : (f : Poly F M) → Polynomial R f → (c : F) (m : M) → coef R 𝓜 f m ≡ 𝟘 → ¬ ((c, m) ∈ f)
  no-term f p c m z t = nonzero-of-term f p c m t (sym (coef-of-term f p c m t) ∙ z)

  pub equal-of-same : (f g : Poly F M) → Polynomial R f → Polynomial R g → Same R 𝓜 f g → Equal f g
  equal-of-same f g p q h = (λ t. half f g p q h t, λ t. half g f q p (λ k. sym (h k)) t)
    where
      half : (f g : Poly F M) → Polynomial R f → Polynomial R g → Same R 𝓜 f g → (t : F × M) → t ∈ f → t ∈ g
      half f g p q h t d = subst (λ x. (x, t.1) ∈ g) (sym (h t.1) ∙ is)
          (term-of-coef g q t.1 (λ z. nonzero-of-term f p t.0 t.1 d (sym is ∙ h t.1 ∙ z)))
        where
          is : coef R 𝓜 f t.1 ≡ t.0
          is = coef-of-term f p t.0 t.1 d

  pub same-of-equal : (f g : Poly F M) → Polynomial R f → Polynomial R g → Equal f g → Same R 𝓜 f g
  same-of-equal f g p q e m = go (find 𝓜 f m) (find 𝓜 g m)
    where
      go : ((c : F) × ((c, m) ∈ f)) ⊎ All (λ k. ¬ (k ≡ m)) f → ((c : F) × ((c, m) ∈ g)) ⊎ All (λ k. ¬ (k ≡ m)) g → coef R 𝓜 f m ≡ coef R 𝓜 g m
      go (inl d) r = coef-of-term f p d.0 m d.1 ∙ sym (coef-of-term g q d.0 m (e.0 (d.0, m) d.1))
      go (inr a) (inl d) = absurd (all-at a (e.1 (d.0, m) d.1) refl)
      go (inr a) (inr b) = coef-absent f m a ∙ sym (coef-absent g m b)

  -- A polynomial all of whose coefficients are zero has no terms.
  pub nil-of-zero : (f : Poly F M) → Polynomial R f → ((k : M) → coef R 𝓜 f k ≡ 𝟘) → f ≡ []
  nil-of-zero f p z = equal-nil f (equal-of-same f [] p tt (λ k. z k ∙ sym (coef-nil k)))

  -- Any list of terms has such a form.
  without-proper : (k : M) (f : Poly F M) → Polynomial R f → Polynomial R (without 𝓜 k f)
  unfolding without
  without-proper k [] p = p
  without-proper k (t ∷ f) p = go (𝓜.same? k t.1) (without-proper k f p.2)
    where
      go : (d : Dec (k ≡ t.1)) → Polynomial R (without 𝓜 k f) → Polynomial R (ite d (without 𝓜 k f) (t ∷ without 𝓜 k f))
      go (yes e) b = b
      go (no n) b = (p.0, all_without 𝓜 k p.1, b)

  pub coef-without : (k m : M) (f : Poly F M) → ¬ (m ≡ k) → coef R 𝓜 (without 𝓜 k f) m ≡ coef R 𝓜 f m
  coef-without k m f n = sym (zero-add ring _) ∙ ap (λ x. add x (coef R 𝓜 (without 𝓜 k f) m)) (sym (mul-zero ring (coef R 𝓜 f k)) ∙ ap (mul (coef R 𝓜 f k)) (sym (δ-other m k n)))
      ∙ sym (coef-split ring 𝓜 m k f)

  module _ (decide : (a b : F) → Dec (a ≡ b)) where
    put : (c : F) (m : M) → Dec (c ≡ 𝟘) → Poly F M → Poly F M
    put c m (yes _) f = f
    put c m (no _) f = (c, m) ∷ f

    -- f in good form.
    pub clean : Poly F M → Poly F M
    clean [] = []
    clean (t ∷ f) = put (coef R 𝓜 (t ∷ f) t.1) t.1 (decide (coef R 𝓜 (t ∷ f) t.1) 𝟘) (without 𝓜 t.1 (clean f))

    pub clean-proper : (f : Poly F M) → Polynomial R (clean f)
    unfolding clean put
    clean-proper [] = tt
    clean-proper (t ∷ f) = go (decide (coef R 𝓜 (t ∷ f) t.1) 𝟘) (clean-proper f)
      where
        go : (d : Dec (coef R 𝓜 (t ∷ f) t.1 ≡ 𝟘)) → Polynomial R (clean f) → Polynomial R (put (coef R 𝓜 (t ∷ f) t.1) t.1 d (without 𝓜 t.1 (clean f)))
        go (yes e) p = without-proper t.1 (clean f) p
        go (no n) p = (n, without-off 𝓜 t.1 (clean f), without-proper t.1 (clean f) p)

    pub clean-same : (f : Poly F M) → Same R 𝓜 (clean f) f
    unfolding clean put
    clean-same [] m = refl
    clean-same (t ∷ f) m = go (decide (coef R 𝓜 (t ∷ f) t.1) 𝟘) (𝓜.same? m t.1) (clean-same f m)
      where
        w : Poly F M
        w = without 𝓜 t.1 (clean f)

        go : (d : Dec (coef R 𝓜 (t ∷ f) t.1 ≡ 𝟘)) → Dec (m ≡ t.1) → coef R 𝓜 (clean f) m ≡ coef R 𝓜 f m
            → coef R 𝓜 (put (coef R 𝓜 (t ∷ f) t.1) t.1 d w) m ≡ coef R 𝓜 (t ∷ f) m
        go (yes z) (yes e) h = ap (coef R 𝓜 w) e ∙ coef-absent w t.1 (without-off 𝓜 t.1 (clean f)) ∙ sym z ∙ ap (coef R 𝓜 (t ∷ f)) (sym e)
        go (no z) (yes e) h = ap (coef R 𝓜 ((coef R 𝓜 (t ∷ f) t.1, t.1) ∷ w)) e ∙ coef-here _ t.1 w
            ∙ ap (add _) (coef-absent w t.1 (without-off 𝓜 t.1 (clean f))) ∙ ring.add_zero _ ∙ ap (coef R 𝓜 (t ∷ f)) (sym e)
        go (yes z) (no n) h = coef-without t.1 m (clean f) n ∙ h ∙ sym (coef-there t f m n)
        go (no z) (no n) h = coef-there _ w m n ∙ coef-without t.1 m (clean f) n ∙ h ∙ sym (coef-there t f m n)
