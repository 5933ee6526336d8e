-- The division by lines as a function: the greatest term first, each by the earliest line that divides it.
--   insert_term t f         the sum of a term and a polynomial, greatest term first
--   add_terms g f           the sum of two polynomials
--   reduce_terms G k f      k steps of the division of f
--   insert-same, add_same   the coefficients of the sums
--   reduce-normal           the steps keep the normal form
use mathlib.Core.Path.{◌≡◌, refl, sym, ◌∙◌, ap}
use mathlib.Core.List.{List, [], ◌∷◌, ◌++◌}
use mathlib.Core.Option.{Option, none, some}
use Prim.Native.Nat.{ℕ, zero, suc}
use Rattle.residue.specs.Field.{Arithmetic}
use Rattle.monomial.specs.Ordering.{Monomials, Divides}
use Rattle.monomial.proofs.OrderLaws.{MonomialOrder}
use Rattle.groebner.specs.Polynomials.{Poly, Same, coef, relabel, scale, shift, δ}
use Rattle.groebner.specs.Lines.{Line, polynomial, Earliest}
use Rattle.groebner.specs.Criteria.{Low}
use Rattle.groebner.proofs.Modules.{self, zero-add, zero-act, neg-act, act-opposite, opposite-opposite, opposite-unique, plus-left-comm}
use Rattle.groebner.proofs.Linear.{lin, lin-append, lin-scale, lin-same}
use Rattle.groebner.proofs.Terms.{coef-cons}
use Rattle.groebner.proofs.NormalForms.{Rewriting, NF, NF-coef, nfc}
use Rattle.groebner.proofs.Ground.{PolynomialRing}
use Rattle.groebner.proofs.Division.{LinePlace, rewriting, vanishes}
use Rattle.groebner.proofs.Computing.{Deciders, earliest}

module _ {F M : Type 0} {R : Arithmetic F} {𝓜 : Monomials M} {lt : M → M → Type 0} (D : Deciders R 𝓜 lt) where
  open D use {equal?, below?}

  -- The term c·m before f; none if c is zero.
  put : (c : F) → M → Dec (c ≡ R.zero) → Poly F M → Poly F M
  put c m (yes z) f = f
  put c m (no n) f = (c, m) ∷ f

  -- The sum of a term and a polynomial whose greatest term comes first.
  unfoldable pub insert_term : F × M → Poly F M → Poly F M
  unfolding put
  insert_term t [] = t ∷ []
  insert_term t (s ∷ f) = elim (𝓜.same? t.1 s.1) [
    | yes e ↦ put (R.add t.0 s.0) s.1 (equal? (R.add t.0 s.0) R.zero) f
    | no n ↦ elim (below? t.1 s.1) [ yes l ↦ s ∷ insert_term t f | no l ↦ t ∷ s ∷ f ]
  ]

  -- The sum of g and of a polynomial whose greatest term comes first.
  unfoldable pub add_terms : Poly F M → Poly F M → Poly F M
  unfolding insert_term
  add_terms [] f = f
  add_terms (t ∷ g) f = insert_term t (add_terms g f)

  -- k steps of the division: a term that no line divides stays, another is cancelled.
  unfoldable pub reduce_terms : List (Line F M) → ℕ → Poly F M → Poly F M
  unfolding add_terms earliest scale relabel
  reduce_terms G zero f = f
  reduce_terms G (suc k) [] = []
  reduce_terms G (suc k) (t ∷ f) = elim (earliest D t.1 G) [ none ↦ t ∷ reduce_terms G k f | some e ↦ reduce_terms G k (add_terms (scale R (R.neg t.0) (shift 𝓜 e.2.0 e.0.1)) f) ]

module _ {F M : Type 0} {R : Arithmetic F} {𝓜 : Monomials M} {lt : M → M → Type 0} (𝓟 : PolynomialRing R 𝓜) (ord : MonomialOrder 𝓜 lt) (D : Deciders R 𝓜 lt) where
  open R use {zero as 𝟘, add as plus, mul, neg}
  open 𝓟 use {field}
  open field use {ring}

  put_same : (c : F) (m : M) (d : Dec (c ≡ 𝟘)) (f : Poly F M) (k : M) → coef R 𝓜 (put D c m d f) k ≡ plus (mul c (δ R 𝓜 k m)) (coef R 𝓜 f k)
  unfolding put self
  put_same c m (yes z) f k = sym (ap (λ x. plus (mul x (δ R 𝓜 k m)) (coef R 𝓜 f k)) z ∙ ap (λ x. plus x (coef R 𝓜 f k)) (zero-act (self ring) _) ∙ zero-add ring _)
  put_same c m (no n) f k = coef-cons ring 𝓜 (c, m) f k

  pub insert-same : (t : F × M) (f : Poly F M) → Same R 𝓜 (insert_term D t f) (t ∷ f)
  unfolding insert_term self
  insert-same t [] k = refl
  insert-same t (s ∷ f) k = at (𝓜.same? t.1 s.1) (D.below? t.1 s.1) (insert-same t f k)
    where
      -- The term of x in the coefficient of k.
      part : F × M → F
      part x = mul x.0 (δ R 𝓜 k x.1)

      both : coef R 𝓜 (t ∷ s ∷ f) k ≡ plus (part t) (plus (part s) (coef R 𝓜 f k))
      both = coef-cons ring 𝓜 t (s ∷ f) k ∙ ap (plus (part t)) (coef-cons ring 𝓜 s f k)

      at : (d : Dec (t.1 ≡ s.1)) (l : Dec (lt t.1 s.1)) → coef R 𝓜 (insert_term D t f) k ≡ coef R 𝓜 (t ∷ f) k
          → coef R 𝓜 (elim d [ yes e ↦ put D (plus t.0 s.0) s.1 (D.equal? (plus t.0 s.0) 𝟘) f | no n ↦ elim l [ yes l ↦ s ∷ insert_term D t f | no l ↦ t ∷ s ∷ f ] ]) k ≡ coef R 𝓜 (t ∷ s ∷ f) k
      at (yes e) l h = put_same _ _ (D.equal? (plus t.0 s.0) 𝟘) f k ∙ ap (λ x. plus x (coef R 𝓜 f k)) ((self ring).act_add t.0 s.0 (δ R 𝓜 k s.1) ∙ ap (λ m. plus (mul t.0 (δ R 𝓜 k m)) (part s)) (sym e))
          ∙ ring.add_assoc _ _ _ ∙ sym both
      at (no n) (yes l) h = coef-cons ring 𝓜 s (insert_term D t f) k ∙ ap (plus (part s)) (h ∙ coef-cons ring 𝓜 t f k) ∙ plus-left-comm (self ring) _ _ _ ∙ sym both
      at (no n) (no l) h = refl

  pub add_same : (g f : Poly F M) → Same R 𝓜 (add_terms D g f) (g ++ f)
  unfolding add_terms
  add_same [] f k = refl
  add_same (t ∷ g) f k = insert-same t (add_terms D g f) k ∙ coef-cons ring 𝓜 t (add_terms D g f) k ∙ ap (plus _) (add_same g f k) ∙ sym (coef-cons ring 𝓜 t (g ++ f) k)

  module _ (G : List (Line F M)) (low : Low lt G) where
    abbrev S : Rewriting R 𝓜 (LinePlace G)
    S = rewriting 𝓟 ord G low

    -- A term less its multiple of the earliest line that divides it.
    cancelled : (j : M) (c : F) (m : M) (g : Line F M) (u : M) → Earliest 𝓜 m g G → m ≡ 𝓜.mul u g.0
        → lin (self ring) (nfc S j) (scale R (neg c) (shift 𝓜 u g.1)) ≡ mul c (nfc S j m)
    unfolding self lin polynomial relabel
    cancelled j c m g u e q = lin-scale (self ring) (nfc S j) (neg c) (shift 𝓜 u g.1) ∙ neg-act (self ring) c y ∙ ap (λ x. neg (mul c x)) opposite
        ∙ ap neg (act-opposite (self ring) c _) ∙ opposite-opposite (self ring) _ ∙ ap (λ x. mul c (nfc S j x)) (sym q)
      where
        y : F
        y = lin (self ring) (nfc S j) (shift 𝓜 u g.1)

        opposite : y ≡ neg (nfc S j (𝓜.mul u g.0))
        opposite = opposite-unique (self ring) _ y (ap (λ x. plus x y) (sym ((self ring).act_one _)) ∙ vanishes 𝓟 ord G low j m g u e q)

    reduce-lin : (j : M) (k : ℕ) (f : Poly F M) → lin (self ring) (nfc S j) (reduce_terms D G k f) ≡ lin (self ring) (nfc S j) f
    unfolding reduce_terms self lin
    reduce-lin j zero f = refl
    reduce-lin j (suc k) [] = refl
    reduce-lin j (suc k) (t ∷ f) = at (earliest D t.1 G) (λ g. reduce-lin j k g)
      where
        at : (o : Option ((g : Line F M) × Earliest 𝓜 t.1 g G × Divides 𝓜 g.0 t.1)) → ((g : Poly F M) → lin (self ring) (nfc S j) (reduce_terms D G k g) ≡ lin (self ring) (nfc S j) g)
            → lin (self ring) (nfc S j) (elim o [ none ↦ t ∷ reduce_terms D G k f | some e ↦ reduce_terms D G k (add_terms D (scale R (neg t.0) (shift 𝓜 e.2.0 e.0.1)) f) ]) ≡ lin (self ring) (nfc S j) (t ∷ f)
        at none h = ap (plus _) (h f)
        at (some (g, e, (u, q))) h =
            let x : Poly F M = scale R (neg t.0) (shift 𝓜 u g.1) in
            h (add_terms D x f) ∙ lin-same ring 𝓜 (self ring) (nfc S j) (add_terms D x f) (x ++ f) (add_same x f) ∙ lin-append (self ring) (nfc S j) x f
            ∙ ap (λ y. plus y (lin (self ring) (nfc S j) f)) (cancelled j t.0 t.1 g u e q)

    pub reduce-normal : (k : ℕ) (f : Poly F M) → Same R 𝓜 (NF S (reduce_terms D G k f)) (NF S f)
    reduce-normal k f j = NF-coef S (reduce_terms D G k f) j ∙ reduce-lin j k f ∙ sym (NF-coef S f j)
