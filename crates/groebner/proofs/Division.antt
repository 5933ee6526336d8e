-- The remainder as document 01 words it: one exists, any two are equal, and it is the normal form.
--   LinePlace G             the lines of G
--   Top, scan               the greatest term of a polynomial whose monomial has a property
--   FirstLine, look         the earliest line that divides a monomial
--   rewriting 𝓟 ord G low   the lines as a rewriting system, whose choice is the earliest line
-- Remainders: remainder (existence), remainder-unique, remainder-equal, remainder-NF, remainder-proper, remainder-finished
-- Lines and their multiples: reducible?, earliest-in, earliest-unique, vanishes, finished-irreducible, shift-below, coef-lead, coef-above
use mathlib.Core.Path.{◌≡◌, refl, sym, ◌∙◌, ap, ap₂, subst}
use mathlib.Core.List.Memᴰ
use mathlib.Core.List.{List, [], ◌∷◌}
use mathlib.Core.Logic.{◌⊎◌, inl, inr}
use mathlib.Core.WellFounded.{induction}
use Rattle.lists.specs.Lists.{◌∈◌}
use Rattle.residue.specs.Field.{Arithmetic}
use Rattle.monomial.specs.Ordering.{Monomials, Divides}
use Rattle.monomial.proofs.OrderLaws.{MonomialOrder}
use Rattle.monomial.proofs.AnyOrder.{irreflexive, asymmetric}
use Rattle.groebner.specs.Polynomials.{Poly, All, all_cons, Polynomial, Equal, Same, coef, relabel, scale, minus, shift}
use Rattle.groebner.specs.Lines.{Line, polynomial, Reducible, Earliest}
use Rattle.groebner.specs.Criteria.{Low}
use Rattle.groebner.specs.Remainders.{Normal, Step, Remainder, done, step}
use Rattle.groebner.proofs.Modules.{self, mul-zero, opposite-null}
use Rattle.groebner.proofs.Linear.{all_map, all-relabel, lin, lin-append, lin-scale, lin-negate, lin-same}
use Rattle.groebner.proofs.Terms.{all_of, find, coef-here, coef-absent, coef-scale, coef-minus, coef-of-term, no-term, equal-of-same, same-of-equal, clean, clean-proper, clean-same}
use Rattle.groebner.proofs.NormalForms.{Pick, found, stuck, Rewriting, rule, rule_multiple, nfc, NF, NF-coef, NF-fixed, Irreducible, chosen-vanishes}
use Rattle.groebner.proofs.Ground.{PolynomialRing, cancel_right}

-- The lines of a list.
abbrev pub LinePlace : {F M : Type 0} → List (Line F M) → Type 0
LinePlace {F} {M} G = (g : Line F M) × (g ∈ G)

module _ {F M : Type 0} {𝓜 : Monomials M} {lt : M → M → Type 0} (ord : MonomialOrder 𝓜 lt) (P : M → Type 0) (P? : (m : M) → Dec (P m)) where
  -- The greatest term whose monomial has P, if there is one.
  pub data Top (f : Poly F M) : Type 0 where
    top : (c : F) (m : M) → (c, m) ∈ f → P m → ((d : F) (k : M) → (d, k) ∈ f → P k → (k ≡ m) ⊎ lt k m) → Top f
    flat : ((c : F) (m : M) → (c, m) ∈ f → ¬ P m) → Top f

  split-term : {t : F × M} {f : Poly F M} {d : F} {k : M} {Q : Type 0} → (d, k) ∈ (t ∷ f) → (k ≡ t.1 → Q) → ((d, k) ∈ f → Q) → Q
  split-term {t} {f} {d} {k} {Q} p here there = go (Memᴰ.cases_cons p)
    where
      go : ((d, k) ≡ t) ⊎ ((d, k) ∈ f) → Q
      go (inl e) = here (ap (λ (x : F × M). x.1) e)
      go (inr q) = there q

  pub scan : (f : Poly F M) → Top f
  scan [] = flat (λ c m p. absurd (Memᴰ.not-nil p))
  scan (t ∷ f) = go (P? t.1) (scan f)
    where
      pair : (c : F) (m : M) → (c, m) ∈ f → P m → ((d : F) (k : M) → (d, k) ∈ f → P k → (k ≡ m) ⊎ lt k m) → P t.1
          → lt t.1 m ⊎ ((t.1 ≡ m) ⊎ lt m t.1) → Top (t ∷ f)
      pair c m p r h s (inl q) = top c m (Memᴰ.tail p) r (λ d k x y. split-term x (λ e. inr (subst (λ z. lt z m) (sym e) q)) (λ z. h d k z y))
      pair c m p r h s (inr (inl q)) = top c m (Memᴰ.tail p) r (λ d k x y. split-term x (λ e. inl (e ∙ q)) (λ z. h d k z y))
      pair c m p r h s (inr (inr q)) = top t.0 t.1 (Memᴰ.head refl) s (λ d k x y. split-term x (λ e. inl e) (λ z. inr (up k (h d k z y))))
        where
          up : (k : M) → (k ≡ m) ⊎ lt k m → lt k t.1
          up k (inl e) = subst (λ z. lt z t.1) (sym e) q
          up k (inr w) = ord.trans w q

      go : Dec (P t.1) → Top f → Top (t ∷ f)
      go (yes s) (top c m p r h) = pair c m p r h s (ord.total t.1 m)
      go (yes s) (flat z) = top t.0 t.1 (Memᴰ.head refl) s (λ d k x y. split-term x (λ e. inl e) (λ w. absurd (z d k w y)))
      go (no n) (top c m p r h) = top c m (Memᴰ.tail p) r (λ d k x y. split-term x (λ e. absurd (n (subst (λ z. P z) e y))) (λ z. h d k z y))
      go (no n) (flat z) = flat (λ c m x y. split-term x (λ e. n (subst (λ w. P w) e y)) (λ w. z c m w y))

module _ {F M : Type 0} {R : Arithmetic F} {𝓜 : Monomials M} {lt : M → M → Type 0} (𝓟 : PolynomialRing R 𝓜) (ord : MonomialOrder 𝓜 lt) where
  open R use {zero as 𝟘, one as 𝟙, add, mul, neg}
  open 𝓜 use {mul as prod}
  open 𝓟 use {field, monoid}
  open field use {ring, decide}

  -- The earliest line that divides m, if there is one.
  pub data FirstLine (G : List (Line F M)) (m : M) : Type 0 where
    first : (g : Line F M) → Earliest 𝓜 m g G → (g ∈ G) → Divides 𝓜 g.0 m → FirstLine G m
    nothing : ((g : Line F M) → g ∈ G → ¬ Divides 𝓜 g.0 m) → FirstLine G m

  pub look : (G : List (Line F M)) (m : M) → FirstLine G m
  look [] m = nothing (λ g h. absurd (Memᴰ.not-nil h))
  look (h ∷ G) m = go (monoid.divides? h.0 m) (look G m)
    where
      go : Dec (Divides 𝓜 h.0 m) → FirstLine G m → FirstLine (h ∷ G) m
      go (yes d) r = first h (inl (refl, d)) (Memᴰ.head refl) d
      go (no n) (first g e p d) = first g (inr (n, e)) (Memᴰ.tail p) d
      go (no n) (nothing z) = nothing (λ g p. other g (Memᴰ.cases_cons p))
        where
          other : (g : Line F M) → (g ≡ h) ⊎ (g ∈ G) → ¬ Divides 𝓜 g.0 m
          other g (inl e) = subst (λ (x : Line F M). ¬ Divides 𝓜 x.0 m) (sym e) n
          other g (inr p) = z g p

  pub earliest-unique : (G : List (Line F M)) (m : M) (g h : Line F M) → Earliest 𝓜 m g G → Earliest 𝓜 m h G → g ≡ h
  earliest-unique [] m g h a b = absurd a
  earliest-unique (x ∷ G) m g h (inl p) (inl q) = p.0 ∙ sym q.0
  earliest-unique (x ∷ G) m g h (inl p) (inr q) = absurd (q.0 p.1)
  earliest-unique (x ∷ G) m g h (inr p) (inl q) = absurd (p.0 q.1)
  earliest-unique (x ∷ G) m g h (inr p) (inr q) = earliest-unique G m g h p.1 q.1

  pub earliest-in : (G : List (Line F M)) (m : M) (g : Line F M) → Earliest 𝓜 m g G → g ∈ G
  earliest-in [] m g a = absurd a
  earliest-in (x ∷ G) m g (inl p) = Memᴰ.head p.0
  earliest-in (x ∷ G) m g (inr p) = Memᴰ.tail (earliest-in G m g p.1)

  module _ (G : List (Line F M)) (low : Low lt G) where
    abbrev pick : (m : M) → FirstLine G m → Pick {I = LinePlace G} prod (λ i. i.0.0) m
    pick m (first g e p d) = found (g, p) d.0 d.1
    pick m (nothing z) = stuck (λ i u e. z i.0 i.1 (u, e))

    -- The lines as a reduction system.
    abbrev pub rewriting : Rewriting R 𝓜 (LinePlace G)
    rewriting = record {
      ring = ring;
      monoid = monoid;
      lt = lt;
      wf = ord.wf;
      mono = ord.mono;
      lead = λ i. i.0.0;
      tail = λ i. i.0.1;
      small = λ i. low i.0 i.1;
      pick = λ m. pick m (look G m);
    }

    pub reducible? : (m : M) → Dec (Reducible 𝓜 G m)
    reducible? m = go (look G m)
      where
        go : FirstLine G m → Dec (Reducible 𝓜 G m)
        go (first g e p d) = yes (g, p, d)
        go (nothing z) = no (λ r. z r.0 r.1 r.2)

    -- A multiple of the earliest line vanishes under the normal form.
    pub vanishes : (k m : M) (g : Line F M) (u : M) → Earliest 𝓜 m g G → m ≡ prod u g.0 → lin (self ring) (nfc rewriting k) (shift 𝓜 u (polynomial R g)) ≡ 𝟘
    unfolding polynomial rule_multiple rule
    vanishes k m g u e q = go (look G m) refl
      where
        go : (p : FirstLine G m) → look G m ≡ p → lin (self ring) (nfc rewriting k) (relabel (prod u) ((𝟙, g.0) ∷ g.1)) ≡ 𝟘
        go (first h e' p d) r = ap₂ (λ (h : Line F M) v. lin (self ring) (nfc rewriting k) (relabel (prod v) ((𝟙, h.0) ∷ h.1))) same
            (cancel_right monoid ord u d.0 g.0 (sym q ∙ d.1 ∙ ap (λ (h : Line F M). prod d.0 h.0) (sym same)))
            ∙ chosen-vanishes rewriting k m (h, p) d.0 d.1 (ap (pick m) r)
          where
            same : g ≡ h
            same = earliest-unique G m g h e e'
        go (nothing z) r = absurd (z g (earliest-in G m g e) (u, q))

    step-NF : {f f' : Poly F M} → Step R 𝓜 lt G f f' → Same R 𝓜 (NF rewriting f') (NF rewriting f)
    unfolding self
    step-NF {f} {f'} s k = NF-coef rewriting f' k ∙ lin-same ring 𝓜 (self ring) (nfc rewriting k) f' _ s.outcome ∙ lin-append (self ring) (nfc rewriting k) f _
        ∙ ap (add _) (lin-negate (self ring) (nfc rewriting k) _ ∙ ap neg (lin-scale (self ring) (nfc rewriting k) s.c _
        ∙ ap (mul s.c) (vanishes k s.m s.g s.u s.earliest s.quotient) ∙ mul-zero ring s.c) ∙ opposite-null (self ring)) ∙ ring.add_zero _ ∙ sym (NF-coef rewriting f k)

    pub finished-irreducible : (f : Poly F M) → Normal 𝓜 G f → All (Irreducible rewriting) f
    finished-irreducible f h = all_of f (λ c m p i u e. h c m p (i.0, i.1, (u, e)))

    -- The remainder is the normal form.
    pub remainder-NF : {f r : Poly F M} → Remainder R 𝓜 lt G f r → Same R 𝓜 r (NF rewriting f)
    remainder-NF {f} (done h) k = sym (NF-fixed rewriting f (finished-irreducible f h) k)
    remainder-NF (step s r) k = remainder-NF r k ∙ step-NF s k

    pub remainder-proper : {f r : Poly F M} → Polynomial R f → Remainder R 𝓜 lt G f r → Polynomial R r
    remainder-proper p (done h) = p
    remainder-proper p (step s r) = remainder-proper s.proper r

    pub remainder-finished : {f r : Poly F M} → Remainder R 𝓜 lt G f r → Normal 𝓜 G r
    remainder-finished (done h) = h
    remainder-finished (step s r) = remainder-finished r

    -- Any two remainders are equal.
    pub remainder-unique : (f r r' : Poly F M) → Polynomial R f → Remainder R 𝓜 lt G f r → Remainder R 𝓜 lt G f r' → Equal r r'
    remainder-unique f r r' p a b = equal-of-same ring 𝓜 r r' (remainder-proper p a) (remainder-proper p b) (λ k. remainder-NF a k ∙ sym (remainder-NF b k))

    -- Equal polynomials have equal remainders.
    pub remainder-equal : (f f' r r' : Poly F M) → Polynomial R f → Polynomial R f' → Equal f f' → Remainder R 𝓜 lt G f r → Remainder R 𝓜 lt G f' r' → Equal r r'
    remainder-equal f f' r r' p q e a b = equal-of-same ring 𝓜 r r' (remainder-proper p a) (remainder-proper q b)
        (λ k. remainder-NF a k ∙ NF-coef rewriting f k ∙ lin-same ring 𝓜 (self ring) (nfc rewriting k) f f' (same-of-equal ring 𝓜 f f' p q e) ∙ sym (NF-coef rewriting f' k) ∙ sym (remainder-NF b k))

    -- the coefficients of a multiple of a line, at its leading monomial and above
    pub shift-below : (g : Line F M) → g ∈ G → (u : M) → All (λ k. lt k (prod u g.0)) (shift 𝓜 u g.1)
    shift-below g p u = all-relabel (λ k. lt k (prod u g.0)) (prod u) (all_map (λ k h. ord.mono u h) (low g p))

    pub coef-lead : (g : Line F M) → g ∈ G → (u : M) → coef R 𝓜 (shift 𝓜 u (polynomial R g)) (prod u g.0) ≡ 𝟙
    unfolding polynomial relabel
    coef-lead g p u = coef-here ring 𝓜 𝟙 (prod u g.0) (shift 𝓜 u g.1)
        ∙ ap (add 𝟙) (coef-absent ring 𝓜 (shift 𝓜 u g.1) (prod u g.0) (all_map (λ k h e. irreflexive ord (subst (λ z. lt z (prod u g.0)) e h)) (shift-below g p u))) ∙ ring.add_zero 𝟙

    pub coef-above : (g : Line F M) → g ∈ G → (u k : M) → lt (prod u g.0) k → coef R 𝓜 (shift 𝓜 u (polynomial R g)) k ≡ 𝟘
    unfolding polynomial relabel
    coef-above g p u k h = coef-absent ring 𝓜 (shift 𝓜 u (polynomial R g)) k
        (all_cons (λ e. irreflexive ord (subst (λ z. lt z k) e h)) (all_map (λ x w e. asymmetric ord h (subst (λ z. lt z (prod u g.0)) e w)) (shift-below g p u)))

    -- A step from the greatest reducible term; what is reducible afterwards is smaller.
    advance : (f : Poly F M) → Polynomial R f → (c : F) (m : M) → (c, m) ∈ f → Reducible 𝓜 G m → ((d : F) (k : M) → (d, k) ∈ f → Reducible 𝓜 G k → (k ≡ m) ⊎ lt k m)
        → (f' : Poly F M) × Step R 𝓜 lt G f f' × ((d : F) (k : M) → (d, k) ∈ f' → Reducible 𝓜 G k → lt k m)
    advance f p c m t r h = go (look G m)
      where
        go : FirstLine G m → (f' : Poly F M) × Step R 𝓜 lt G f f' × ((d : F) (k : M) → (d, k) ∈ f' → Reducible 𝓜 G k → lt k m)
        go (nothing z) = absurd (z r.0 r.1 r.2)
        go (first g e q d) = (
          f',
          record { c = c; m = m; term = t; greatest = h; g = g; earliest = e; u = d.0; quotient = d.1; proper = clean-proper ring 𝓜 decide raw; outcome = clean-same ring 𝓜 decide raw },
          λ a k x y. smaller a k x y (ord.total k m),
        )
          where
            raw : Poly F M
            raw = minus R f (scale R c (shift 𝓜 d.0 (polynomial R g)))

            f' : Poly F M
            f' = clean ring 𝓜 decide raw

            value : (k : M) → coef R 𝓜 f' k ≡ add (coef R 𝓜 f k) (neg (mul c (coef R 𝓜 (shift 𝓜 d.0 (polynomial R g)) k)))
            value k = clean-same ring 𝓜 decide raw k ∙ coef-minus ring 𝓜 f (scale R c (shift 𝓜 d.0 (polynomial R g))) k ∙ ap (λ x. add (coef R 𝓜 f k) (neg x)) (coef-scale ring 𝓜 c (shift 𝓜 d.0 (polynomial R g)) k)

            at_top : coef R 𝓜 f' m ≡ 𝟘
            at_top = value m ∙ ap₂ (λ x y. add x (neg (mul c y))) (coef-of-term ring 𝓜 f p c m t) (ap (coef R 𝓜 (shift 𝓜 d.0 (polynomial R g))) d.1 ∙ coef-lead g q d.0) ∙ ap (λ x. add c (neg x)) (ring.mul_one c) ∙ ring.add_neg c

            above : (k : M) → lt m k → Reducible 𝓜 G k → coef R 𝓜 f' k ≡ 𝟘
            above k w y = value k ∙ ap₂ (λ x z. add x (neg (mul c z))) (absent (find 𝓜 f k)) (coef-above g q d.0 k (subst (λ z. lt z k) d.1 w))
                ∙ ap (λ x. add 𝟘 (neg x)) (mul-zero ring c) ∙ ring.add_neg 𝟘
              where
                high : (k ≡ m) ⊎ lt k m → ⊥
                high (inl e) = irreflexive ord (subst (λ z. lt z k) (sym e) w)
                high (inr v) = asymmetric ord w v

                absent : ((b : F) × ((b, k) ∈ f)) ⊎ All (λ x. ¬ (x ≡ k)) f → coef R 𝓜 f k ≡ 𝟘
                absent (inl b) = absurd (high (h b.0 k b.1 y))
                absent (inr a) = coef-absent ring 𝓜 f k a

            smaller : (a : F) (k : M) → (a, k) ∈ f' → Reducible 𝓜 G k → lt k m ⊎ ((k ≡ m) ⊎ lt m k) → lt k m
            smaller a k x y (inl w) = w
            smaller a k x y (inr (inl e)) = absurd (no-term ring 𝓜 f' (clean-proper ring 𝓜 decide raw) a k (ap (coef R 𝓜 f') e ∙ at_top) x)
            smaller a k x y (inr (inr w)) = absurd (no-term ring 𝓜 f' (clean-proper ring 𝓜 decide raw) a k (above k w y) x)

    Below : M → Type 0
    Below m = (f : Poly F M) → Polynomial R f → ((d : F) (k : M) → (d, k) ∈ f → Reducible 𝓜 G k → lt k m) → (r : Poly F M) × Remainder R 𝓜 lt G f r

    from : (f : Poly F M) → Polynomial R f → ((c : F) (m : M) → (c, m) ∈ f → Reducible 𝓜 G m → Below m) → (r : Poly F M) × Remainder R 𝓜 lt G f r
    unfolding Below
    from f p next = go (scan ord (Reducible 𝓜 G) reducible? f)
      where
        go : Top ord (Reducible 𝓜 G) reducible? f → (r : Poly F M) × Remainder R 𝓜 lt G f r
        go (flat z) = (f, done z)
        go (top c m t r h) = wrap (advance f p c m t r h)
          where
            wrap : (f' : Poly F M) × Step R 𝓜 lt G f f' × ((d : F) (k : M) → (d, k) ∈ f' → Reducible 𝓜 G k → lt k m) → (r : Poly F M) × Remainder R 𝓜 lt G f r
            wrap a = let b = next c m t r a.0 a.1.proper a.2 in (b.0, step a.1 b.1)

    below : (m : M) → Below m
    unfolding Below
    below m = induction ord.wf {C = Below} m (λ m ih f p h. from f p (λ c k t r. ih k (h c k t r)))

    -- A remainder exists.
    pub remainder : (f : Poly F M) → Polynomial R f → (r : Poly F M) × Remainder R 𝓜 lt G f r
    remainder f p = from f p (λ c m t r. below m)
