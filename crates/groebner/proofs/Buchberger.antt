-- Buchberger's criterion (T3): all S-polynomials have remainder zero exactly when the lines are a Groebner basis.
--   before-or, before-in     two lines of a list stand one before the other, or are one
--   AllPairs R 𝓜 lt G        every S-polynomial of two lines has remainder zero
--   buchberger               the criterion, over pairs of an earlier and a later line
--   zero-iff-NF              an S-polynomial has remainder zero exactly if its normal form vanishes
use mathlib.Core.Path.{◌≡◌, refl, sym, ◌∙◌, ap, ap₂, subst}
use mathlib.Core.List.Memᴰ
use mathlib.Core.List.{List, [], ◌∷◌}
use mathlib.Core.Logic.{◌⊎◌, inl, inr, ◌↔◌}
use Rattle.lists.specs.Lists.{◌∈◌}
use Rattle.lists.specs.Pairs.{Before}
use Rattle.residue.specs.Field.{Arithmetic}
use Rattle.monomial.specs.Ordering.{Monomials, Lcm}
use Rattle.monomial.proofs.OrderLaws.{MonomialOrder}
use Rattle.groebner.specs.Polynomials.{Poly, negate, minus, shift, coef}
use Rattle.groebner.specs.Lines.{Line, polynomial}
use Rattle.groebner.specs.Remainders.{Remainder, done}
use Rattle.groebner.specs.Bases.{Groebner, SPolynomial}
use Rattle.groebner.specs.Criteria.{Buchberger, Low}
use Rattle.groebner.proofs.Modules.{self, opposite-null, opposite-opposite, swap-difference}
use Rattle.groebner.proofs.Linear.{all_map, lin-negate}
use Rattle.groebner.proofs.Terms.{coef-nil, coef-negate, coef-minus, nil-of-zero, clean, clean-proper, clean-same}
use Rattle.groebner.proofs.NormalForms.{Rewriting, rule, rule_multiple, member-add, member-neg, member-same, member-shift, NF, NF-coef, NF-same}
use Rattle.groebner.proofs.SPairs.{SPair, NF-of-member}
use Rattle.groebner.proofs.Ground.{PolynomialRing, cancel_right}
use Rattle.groebner.proofs.Division.{LinePlace, rewriting, coef-lead, coef-above, remainder-NF}
use Rattle.groebner.proofs.Ideals.{member-line, member-of-ideal}
use Rattle.groebner.proofs.GroebnerBases.{Trace, trace, groebner-NF, groebner-of-zero, zero-remainder}

pub before-or : {A : Type 0} (f g : A) (l : List A) → f ∈ l → g ∈ l → (f ≡ g) ⊎ (Before f g l ⊎ Before g f l)
before-or f g [] p q = absurd (Memᴰ.not-nil p)
before-or {A} f g (h ∷ l) p q = go (Memᴰ.cases_cons p) (Memᴰ.cases_cons q) (before-or f g l)
  where
    lift : (f ≡ g) ⊎ (Before f g l ⊎ Before g f l) → (f ≡ g) ⊎ (Before f g (h ∷ l) ⊎ Before g f (h ∷ l))
    lift (inl e) = inl e
    lift (inr (inl b)) = inr (inl (inr b))
    lift (inr (inr b)) = inr (inr (inr b))

    go : (f ≡ h) ⊎ (f ∈ l) → (g ≡ h) ⊎ (g ∈ l) → (f ∈ l → g ∈ l → (f ≡ g) ⊎ (Before f g l ⊎ Before g f l)) → (f ≡ g) ⊎ (Before f g (h ∷ l) ⊎ Before g f (h ∷ l))
    go (inl a) (inl b) r = inl (a ∙ sym b)
    go (inl a) (inr b) r = inr (inl (inl (a, b)))
    go (inr a) (inl b) r = inr (inr (inl (b, a)))
    go (inr a) (inr b) r = lift (r a b)

pub before-in : {A : Type 0} (f g : A) (k : List A) → Before f g k → (f ∈ k) × (g ∈ k)
before-in f g [] b = absurd b
before-in f g (h ∷ k) (inl b) = (Memᴰ.head b.0, Memᴰ.tail b.1)
before-in f g (h ∷ k) (inr b) = let r = before-in f g k b in (Memᴰ.tail r.0, Memᴰ.tail r.1)

-- Every S-polynomial of two lines, in whatever order, has remainder zero.
abbrev pub AllPairs : {F M : Type 0} (R : Arithmetic F) (𝓜 : Monomials M) → (M → M → Type 0) → List (Line F M) → Type 0
AllPairs {F} {M} R 𝓜 lt G = (f g : Line F M) → f ∈ G → g ∈ G → (s : Poly F M) → SPolynomial R 𝓜 f g s → Remainder R 𝓜 lt G s []

module _ {F M : Type 0} {R : Arithmetic F} {𝓜 : Monomials M} {lt : M → M → Type 0} (𝓟 : PolynomialRing R 𝓜) (ord : MonomialOrder 𝓜 lt) (G : List (Line F M)) (low : Low lt G) where
  open R use {zero as 𝟘, one as 𝟙, add, neg}
  open 𝓜 use {mul as prod}
  open 𝓟 use {field, monoid}
  open field use {ring, decide}

  abbrev S : Rewriting R 𝓜 (LinePlace G)
  S = rewriting 𝓟 ord G low

  module _ (f g : Line F M) (fin : f ∈ G) (gin : g ∈ G) (m u v : M) (left : m ≡ prod u f.0) (right : m ≡ prod v g.0) where
    -- the S-polynomial lies below the least common multiple
    s-below : (k : M) → ¬ lt k m → coef R 𝓜 (minus R (shift 𝓜 u (polynomial R f)) (shift 𝓜 v (polynomial R g))) k ≡ 𝟘
    unfolding self
    s-below k n = coef-minus ring 𝓜 (shift 𝓜 u (polynomial R f)) (shift 𝓜 v (polynomial R g)) k ∙ go (ord.total k m)
      where
        go : lt k m ⊎ ((k ≡ m) ⊎ lt m k) → add (coef R 𝓜 (shift 𝓜 u (polynomial R f)) k) (neg (coef R 𝓜 (shift 𝓜 v (polynomial R g)) k)) ≡ 𝟘
        go (inl w) = absurd (n w)
        go (inr (inl e)) = ap₂ (λ x y. add x (neg y)) (ap (coef R 𝓜 (shift 𝓜 u (polynomial R f))) (e ∙ left) ∙ coef-lead 𝓟 ord G low f fin u)
            (ap (coef R 𝓜 (shift 𝓜 v (polynomial R g))) (e ∙ right) ∙ coef-lead 𝓟 ord G low g gin v) ∙ ring.add_neg 𝟙
        go (inr (inr w)) = ap₂ (λ x y. add x (neg y)) (coef-above 𝓟 ord G low f fin u k (subst (λ z. lt z k) left w)) (coef-above 𝓟 ord G low g gin v k (subst (λ z. lt z k) right w)) ∙ ring.add_neg 𝟘

  -- From the division of an S-polynomial with remainder zero.
  s_pair : AllPairs R 𝓜 lt G → (i j : LinePlace G) → SPair S i j
  unfolding rule_multiple rule polynomial
  s_pair pass i j = go (monoid.lcm i.0.0 j.0.0)
    where
      go : (m : M) × Lcm 𝓜 i.0.0 j.0.0 m → SPair S i j
      go (m, l) = record {
        a = l.left.0;
        b = l.right.0;
        meet = λ u v e. let w = l.least (prod u i.0.0) (u, refl) (v, e) in (
          w.0,
          cancel_right monoid ord u (prod w.0 l.left.0) i.0.0 (w.1 ∙ ap (prod w.0) l.left.1 ∙ sym (monoid.mul_assoc _ _ _)),
          cancel_right monoid ord v (prod w.0 l.right.0) j.0.0 (sym e ∙ w.1 ∙ ap (prod w.0) l.right.1 ∙ sym (monoid.mul_assoc _ _ _)),
        );
        comb = t.comb;
        below = all_map (λ x h. subst (lt (prod x.0 x.1.0.0)) l.left.1 h) t.below;
        rep = λ k. sym (clean-same ring 𝓜 decide raw k) ∙ t.sum k ∙ ap (add _) (coef-nil ring 𝓜 k) ∙ ring.add_zero _;
      }
        where
          raw : Poly F M
          raw = minus R (shift 𝓜 l.left.0 (polynomial R i.0)) (shift 𝓜 l.right.0 (polynomial R j.0))

          s : SPolynomial R 𝓜 i.0 j.0 (clean ring 𝓜 decide raw)
          s = record { m = m; lcm = l; u = l.left.0; left = l.left.1; v = l.right.0; right = l.right.1; proper = clean-proper ring 𝓜 decide raw; outcome = clean-same ring 𝓜 decide raw }

          t : Trace 𝓟 ord G low m (clean ring 𝓜 decide raw) []
          t = trace 𝓟 ord G low m (pass i.0 j.0 i.1 j.1 (clean ring 𝓜 decide raw) s) (clean-proper ring 𝓜 decide raw) (λ k n. clean-same ring 𝓜 decide raw k ∙ s-below i.0 j.0 i.1 j.1 m l.left.0 l.right.0 l.left.1 l.right.1 k n)

  groebner-of-pass : AllPairs R 𝓜 lt G → Groebner R 𝓜 lt G
  groebner-of-pass pass = groebner-of-zero 𝓟 ord G low (λ f p a. zero-remainder 𝓟 ord G low f p (NF-of-member S (s_pair pass) f (member-of-ideal 𝓟 ord G low f a)))

  pass-of-groebner : Groebner R 𝓜 lt G → AllPairs R 𝓜 lt G
  pass-of-groebner gb f g p q s w = zero-remainder 𝓟 ord G low s w.proper (groebner-NF 𝓟 ord G low gb s (member-same S _ _ (λ k. w.outcome k ∙ coef-minus ring 𝓜 _ _ k)
      (member-add S _ _ (member-shift S w.u (polynomial R f) (member-line 𝓟 ord G low f p)) (member-neg S _ (member-shift S w.v (polynomial R g) (member-line 𝓟 ord G low g q))))))

  NF-neg : (f : Poly F M) (k : M) → coef R 𝓜 (NF S (negate R f)) k ≡ neg (coef R 𝓜 (NF S f) k)
  unfolding self
  NF-neg f k = NF-coef S (negate R f) k ∙ lin-negate (self ring) _ f ∙ ap neg (sym (NF-coef S f k))

  pass-of-pairs : Buchberger R 𝓜 lt G → AllPairs R 𝓜 lt G
  unfolding self
  pass-of-pairs pass f g p q s w = go (before-or f g G p q)
    where
      u≡v : f ≡ g → w.u ≡ w.v
      u≡v e = cancel_right monoid ord w.u w.v f.0 (sym w.left ∙ w.right ∙ ap (λ (x : Line F M). prod w.v x.0) (sym e))

      none_left : f ≡ g → (k : M) → coef R 𝓜 s k ≡ 𝟘
      none_left e k = w.outcome k ∙ coef-minus ring 𝓜 _ _ k ∙ ap (λ x. add x (neg (coef R 𝓜 (shift 𝓜 w.v (polynomial R g)) k)))
          (ap₂ (λ u (x : Line F M). coef R 𝓜 (shift 𝓜 u (polynomial R x)) k) (u≡v e) e) ∙ ring.add_neg _

      -- the S-polynomial the other way round is the negative
      back : Poly F M
      back = clean ring 𝓜 decide (negate R s)

      back-coef : (k : M) → coef R 𝓜 back k ≡ neg (coef R 𝓜 s k)
      back-coef k = clean-same ring 𝓜 decide (negate R s) k ∙ coef-negate ring 𝓜 s k

      turned : SPolynomial R 𝓜 g f back
      turned = record {
        m = w.m;
        lcm = record { left = w.lcm.right; right = w.lcm.left; least = λ k a b. w.lcm.least k b a };
        u = w.v;
        left = w.right;
        v = w.u;
        right = w.left;
        proper = clean-proper ring 𝓜 decide (negate R s);
        outcome = λ k. back-coef k ∙ ap neg (w.outcome k ∙ coef-minus ring 𝓜 (shift 𝓜 w.u (polynomial R f)) (shift 𝓜 w.v (polynomial R g)) k) ∙ sym (swap-difference (self ring) _ _) ∙ sym (coef-minus ring 𝓜 (shift 𝓜 w.v (polynomial R g)) (shift 𝓜 w.u (polynomial R f)) k);
      }

      go : (f ≡ g) ⊎ (Before f g G ⊎ Before g f G) → Remainder R 𝓜 lt G s []
      go (inl e) = subst (λ x. Remainder R 𝓜 lt G x []) (sym (nil-of-zero ring 𝓜 s w.proper (none_left e))) (done (λ c m h. absurd (Memᴰ.not-nil h)))
      go (inr (inl b)) = pass f g b s w
      go (inr (inr b)) = zero-remainder 𝓟 ord G low s w.proper (λ k. sym (opposite-opposite (self ring) _) ∙ ap neg (sym (NF-neg s k) ∙ NF-same S (negate R s) back (λ j. sym (clean-same ring 𝓜 decide (negate R s) j)) k
          ∙ sym (remainder-NF 𝓟 ord G low (pass g f b back turned) k) ∙ coef-nil ring 𝓜 k) ∙ opposite-null (self ring))

  -- What check 15 computes: an S-polynomial has remainder zero exactly if the normal form of u·f - v·g vanishes.
  pub zero-iff-NF : (f g : Line F M) (s : Poly F M) (w : SPolynomial R 𝓜 f g s)
      → Remainder R 𝓜 lt G s [] ↔ ((k : M) → coef R 𝓜 (NF S (minus R (shift 𝓜 w.u (polynomial R f)) (shift 𝓜 w.v (polynomial R g)))) k ≡ 𝟘)
  zero-iff-NF f g s w = (
    λ q k. sym (NF-same S s _ w.outcome k) ∙ sym (remainder-NF 𝓟 ord G low q k) ∙ coef-nil ring 𝓜 k,
    λ h. zero-remainder 𝓟 ord G low s w.proper (λ k. NF-same S s _ w.outcome k ∙ h k),
  )

  pub buchberger : Buchberger R 𝓜 lt G ↔ Groebner R 𝓜 lt G
  buchberger = (
    λ pass. groebner-of-pass (pass-of-pairs pass),
    λ gb f g b. pass-of-groebner gb f g (before-in f g G b).0 (before-in f g G b).1,
  )
