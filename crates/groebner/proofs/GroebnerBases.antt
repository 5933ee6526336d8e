-- Steps of the division, and what they say of Groebner bases.
--   Head f              the leading monomial of a polynomial, or that it is zero; head_of
--   Trace bound f r     f as the sum of the multiples that were subtracted, all below a bound, and its remainder; trace
-- Of steps: step_value, place, step-above, step-under, regroup, step-inside, leading-kept
-- Of any lines: remainder-member (T2: a polynomial and its remainder differ by an element of the ideal), member-remainder, ideal-of-zero, zero-remainder
-- Of a Groebner basis: zero-of-finished, groebner-zero (T4: elements of the ideal have remainder zero), groebner-NF
-- groebner-of-zero: lines under which every element of the ideal has remainder zero are a Groebner basis
use mathlib.Core.Path.{◌≡◌, refl, sym, ◌∙◌, ap, ap₂, subst}
use mathlib.Core.List.Memᴰ
use mathlib.Core.List.{List, [], ◌∷◌}
use mathlib.Core.Logic.{◌⊎◌, inl, inr}
use Rattle.lists.specs.Lists.{◌∈◌}
use Rattle.residue.specs.Field.{Arithmetic}
use Rattle.monomial.specs.Ordering.{Monomials}
use Rattle.monomial.proofs.OrderLaws.{MonomialOrder}
use Rattle.monomial.proofs.AnyOrder.{irreflexive, asymmetric}
use Rattle.groebner.specs.Polynomials.{Poly, All, all_nil, all_cons, Polynomial, scale, shift, coef, Same}
use Rattle.groebner.specs.Lines.{Line, polynomial, Reducible}
use Rattle.groebner.specs.Criteria.{Low}
use Rattle.groebner.specs.Remainders.{Normal, Step, Remainder, done, step}
use Rattle.groebner.specs.Ideals.{IdealOf}
use Rattle.groebner.specs.Bases.{Leading, Groebner}
use Rattle.groebner.proofs.Modules.{self, zero-add, mul-zero, opposite-null, undo-difference, plus-around}
use Rattle.groebner.proofs.Terms.{find, coef-nil, coef-absent, coef-minus, coef-scale, no-term, nil-of-zero, clean, clean-proper, clean-same}
use Rattle.groebner.proofs.NormalForms.{Rewriting, rule, rule_multiple, rules_combined, Member, member-add, member-neg, member-same, member-of-NF, NF, NF-same, residue-member}
use Rattle.groebner.proofs.Ground.{PolynomialRing}
use Rattle.groebner.proofs.Division.{Top, top, flat, scan, LinePlace, rewriting, reducible?, earliest-in, coef-above, remainder, remainder-NF, remainder-proper, remainder-finished}
use Rattle.groebner.proofs.Ideals.{ideal-same, member-of-ideal, ideal-of-member, coef-combination-nil, coef-combination-cons}

module _ {F M : Type 0} {R : Arithmetic F} {𝓜 : Monomials M} {lt : M → M → Type 0} (𝓟 : PolynomialRing R 𝓜) (ord : MonomialOrder 𝓜 lt) (G : List (Line F M)) (low : Low lt G) where
  open R use {zero as 𝟘, one as 𝟙, add, mul, neg}
  open 𝓜 use {mul as prod}
  open 𝓟 use {field, monoid}
  open field use {ring, decide}

  abbrev S : Rewriting R 𝓜 (LinePlace G)
  S = rewriting 𝓟 ord G low

  -- The greatest monomial of a polynomial that is not zero.
  pub data Head (f : Poly F M) : Type 0 where
    head : (m : M) (c : F) → (c, m) ∈ f → Leading R 𝓜 lt f m → Head f
    zero : f ≡ [] → Head f

  pub head_of : (f : Poly F M) → Polynomial R f → Head f
  head_of f p = go (scan ord (λ _. Unit) (λ _. yes tt) f)
    where
      empty : (f : Poly F M) → ((c : F) (m : M) → (c, m) ∈ f → ¬ (Unit {0})) → f ≡ []
      empty [] z = refl
      empty (t ∷ f) z = absurd (z t.0 t.1 (Memᴰ.head refl) tt)

      go : Top ord (λ _. Unit) (λ _. yes tt) f → Head f
      go (flat z) = zero (empty f z)
      go (top c m t _ h) = head m c t (λ e. no-term ring 𝓜 f p c m e t, λ k w. off k w (find 𝓜 f k))
        where
          high : (k : M) → lt m k → (k ≡ m) ⊎ lt k m → ⊥
          high k w (inl e) = irreflexive ord (subst (λ z. lt z k) (sym e) w)
          high k w (inr v) = asymmetric ord w v

          off : (k : M) → lt m k → ((d : F) × ((d, k) ∈ f)) ⊎ All (λ x. ¬ (x ≡ k)) f → coef R 𝓜 f k ≡ 𝟘
          off k w (inl d) = absurd (high k w (h d.0 k d.1 tt))
          off k w (inr a) = coef-absent ring 𝓜 f k a

  -- An element of the ideal of a Groebner basis without reducible term is zero.
  pub zero-of-finished : Groebner R 𝓜 lt G → (f : Poly F M) → Polynomial R f → IdealOf R 𝓜 G f → Normal 𝓜 G f → f ≡ []
  zero-of-finished gb f p a h = go (head_of f p)
    where
      go : Head f → f ≡ []
      go (head m c t lead) = absurd (h c m t (gb f m a lead))
      go (zero e) = e

  -- A polynomial and its remainder differ by an element of the ideal.
  pub remainder-member : {f r : Poly F M} → Remainder R 𝓜 lt G f r → Member S (λ k. add (coef R 𝓜 f k) (neg (coef R 𝓜 r k)))
  remainder-member {f} {r} q = member-same S _ _ (λ k. ap (λ x. add (coef R 𝓜 f k) (neg x)) (remainder-NF 𝓟 ord G low q k)) (residue-member S f)

  pub member-remainder : {f r : Poly F M} → Remainder R 𝓜 lt G f r → Member S (coef R 𝓜 f) → Member S (coef R 𝓜 r)
  unfolding self
  member-remainder {f} {r} q a = member-same S _ _ (λ k. undo-difference (self ring) (coef R 𝓜 f k) (coef R 𝓜 r k)) (member-add S _ _ a (member-neg S _ (remainder-member q)))

  -- f lies in the ideal of a Groebner basis exactly if its remainder is zero.
  pub groebner-zero : Groebner R 𝓜 lt G → {f r : Poly F M} → Polynomial R f → Remainder R 𝓜 lt G f r → IdealOf R 𝓜 G f → r ≡ []
  groebner-zero gb {f} {r} p q a = zero-of-finished gb r (remainder-proper 𝓟 ord G low p q) (ideal-of-member 𝓟 ord G low r (member-remainder q (member-of-ideal 𝓟 ord G low f a))) (remainder-finished 𝓟 ord G low q)

  pub ideal-of-zero : {f : Poly F M} → Remainder R 𝓜 lt G f [] → IdealOf R 𝓜 G f
  ideal-of-zero {f} q = ideal-of-member 𝓟 ord G low f (member-of-NF S f (λ k. sym (remainder-NF 𝓟 ord G low q k) ∙ coef-nil ring 𝓜 k))

  abbrev tidy : Poly F M → Poly F M
  tidy f = clean ring 𝓜 decide f

  tidy-proper : (f : Poly F M) → Polynomial R (tidy f)
  tidy-proper f = clean-proper ring 𝓜 decide f

  tidy-same : (f : Poly F M) → Same R 𝓜 (tidy f) f
  tidy-same f = clean-same ring 𝓜 decide f

  -- The normal form of an element of the ideal vanishes.
  pub groebner-NF : Groebner R 𝓜 lt G → (f : Poly F M) → Member S (coef R 𝓜 f) → (k : M) → coef R 𝓜 (NF S f) k ≡ 𝟘
  groebner-NF gb f a k = go (remainder 𝓟 ord G low (tidy f) (tidy-proper f))
    where
      go : (r : Poly F M) × Remainder R 𝓜 lt G (tidy f) r → coef R 𝓜 (NF S f) k ≡ 𝟘
      go q = NF-same S f (tidy f) (λ k. sym (tidy-same f k)) k ∙ sym (remainder-NF 𝓟 ord G low q.1 k)
          ∙ ap (λ r. coef R 𝓜 r k) (groebner-zero gb (tidy-proper f) q.1 (ideal-same ring 𝓜 _ (tidy f) f (tidy-same f) (ideal-of-member 𝓟 ord G low f a))) ∙ coef-nil ring 𝓜 k

  -- An irreducible leading monomial survives the division.
  pub step_value : {f f' : Poly F M} (s : Step R 𝓜 lt G f f') (k : M) → coef R 𝓜 f' k ≡ add (coef R 𝓜 f k) (neg (mul s.c (coef R 𝓜 (shift 𝓜 s.u (polynomial R s.g)) k)))
  step_value {f} s k = s.outcome k ∙ coef-minus ring 𝓜 f (scale R s.c (shift 𝓜 s.u (polynomial R s.g))) k ∙ ap (λ x. add (coef R 𝓜 f k) (neg x)) (coef-scale ring 𝓜 s.c (shift 𝓜 s.u (polynomial R s.g)) k)

  pub place : {f f' : Poly F M} (s : Step R 𝓜 lt G f f') → s.g ∈ G
  place s = earliest-in 𝓟 ord G s.m s.g s.earliest

  pub step-above : {f f' : Poly F M} (s : Step R 𝓜 lt G f f') (k : M) → lt s.m k → coef R 𝓜 f' k ≡ coef R 𝓜 f k
  unfolding self
  step-above {f} s k h = step_value s k ∙ ap (λ x. add (coef R 𝓜 f k) (neg (mul s.c x))) (coef-above 𝓟 ord G low s.g (place s) s.u k (subst (λ z. lt z k) s.quotient h))
      ∙ ap (λ x. add (coef R 𝓜 f k) (neg x)) (mul-zero ring s.c) ∙ ap (add (coef R 𝓜 f k)) (opposite-null (self ring)) ∙ ring.add_zero _

  -- monomials at which f does not vanish
  pub step-under : {f f' : Poly F M} (s : Step R 𝓜 lt G f f') → Polynomial R f → (m : M) → ((k : M) → lt m k → coef R 𝓜 f k ≡ 𝟘) → (s.m ≡ m) ⊎ lt s.m m
  step-under {f} s p m h = go (ord.total s.m m)
    where
      go : lt s.m m ⊎ ((s.m ≡ m) ⊎ lt m s.m) → (s.m ≡ m) ⊎ lt s.m m
      go (inl w) = inr w
      go (inr (inl e)) = inl e
      go (inr (inr w)) = absurd (no-term ring 𝓜 f p s.c s.m (h s.m w) s.term)

  leading-kept : {f r : Poly F M} → Remainder R 𝓜 lt G f r → Polynomial R f → (m : M) → ¬ Reducible 𝓜 G m → Leading R 𝓜 lt f m → Leading R 𝓜 lt r m
  leading-kept (done h) p m n a = a
  leading-kept {f} (step {f' = f'} s q) p m n a = leading-kept q s.proper m n (go (step-under s p m a.1))
    where
      go : (s.m ≡ m) ⊎ lt s.m m → Leading R 𝓜 lt f' m
      go (inl e) = absurd (n (s.g, place s, (s.u, sym e ∙ s.quotient)))
      go (inr w) = (λ z. a.0 (sym (step-above s m w) ∙ z), λ k h. step-above s k (ord.trans w h) ∙ a.1 k h)

  -- Lines under which every element of the ideal has remainder zero are a Groebner basis.
  pub groebner-of-zero : ((f : Poly F M) → Polynomial R f → IdealOf R 𝓜 G f → Remainder R 𝓜 lt G f []) → Groebner R 𝓜 lt G
  groebner-of-zero all f m a lead = go (reducible? 𝓟 ord G low m)
    where
      lead' : Leading R 𝓜 lt (tidy f) m
      lead' = (λ z. lead.0 (sym (tidy-same f m) ∙ z), λ k h. tidy-same f k ∙ lead.1 k h)

      go : Dec (Reducible 𝓜 G m) → Reducible 𝓜 G m
      go (yes r) = r
      go (no n) = absurd ((leading-kept (all (tidy f) (tidy-proper f) (ideal-same ring 𝓜 _ (tidy f) f (tidy-same f) a)) (tidy-proper f) m n lead').0 (coef-nil ring 𝓜 m))

  pub regroup : (a b s r x : F) → x ≡ add a (neg b) → x ≡ add s r → a ≡ add (add b s) r
  unfolding self
  regroup a b s r x p q = sym (plus-around (self ring) b a) ∙ ap (add b) (sym p ∙ q) ∙ sym (ring.add_assoc b s r)

  coef-combination-step : {f f' : Poly F M} (s : Step R 𝓜 lt G f f') (c : Poly F (M × LinePlace G)) (k : M)
      → coef R 𝓜 (rules_combined S ((s.c, (s.u, (s.g, place s))) ∷ c)) k ≡ add (mul s.c (coef R 𝓜 (shift 𝓜 s.u (polynomial R s.g)) k)) (coef R 𝓜 (rules_combined S c) k)
  unfolding rule_multiple rule polynomial
  coef-combination-step s c k = coef-combination-cons 𝓟 ord G low (s.c, (s.u, (s.g, place s))) c k ∙ ap₂ add (coef-scale ring 𝓜 s.c (rule_multiple S s.u (s.g, place s)) k) refl

  -- The division stays below what bounds f.
  step-inside : (bound : M) {f f' : Poly F M} (s : Step R 𝓜 lt G f f') → Polynomial R f → ((k : M) → ¬ lt k bound → coef R 𝓜 f k ≡ 𝟘) → lt s.m bound
  step-inside bound {f} s p b = go (ord.total s.m bound)
    where
      out : ¬ lt s.m bound → ⊥
      out n = no-term ring 𝓜 f p s.c s.m (b s.m n) s.term

      go : lt s.m bound ⊎ ((s.m ≡ bound) ⊎ lt bound s.m) → lt s.m bound
      go (inl w) = w
      go (inr (inl e)) = absurd (out (λ w. irreflexive ord (subst (λ z. lt z bound) e w)))
      go (inr (inr w)) = absurd (out (λ v. asymmetric ord w v))

  step-bound : (bound : M) {f f' : Poly F M} (s : Step R 𝓜 lt G f f') → Polynomial R f → ((k : M) → ¬ lt k bound → coef R 𝓜 f k ≡ 𝟘) → (k : M) → ¬ lt k bound → coef R 𝓜 f' k ≡ 𝟘
  step-bound bound {f} s p b k n = step-above s k (over (ord.total k bound)) ∙ b k n
    where
      over : lt k bound ⊎ ((k ≡ bound) ⊎ lt bound k) → lt s.m k
      over (inl w) = absurd (n w)
      over (inr (inl e)) = subst (lt s.m) (sym e) (step-inside bound s p b)
      over (inr (inr w)) = ord.trans (step-inside bound s p b) w

  -- The division written out: f is the sum of the multiples that were subtracted, all below what bounds f, and its remainder.
  pub record Trace (bound : M) (f r : Poly F M) : Type 0 where
    pub comb : Poly F (M × LinePlace G)
    pub below : All (λ x. lt (prod x.0 x.1.0.0) bound) comb
    pub sum : (k : M) → coef R 𝓜 f k ≡ add (coef R 𝓜 (rules_combined S comb) k) (coef R 𝓜 r k)

  pub trace : (bound : M) {f r : Poly F M} → Remainder R 𝓜 lt G f r → Polynomial R f → ((k : M) → ¬ lt k bound → coef R 𝓜 f k ≡ 𝟘) → Trace bound f r
  trace bound {f} (done h) p b = record { comb = []; below = all_nil; sum = λ k. sym (ap₂ add (coef-combination-nil 𝓟 ord G low k) refl ∙ zero-add ring _) }
  trace bound {f} {r} (step {f' = f'} s q) p b = wrap (trace bound q s.proper (step-bound bound s p b))
    where
      wrap : Trace bound f' r → Trace bound f r
      wrap t = record {
        comb = (s.c, (s.u, (s.g, place s))) ∷ t.comb;
        below = all_cons (subst (λ z. lt z bound) s.quotient (step-inside bound s p b)) t.below;
        sum = λ k. regroup (coef R 𝓜 f k) _ _ _ (coef R 𝓜 f' k) (step_value s k) (t.sum k) ∙ ap₂ add (sym (coef-combination-step s t.comb k)) refl;
      }

  -- A polynomial whose normal form vanishes has remainder zero.
  pub zero-remainder : (f : Poly F M) → Polynomial R f → ((k : M) → coef R 𝓜 (NF S f) k ≡ 𝟘) → Remainder R 𝓜 lt G f []
  zero-remainder f p h = go (remainder 𝓟 ord G low f p)
    where
      go : (r : Poly F M) × Remainder R 𝓜 lt G f r → Remainder R 𝓜 lt G f []
      go q = subst (λ r. Remainder R 𝓜 lt G f r) (nil-of-zero ring 𝓜 q.0 (remainder-proper 𝓟 ord G low p q.1) (λ k. remainder-NF 𝓟 ord G low q.1 k ∙ h k)) q.1
