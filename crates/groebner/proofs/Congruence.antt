-- Congruence modulo the ideal, and remainders (T4): on a Groebner basis remainders are equal exactly when the difference lies in the ideal, and sums and
-- products of congruent polynomials are congruent.
--   Congruent S f g          the difference lies in the ideal of the rewriting system S: cong-sym, cong-trans, cong-same, cong-add, cong-mul
--   agree-of-member, member-of-agree, NF-minus, times-comm, into
--   Modulo G f g             f and g differ by an element of the ideal of the lines G: modulo-same, modulo-sym, modulo-trans, modulo-sum, modulo-product
--   modulo-remainder         a polynomial and its remainder are congruent (T2)
--   equal-iff-modulo         of a Groebner basis: equal remainders exactly when congruent (T4); equal-of-modulo, modulo-of-equal are its two sides
--   remainder-sum            the remainder of a sum is the sum of the remainders, whatever the lines are (T1)
use mathlib.Core.Path.{◌≡◌, refl, sym, ◌∙◌, ap, ap₂, fun_ext}
use mathlib.Core.List.{List, ◌++◌}
use mathlib.Core.Logic.{◌↔◌}
use Rattle.residue.specs.Field.{Arithmetic}
use Rattle.monomial.specs.Ordering.{Monomials}
use Rattle.monomial.proofs.OrderLaws.{MonomialOrder}
use Rattle.groebner.specs.Polynomials.{Poly, Polynomial, Equal, negate, minus, shift, times, δ, coef, Same, IsSum, IsProduct}
use Rattle.groebner.specs.Lines.{Line}
use Rattle.groebner.specs.Criteria.{Low}
use Rattle.groebner.specs.Remainders.{Remainder}
use Rattle.groebner.specs.Ideals.{IdealOf}
use Rattle.groebner.specs.Bases.{Groebner}
use Rattle.groebner.proofs.Modules.{self, plus-medial, opposite-plus, equal-of-difference, swap-difference, chain-difference}
use Rattle.groebner.proofs.Linear.{all_true, lin, lin-append, lin-negate, lin-plus, lin-opposite, lin-swap, lin-self}
use Rattle.groebner.proofs.Terms.{coef-append, coef-minus, coef-shift, coef-times, equal-of-same, same-of-equal}
use Rattle.groebner.proofs.NormalForms.{Rewriting, rule, rule_multiple, NF, NF-coef, NF-same, Member, coef-combination, member-zero, member-add, member-neg, member-same, member-lin, member-shift, member-of-NF}
use Rattle.groebner.proofs.Ground.{PolynomialRing}
use Rattle.groebner.proofs.Division.{LinePlace, rewriting, remainder-NF, remainder-proper}
use Rattle.groebner.proofs.Ideals.{member-of-ideal, ideal-of-member}
use Rattle.groebner.proofs.GroebnerBases.{remainder-member, groebner-NF}

-- Congruence modulo the ideal of a rewriting system.
module _ {F M I : Type 0} {R : Arithmetic F} {𝓜 : Monomials M} (S : Rewriting R 𝓜 I) where
  open 𝓜 use {mul as prod}
  open S use {ring, monoid}

  coef-product : (f g : Poly F M) (k : M) → coef R 𝓜 (times R 𝓜 f g) k ≡ lin (self ring) (λ m. lin (self ring) (λ n. δ R 𝓜 k (prod m n)) g) f
  coef-product f g k = coef-times ring 𝓜 f g k ∙ ap (λ L. lin (self ring) L f) (fun_ext (λ m. coef-shift ring 𝓜 m g k))

  pub times-comm : (f g : Poly F M) → Same R 𝓜 (times R 𝓜 f g) (times R 𝓜 g f)
  times-comm f g k = coef-product f g k ∙ lin-swap (self ring) (λ m n. δ R 𝓜 k (prod m n)) f g
      ∙ ap (λ L. lin (self ring) L g) (fun_ext (λ n. ap (λ L. lin (self ring) L f) (fun_ext (λ m. ap (δ R 𝓜 k) (monoid.mul_comm m n))))) ∙ sym (coef-product g f k)

  -- The difference lies in the ideal.
  unfoldable pub Congruent : Poly F M → Poly F M → Type 0
  Congruent f g = Member S (λ k. R.add (coef R 𝓜 f k) (R.neg (coef R 𝓜 g k)))

  pub cong-sym : (f g : Poly F M) → Congruent f g → Congruent g f
  unfolding Congruent self
  cong-sym f g a = member-same S _ _ (λ k. swap-difference (self ring) (coef R 𝓜 f k) (coef R 𝓜 g k)) (member-neg S _ a)

  pub cong-trans : (f g h : Poly F M) → Congruent f g → Congruent g h → Congruent f h
  unfolding Congruent self
  cong-trans f g h a b = member-same S _ _ (λ k. chain-difference (self ring) (coef R 𝓜 f k) (coef R 𝓜 g k) (coef R 𝓜 h k)) (member-add S _ _ a b)

  cong-mul-right : (f g g' : Poly F M) → Congruent g g' → Congruent (times R 𝓜 f g) (times R 𝓜 f g')
  unfolding Congruent self
  cong-mul-right f g g' a = member-same S _ _ (λ k. sym (eq k)) (member-lin S (λ k m. coef R 𝓜 (shift 𝓜 m (minus R g g')) k) {f = f} (all_true (λ m. member-shift S m (minus R g g') (member-same S _ _ (coef-minus ring 𝓜 g g') a)) f))
    where
      eq : (k : M) → lin (self ring) (λ m. coef R 𝓜 (shift 𝓜 m (minus R g g')) k) f ≡ R.add (coef R 𝓜 (times R 𝓜 f g) k) (R.neg (coef R 𝓜 (times R 𝓜 f g') k))
      eq k = ap (λ L. lin (self ring) L f) (fun_ext each) ∙ lin-plus (self ring) (A g) (λ m. R.neg (A g' m)) f
          ∙ ap₂ R.add (sym (coef-product f g k)) (lin-opposite (self ring) (A g') f ∙ ap R.neg (sym (coef-product f g' k)))
        where
          A : Poly F M → M → F
          A h m = lin (self ring) (λ n. δ R 𝓜 k (prod m n)) h

          each : (m : M) → coef R 𝓜 (shift 𝓜 m (minus R g g')) k ≡ R.add (A g m) (R.neg (A g' m))
          each m = coef-shift ring 𝓜 m (minus R g g') k ∙ lin-append (self ring) _ g (negate R g') ∙ ap (R.add _) (lin-negate (self ring) _ g')

  pub cong-same : (f g : Poly F M) → Same R 𝓜 f g → Congruent f g
  unfolding Congruent
  cong-same f g h = member-same S _ _ (λ k. ap₂ R.add (h k) refl ∙ ring.add_neg _) (member-zero S)

  pub cong-mul : (f f' g g' : Poly F M) → Congruent f f' → Congruent g g' → Congruent (times R 𝓜 f g) (times R 𝓜 f' g')
  cong-mul f f' g g' a b = cong-trans _ _ _ (cong-mul-right f g g' b) (cong-trans _ _ _ (cong-same _ _ (times-comm f g'))
      (cong-trans _ _ _ (cong-mul-right g' f f' a) (cong-same _ _ (times-comm g' f'))))

  pub cong-add : (f f' g g' : Poly F M) → Congruent f f' → Congruent g g' → Congruent (f ++ g) (f' ++ g')
  unfolding Congruent self
  cong-add f f' g g' a b = member-same S _ _ (λ k. ap₂ (λ x y. R.add x (R.neg y)) (coef-append ring 𝓜 f g k) (coef-append ring 𝓜 f' g' k)
      ∙ ap (R.add _) (opposite-plus (self ring) _ _) ∙ plus-medial (self ring) _ _ _ _) (member-add S _ _ a b)

  pub NF-minus : (f g : Poly F M) (k : M) → coef R 𝓜 (NF S (minus R f g)) k ≡ R.add (coef R 𝓜 (NF S f) k) (R.neg (coef R 𝓜 (NF S g) k))
  unfolding self
  NF-minus f g k = NF-coef S (minus R f g) k ∙ lin-append (self ring) _ f (negate R g)
      ∙ ap₂ R.add (sym (NF-coef S f k)) (lin-negate (self ring) _ g ∙ ap R.neg (sym (NF-coef S g k)))

  -- Equal normal forms, and the difference a member.
  pub agree-of-member : ((f : Poly F M) → Member S (coef R 𝓜 f) → (k : M) → coef R 𝓜 (NF S f) k ≡ R.zero)
      → (f g : Poly F M) → Member S (coef R 𝓜 (minus R f g)) → Same R 𝓜 (NF S f) (NF S g)
  unfolding self
  agree-of-member h f g a k = equal-of-difference (self ring) _ _ (sym (NF-minus f g k) ∙ h (minus R f g) a k)

  pub member-of-agree : (f g : Poly F M) → Same R 𝓜 (NF S f) (NF S g) → Member S (coef R 𝓜 (minus R f g))
  member-of-agree f g h = member-of-NF S (minus R f g) (λ k. NF-minus f g k ∙ ap₂ R.add (h k) refl ∙ ring.add_neg _)

-- Of two rewriting systems: if the lines of T lie in the ideal of S, so does the ideal of T.
pub into : {F M I J : Type 0} {R : Arithmetic F} {𝓜 : Monomials M} (S : Rewriting R 𝓜 I) (T : Rewriting R 𝓜 J) → ((j : J) → Member S (coef R 𝓜 (rule T j))) → (v : M → F) → Member T v → Member S v
unfolding rule_multiple
into {R = R} {𝓜} S T inc v a = member-same S _ _ (λ k. a.1 k ∙ coef-combination T a.0 k ∙ lin-self T.ring S.ring (λ x. coef R 𝓜 (rule_multiple T x.0 x.1) k) a.0)
    (member-lin S (λ k x. coef R 𝓜 (rule_multiple T x.0 x.1) k) (all_true (λ x. member-shift S x.0 (rule T x.1) (inc x.1)) a.0))

module _ {F M : Type 0} {R : Arithmetic F} {𝓜 : Monomials M} {lt : M → M → Type 0} (𝓟 : PolynomialRing R 𝓜) (ord : MonomialOrder 𝓜 lt) (G : List (Line F M)) (low : Low lt G) where
  open R use {add}
  open 𝓟 use {field}
  open field use {ring}

  abbrev S : Rewriting R 𝓜 (LinePlace G)
  S = rewriting 𝓟 ord G low

  -- f and g differ by an element of the ideal of the lines.
  abbrev pub Modulo : Poly F M → Poly F M → Type 0
  Modulo f g = IdealOf R 𝓜 G (minus R f g)

  congruent-of-modulo : (f g : Poly F M) → Modulo f g → Congruent S f g
  unfolding Congruent
  congruent-of-modulo f g a = member-same S _ _ (λ k. sym (coef-minus ring 𝓜 f g k)) (member-of-ideal 𝓟 ord G low (minus R f g) a)

  modulo-of-congruent : (f g : Poly F M) → Congruent S f g → Modulo f g
  unfolding Congruent
  modulo-of-congruent f g a = ideal-of-member 𝓟 ord G low (minus R f g) (member-same S _ _ (coef-minus ring 𝓜 f g) a)

  pub modulo-same : (f g : Poly F M) → Same R 𝓜 f g → Modulo f g
  modulo-same f g h = modulo-of-congruent f g (cong-same S f g h)

  pub modulo-sym : (f g : Poly F M) → Modulo f g → Modulo g f
  modulo-sym f g a = modulo-of-congruent g f (cong-sym S f g (congruent-of-modulo f g a))

  pub modulo-trans : (f g h : Poly F M) → Modulo f g → Modulo g h → Modulo f h
  modulo-trans f g h a b = modulo-of-congruent f h (cong-trans S f g h (congruent-of-modulo f g a) (congruent-of-modulo g h b))

  pub modulo-sum : (f f' g g' p p' : Poly F M) → Modulo f f' → Modulo g g' → IsSum R 𝓜 f g p → IsSum R 𝓜 f' g' p' → Modulo p p'
  modulo-sum f f' g g' p p' a b x y = modulo-of-congruent p p' (cong-trans S p (f ++ g) p' (cong-same S p (f ++ g) x.1)
      (cong-trans S (f ++ g) (f' ++ g') p' (cong-add S f f' g g' (congruent-of-modulo f f' a) (congruent-of-modulo g g' b)) (cong-same S (f' ++ g') p' (λ k. sym (y.1 k)))))

  pub modulo-product : (f f' g g' p p' : Poly F M) → Modulo f f' → Modulo g g' → IsProduct R 𝓜 f g p → IsProduct R 𝓜 f' g' p' → Modulo p p'
  modulo-product f f' g g' p p' a b x y = modulo-of-congruent p p' (cong-trans S p (times R 𝓜 f g) p' (cong-same S p (times R 𝓜 f g) x.1)
      (cong-trans S (times R 𝓜 f g) (times R 𝓜 f' g') p' (cong-mul S f f' g g' (congruent-of-modulo f f' a) (congruent-of-modulo g g' b)) (cong-same S (times R 𝓜 f' g') p' (λ k. sym (y.1 k)))))

  pub modulo-remainder : {f r : Poly F M} → Remainder R 𝓜 lt G f r → Modulo f r
  unfolding Congruent
  modulo-remainder {f} {r} q = modulo-of-congruent f r (remainder-member 𝓟 ord G low q)

  -- Equal remainders: the difference lies in the ideal.
  pub equal-of-modulo : Groebner R 𝓜 lt G → (f g r s : Poly F M) → Polynomial R f → Polynomial R g → Remainder R 𝓜 lt G f r → Remainder R 𝓜 lt G g s → Modulo f g → Equal r s
  equal-of-modulo gb f g r s p q x y a = equal-of-same ring 𝓜 r s (remainder-proper 𝓟 ord G low p x) (remainder-proper 𝓟 ord G low q y)
      (λ k. remainder-NF 𝓟 ord G low x k ∙ agree-of-member S (groebner-NF 𝓟 ord G low gb) f g (member-of-ideal 𝓟 ord G low (minus R f g) a) k ∙ sym (remainder-NF 𝓟 ord G low y k))

  pub modulo-of-equal : (f g r s : Poly F M) → Polynomial R f → Polynomial R g → Remainder R 𝓜 lt G f r → Remainder R 𝓜 lt G g s → Equal r s → Modulo f g
  modulo-of-equal f g r s p q x y e = modulo-trans f r g (modulo-remainder x) (modulo-trans r s g
      (modulo-same r s (same-of-equal ring 𝓜 r s (remainder-proper 𝓟 ord G low p x) (remainder-proper 𝓟 ord G low q y) e)) (modulo-sym g s (modulo-remainder y)))

  pub equal-iff-modulo : Groebner R 𝓜 lt G → (f g r s : Poly F M) → Polynomial R f → Polynomial R g → Remainder R 𝓜 lt G f r → Remainder R 𝓜 lt G g s → Equal r s ↔ Modulo f g
  equal-iff-modulo gb f g r s p q x y = (modulo-of-equal f g r s p q x y, equal-of-modulo gb f g r s p q x y)

  -- The remainder of a sum is the sum of the remainders (for any lines).
  pub remainder-sum : (f g p r s t : Poly F M) → IsSum R 𝓜 f g p → Remainder R 𝓜 lt G f r → Remainder R 𝓜 lt G g s → Remainder R 𝓜 lt G p t → Same R 𝓜 t (r ++ s)
  unfolding self
  remainder-sum f g p r s t a x y z k = remainder-NF 𝓟 ord G low z k ∙ NF-same S p (f ++ g) a.1 k ∙ NF-coef S (f ++ g) k ∙ lin-append (self ring) _ f g
      ∙ ap₂ add (sym (NF-coef S f k) ∙ sym (remainder-NF 𝓟 ord G low x k)) (sym (NF-coef S g k) ∙ sym (remainder-NF 𝓟 ord G low y k)) ∙ sym (coef-append ring 𝓜 r s k)
