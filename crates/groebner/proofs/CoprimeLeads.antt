-- Buchberger's first criterion: lines whose leading monomials are coprime, each two, are a Groebner basis.
--   Coprime 𝓜 a b       the least common multiple of a and b is their product
--   lead-and-tail       a coefficient of u·line, the leading monomial apart
--   tails i j           tail_i·line j - tail_j·line i
--   led, crossed        the coefficients of lead_j·tail_i and of tail_i·tail_j
--   tails-cancel        lead_j·line i - lead_i·line j is tails i j
--   coprime-pair        so the S-pair of two lines with coprime leading monomials is a combination of smaller multiples
--   equal-pair          the S-pair of a line with itself
--   coprime-groebner    the criterion
use mathlib.Core.Path.{◌≡◌, refl, sym, ◌∙◌, ap, ap₂, subst, fun_ext}
use mathlib.Core.List.{List, [], ◌∷◌, ◌++◌}
use mathlib.Core.Logic.{◌⊎◌, inl, inr}
use Rattle.lists.specs.Pairs.{Before}
use Rattle.residue.specs.Field.{Arithmetic}
use Rattle.monomial.specs.Ordering.{Monomials, Lcm}
use Rattle.monomial.proofs.OrderLaws.{MonomialOrder}
use Rattle.groebner.specs.Polynomials.{Poly, all_nil, relabel, negate, minus, δ, coef}
use Rattle.groebner.specs.Lines.{Line}
use Rattle.groebner.specs.Criteria.{Low}
use Rattle.groebner.specs.Bases.{Groebner}
use Rattle.groebner.proofs.Modules.{self, cancel-difference}
use Rattle.groebner.proofs.Linear.{all_append, all_map, all-scale, all-relabel, lin, lin-append, lin-negate, lin-relabel, lin-plus, lin-swap}
use Rattle.groebner.proofs.Terms.{coef-minus, coef-shift}
use Rattle.groebner.proofs.NormalForms.{Rewriting, rule, rule_multiple, rules_combined, coef-combination}
use Rattle.groebner.proofs.SPairs.{SPair, NF-of-member}
use Rattle.groebner.proofs.Ground.{PolynomialRing, cancel_right}
use Rattle.groebner.proofs.Division.{LinePlace, rewriting}
use Rattle.groebner.proofs.Ideals.{member-of-ideal, coef-combination-nil}
use Rattle.groebner.proofs.GroebnerBases.{groebner-of-zero, zero-remainder}
use Rattle.groebner.proofs.Buchberger.{before-or}

-- The least common multiple of a and b is their product.
abbrev pub Coprime : {M : Type 0} → Monomials M → M → M → Type 0
Coprime 𝓜 a b = Lcm 𝓜 a b (𝓜.mul a b)

module _ {F M : Type 0} {R : Arithmetic F} {𝓜 : Monomials M} {lt : M → M → Type 0} (𝓟 : PolynomialRing R 𝓜) (ord : MonomialOrder 𝓜 lt) (G : List (Line F M)) (low : Low lt G) where
  open R use {add, neg}
  open 𝓜 use {mul as prod}
  open 𝓟 use {field, monoid}
  open field use {ring}

  abbrev S : Rewriting R 𝓜 (LinePlace G)
  S = rewriting 𝓟 ord G low

  lead-and-tail : (u : M) (i : LinePlace G) (k : M) → coef R 𝓜 (rule_multiple S u i) k ≡ add (δ R 𝓜 k (prod u i.0.0)) (lin (self ring) (λ m. δ R 𝓜 k (prod u m)) i.0.1)
  unfolding rule_multiple rule lin self
  lead-and-tail u i k = coef-shift ring 𝓜 u (rule S i) k ∙ ap₂ add ((self ring).act_one (δ R 𝓜 k (prod u i.0.0))) refl

  -- tail_i·line j - tail_j·line i
  tails : LinePlace G → LinePlace G → Poly F (M × LinePlace G)
  tails i j = relabel (λ m. (m, j)) i.0.1 ++ negate R (relabel (λ m. (m, i)) j.0.1)

  module _ (k : M) where
    -- The coefficients at k.
    abbrev led : LinePlace G → LinePlace G → F
    led i j = lin (self ring) (λ m. δ R 𝓜 k (prod j.0.0 m)) i.0.1

    abbrev crossed : LinePlace G → LinePlace G → F
    crossed i j = lin (self ring) (λ m. lin (self ring) (λ n. δ R 𝓜 k (prod m n)) j.0.1) i.0.1

    abbrev at : M × LinePlace G → F
    at x = coef R 𝓜 (rule_multiple S x.0 x.1) k

    crossed-comm : (i j : LinePlace G) → crossed i j ≡ crossed j i
    crossed-comm i j = lin-swap (self ring) (λ m n. δ R 𝓜 k (prod m n)) i.0.1 j.0.1
        ∙ ap (λ (L : M → M → F). lin (self ring) (λ n. lin (self ring) (L n) i.0.1) j.0.1) (fun_ext (λ n. fun_ext (λ m. ap (δ R 𝓜 k) (monoid.mul_comm m n))))

    tail-times-line : (i j : LinePlace G) → lin (self ring) at (relabel (λ m. (m, j)) i.0.1) ≡ add (crossed i j) (led i j)
    unfolding self
    tail-times-line i j = lin-relabel (self ring) at (λ m. (m, j)) i.0.1
        ∙ ap (λ (L : M → F). lin (self ring) L i.0.1) (fun_ext (λ m. lead-and-tail m j k ∙ ring.add_comm _ _ ∙ ap (add _) (ap (δ R 𝓜 k) (monoid.mul_comm m j.0.0))))
        ∙ lin-plus (self ring) (λ m. lin (self ring) (λ n. δ R 𝓜 k (prod m n)) j.0.1) (λ m. δ R 𝓜 k (prod j.0.0 m)) i.0.1

    tails-cancel : (i j : LinePlace G) → coef R 𝓜 (minus R (rule_multiple S j.0.0 i) (rule_multiple S i.0.0 j)) k ≡ coef R 𝓜 (rules_combined S (tails i j)) k
    unfolding self tails
    tails-cancel i j = coef-minus ring 𝓜 (rule_multiple S j.0.0 i) (rule_multiple S i.0.0 j) k
        ∙ ap₂ (λ x y. add x (neg y)) (lead-and-tail j.0.0 i k) (lead-and-tail i.0.0 j k ∙ ap (λ x. add x (led j i)) (ap (δ R 𝓜 k) (monoid.mul_comm i.0.0 j.0.0)))
        ∙ cancel-difference (self ring) (δ R 𝓜 k (prod j.0.0 i.0.0)) (led i j) (led j i)
        ∙ sym (coef-combination S (tails i j) k ∙ lin-append (self ring) at (relabel (λ m. (m, j)) i.0.1) (negate R (relabel (λ m. (m, i)) j.0.1))
        ∙ ap₂ add (tail-times-line i j) (lin-negate (self ring) at (relabel (λ m. (m, i)) j.0.1) ∙ ap neg (tail-times-line j i ∙ ap (λ x. add x (led j i)) (crossed-comm j i)))
        ∙ cancel-difference (self ring) (crossed i j) (led i j) (led j i))

  -- The S-pair of two lines with coprime leading monomials.
  coprime-pair : (i j : LinePlace G) → Coprime 𝓜 i.0.0 j.0.0 → SPair S i j
  unfolding tails negate
  coprime-pair i j c = record {
    a = j.0.0;
    b = i.0.0;
    meet = λ u v e. let w = c.least (prod u i.0.0) (u, refl) (v, e) in (
      w.0,
      cancel_right monoid ord u (prod w.0 j.0.0) i.0.0 (w.1 ∙ ap (prod w.0) (monoid.mul_comm _ _) ∙ sym (monoid.mul_assoc _ _ _)),
      cancel_right monoid ord v (prod w.0 i.0.0) j.0.0 (sym e ∙ w.1 ∙ sym (monoid.mul_assoc _ _ _)),
    );
    comb = tails i j;
    below = all_append
        (all-relabel (λ x. lt (prod x.0 x.1.0.0) top) (λ m. (m, j)) (all_map (λ m h. subst (λ x. lt x top) (monoid.mul_comm j.0.0 m) (ord.mono j.0.0 h)) (low i.0 i.1)))
        (all-scale R _ (all-relabel (λ x. lt (prod x.0 x.1.0.0) top) (λ m. (m, i)) (all_map (λ m h. subst (λ x. lt x top) (monoid.mul_comm i.0.0 m)
        (subst (lt (prod i.0.0 m)) (monoid.mul_comm i.0.0 j.0.0) (ord.mono i.0.0 h))) (low j.0 j.1))));
    rep = λ k. tails-cancel k i j;
  }
    where
      top : M
      top = prod j.0.0 i.0.0

  -- The S-pair of a line with itself.
  equal-pair : (i j : LinePlace G) → i.0 ≡ j.0 → SPair S i j
  unfolding rule_multiple rule
  equal-pair i j e = record {
    a = 𝓜.one;
    b = 𝓜.one;
    meet = λ u v q. let z = cancel_right monoid ord u v i.0.0 (q ∙ ap (λ (x : Line F M). prod v x.0) (sym e)) in (
      u,
      sym (monoid.mul_comm u 𝓜.one ∙ monoid.one_mul u),
      sym z ∙ sym (monoid.mul_comm u 𝓜.one ∙ monoid.one_mul u),
    );
    comb = [];
    below = all_nil;
    rep = λ k. coef-minus ring 𝓜 (rule_multiple S 𝓜.one i) (rule_multiple S 𝓜.one j) k
        ∙ ap (λ x. add x (neg (coef R 𝓜 (rule_multiple S 𝓜.one j) k))) (ap (λ (x : Line F M). coef R 𝓜 (relabel (prod 𝓜.one) ((R.one, x.0) ∷ x.1)) k) e)
        ∙ ring.add_neg _ ∙ sym (coef-combination-nil 𝓟 ord G low k);
  }

  coprime-swap : (a b : M) → Coprime 𝓜 a b → Coprime 𝓜 b a
  coprime-swap a b c = subst (Lcm 𝓜 b a) (monoid.mul_comm a b) (record { left = c.right; right = c.left; least = λ k p q. c.least k q p })

  pub coprime-groebner : ((f g : Line F M) → Before f g G → Coprime 𝓜 f.0 g.0) → Groebner R 𝓜 lt G
  coprime-groebner coprime = groebner-of-zero 𝓟 ord G low (λ f p a. zero-remainder 𝓟 ord G low f p (NF-of-member S (λ i j. pair i j (before-or i.0 j.0 G i.1 j.1)) f (member-of-ideal 𝓟 ord G low f a)))
    where
      pair : (i j : LinePlace G) → (i.0 ≡ j.0) ⊎ (Before i.0 j.0 G ⊎ Before j.0 i.0 G) → SPair S i j
      pair i j (inl e) = equal-pair i j e
      pair i j (inr (inl b)) = coprime-pair i j (coprime i.0 j.0 b)
      pair i j (inr (inr b)) = coprime-pair i j (coprime-swap j.0.0 i.0.0 (coprime j.0 i.0 b))
