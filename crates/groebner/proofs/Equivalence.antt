-- Two reduction systems of one ideal, each a Groebner basis in its order, are equivalent (T9; demand 3).
--   equivalent      shared verdicts; translation is one to one, onto and undone; it carries sums and products
use mathlib.Core.Path.{refl}
use mathlib.Core.List.{◌++◌}
use Rattle.residue.specs.Field.{Arithmetic}
use Rattle.monomial.specs.Ordering.{Monomials}
use Rattle.monomial.proofs.OrderLaws.{MonomialOrder}
use Rattle.groebner.specs.Polynomials.{Poly, Polynomial, Equal, Same, minus, times}
use Rattle.groebner.specs.Remainders.{done}
use Rattle.groebner.specs.Ideals.{IdealOf, SameIdeal}
use Rattle.groebner.specs.Bases.{Groebner}
use Rattle.groebner.specs.Systems.{System, RemainderIn, Among, SumIn, ProductIn, Equivalent}
use Rattle.groebner.specs.Criteria.{Low}
use Rattle.groebner.proofs.Terms.{clean, clean-proper, clean-same}
use Rattle.groebner.proofs.Ground.{PolynomialRing}
use Rattle.groebner.proofs.Division.{remainder, remainder-proper, remainder-finished}
use Rattle.groebner.proofs.Congruence.{modulo-same, modulo-sym, modulo-trans, modulo-sum, modulo-product, modulo-remainder, equal-of-modulo, modulo-of-equal}

module _ {F M : Type 0} {R : Arithmetic F} {𝓜 : Monomials M} (𝓟 : PolynomialRing R 𝓜) (A B : System F M) (ordA : MonomialOrder 𝓜 A.lt) (ordB : MonomialOrder 𝓜 B.lt)
    (lowA : Low A.lt A.lines) (lowB : Low B.lt B.lines) (gbA : Groebner R 𝓜 A.lt A.lines) (gbB : Groebner R 𝓜 B.lt B.lines)
    (ideal : SameIdeal R 𝓜 A.lines B.lines) where
  open 𝓟 use {field}
  open field use {ring, decide}

  abbrev ModA : Poly F M → Poly F M → Type 0
  ModA f g = IdealOf R 𝓜 A.lines (minus R f g)

  eq_a : {f g r s : Poly F M} → RemainderIn R 𝓜 A f r → RemainderIn R 𝓜 A g s → ModA f g → Equal r s
  eq_a {f} {g} {r} {s} x y = equal-of-modulo 𝓟 ordA A.lines lowA gbA f g r s x.0 y.0 x.1 y.1

  eq_b : {f g r s : Poly F M} → RemainderIn R 𝓜 B f r → RemainderIn R 𝓜 B g s → ModA f g → Equal r s
  eq_b {f} {g} {r} {s} x y a = equal-of-modulo 𝓟 ordB B.lines lowB gbB f g r s x.0 y.0 x.1 y.1 ((ideal (minus R f g)).0 a)

  mod_a : {f r : Poly F M} → RemainderIn R 𝓜 A f r → ModA f r
  mod_a x = modulo-remainder 𝓟 ordA A.lines lowA x.1

  mod_b : {f r : Poly F M} → RemainderIn R 𝓜 B f r → ModA f r
  mod_b {f} {r} x = (ideal (minus R f r)).1 (modulo-remainder 𝓟 ordB B.lines lowB x.1)

  sym_a : (f g : Poly F M) → ModA f g → ModA g f
  sym_a f g = modulo-sym 𝓟 ordA A.lines lowA f g

  trans_a : (f g h : Poly F M) → ModA f g → ModA g h → ModA f h
  trans_a f g h = modulo-trans 𝓟 ordA A.lines lowA f g h

  proper : (C : System F M) (ordC : MonomialOrder 𝓜 C.lt) (lowC : Low C.lt C.lines) (r : Poly F M) → Among R 𝓜 C r → Polynomial R r
  proper C ordC lowC r a = remainder-proper 𝓟 ordC C.lines lowC a.1.0 a.1.1

  -- A remainder is its own answer.
  own : (C : System F M) (ordC : MonomialOrder 𝓜 C.lt) (lowC : Low C.lt C.lines) (r : Poly F M) → Among R 𝓜 C r → RemainderIn R 𝓜 C r r
  own C ordC lowC r a = (proper C ordC lowC r a, done (remainder-finished 𝓟 ordC C.lines lowC a.1.1))

  give : (C : System F M) (ordC : MonomialOrder 𝓜 C.lt) (lowC : Low C.lt C.lines) (f : Poly F M) → Polynomial R f → (r : Poly F M) × RemainderIn R 𝓜 C f r
  give C ordC lowC f p = let q = remainder 𝓟 ordC C.lines lowC f p in (q.0, (p, q.1))

  -- The answer to what any list of terms comes to.
  answered : (C : System F M) (ordC : MonomialOrder 𝓜 C.lt) (lowC : Low C.lt C.lines) (f : Poly F M) → (t : Poly F M) × (p : Poly F M) × (Polynomial R p × Same R 𝓜 p f) × RemainderIn R 𝓜 C p t
  answered C ordC lowC f = let p = clean ring 𝓜 decide f in let t = give C ordC lowC p (clean-proper ring 𝓜 decide f) in (t.0, p, (clean-proper ring 𝓜 decide f, clean-same ring 𝓜 decide f), t.1)

  sum : (C : System F M) (ordC : MonomialOrder 𝓜 C.lt) (lowC : Low C.lt C.lines) (r s : Poly F M) → (t : Poly F M) × SumIn R 𝓜 C r s t
  sum C ordC lowC r s = let a = answered C ordC lowC (r ++ s) in (a.0, (a.1, a.2, a.3))

  product : (C : System F M) (ordC : MonomialOrder 𝓜 C.lt) (lowC : Low C.lt C.lines) (r s : Poly F M) → (t : Poly F M) × ProductIn R 𝓜 C r s t
  product C ordC lowC r s = let a = answered C ordC lowC (times R 𝓜 r s) in (a.0, (a.1, a.2, a.3))

  refl_a : (f : Poly F M) → ModA f f
  refl_a f = modulo-same 𝓟 ordA A.lines lowA f f (λ k. refl)

  pub equivalent : Equivalent R 𝓜 A B
  equivalent = record {
    answers = λ f p. (give A ordA lowA f p, give B ordB lowB f p);
    unique_first = λ f r s x y. eq_a x y (refl_a f);
    unique_second = λ f r s x y. eq_b x y (refl_a f);
    verdicts = λ f g r s r' s' a b a' b'. (
      λ e. eq_b a' b' (modulo-of-equal 𝓟 ordA A.lines lowA f g r s a.0 b.0 a.1 b.1 e),
      λ e. eq_a a b ((ideal (minus R f g)).1 (modulo-of-equal 𝓟 ordB B.lines lowB f g r' s' a'.0 b'.0 a'.1 b'.1 e)),
    );
    one_to_one = λ r s r' s' a b x y e. eq_a (own A ordA lowA r a) (own A ordA lowA s b) ((ideal (minus R r s)).1 (modulo-of-equal 𝓟 ordB B.lines lowB r s r' s' x.0 y.0 x.1 y.1 e));
    onto = λ s b. reach s b (give A ordA lowA s (proper B ordB lowB s b));
    undone = λ r s r' a x y. eq_a y (own A ordA lowA r a) (sym_a r s (mod_b x));
    computes = λ r s. (sum A ordA lowA r s, sum B ordB lowB r s, product A ordA lowA r s, product B ordB lowB r s);
    sums = λ r s r' s' t t' q a b x y z w v. eq_b w v.2 (trans_a t z.0 v.0 (sym_a z.0 t (mod_a z.2)) (modulo-sum 𝓟 ordA A.lines lowA r r' s s' z.0 v.0 (mod_b x) (mod_b y) z.1 v.1));
    products = λ r s r' s' t t' q a b x y z w v. eq_b w v.2 (trans_a t z.0 v.0 (sym_a z.0 t (mod_a z.2)) (modulo-product 𝓟 ordA A.lines lowA r r' s s' z.0 v.0 (mod_b x) (mod_b y) z.1 v.1));
  }
    where
      reach : (s : Poly F M) → Among R 𝓜 B s → (r : Poly F M) × RemainderIn R 𝓜 A s r → (r : Poly F M) × Among R 𝓜 A r × (s' : Poly F M) × RemainderIn R 𝓜 B r s' × Equal s' s
      reach s b q = let p = remainder-proper 𝓟 ordA A.lines lowA q.1.0 q.1.1 in let w = give B ordB lowB q.0 p in
          (q.0, (s, q.1), w.0, w.1, eq_b w.1 (own B ordB lowB s b) (sym_a s q.0 (mod_a q.1)))
