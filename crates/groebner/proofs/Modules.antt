-- Modules over a commutative ring, and what follows from their laws.
--   Module R W           the laws of a module W over the ring R, those of R included
--   self ring            a ring as a module over itself
--   functions M 𝓥        the functions from M to a module
-- Laws of a module: null-plus, plus-left-comm, plus-medial, plus-cancel, opposite-unique, zero-act, act-null, neg-act, act-opposite, opposite-null,
--   opposite-plus, opposite-opposite, plus-opposite-left, opposite-plus-left, opposite-plus-self, plus-around
-- Differences: equal-of-difference, exchange-difference, undo-difference, swap-difference, cancel-difference, chain-difference
-- Laws of a ring: zero-add, mul-zero
use mathlib.Core.Path.{◌≡◌, sym, ◌∙◌, ap, ap₂, fun_ext}
use mathlib.Core.HLevel.{→_set}
use Rattle.residue.specs.Field.{Arithmetic}
use Rattle.residue.specs.RingLaws.{Ring}

-- A module W over a commutative ring.
pub record Module {F : Type 0} (R : Arithmetic F) (W : Type 0) : Type 0 where
  pub ring : Ring R
  pub is_set : IsSet W
  pub null : W
  pub plus : W → W → W
  pub opposite : W → W
  pub act : F → W → W
  pub plus_assoc : (a b c : W) → plus (plus a b) c ≡ plus a (plus b c)
  pub plus_comm : (a b : W) → plus a b ≡ plus b a
  pub plus_null : (a : W) → plus a null ≡ a
  pub plus_opposite : (a : W) → plus a (opposite a) ≡ null
  pub act_plus : (c : F) (u v : W) → act c (plus u v) ≡ plus (act c u) (act c v)
  pub act_add : (c d : F) (u : W) → act (R.add c d) u ≡ plus (act c u) (act d u)
  pub act_mul : (c d : F) (u : W) → act (R.mul c d) u ≡ act c (act d u)
  pub act_one : (u : W) → act R.one u ≡ u

module _ {F : Type 0} {R : Arithmetic F} {W : Type 0} (𝓥 : Module R W) where
  open 𝓥 use {ring, null, plus, opposite, act, plus_assoc, plus_comm, plus_null, plus_opposite, act_plus, act_add, act_mul, act_one}

  pub null-plus : (a : W) → plus null a ≡ a
  null-plus a = plus_comm null a ∙ plus_null a

  pub plus-left-comm : (a b c : W) → plus a (plus b c) ≡ plus b (plus a c)
  plus-left-comm a b c = rw (← plus_assoc a b c, plus_comm a b, plus_assoc b a c)

  pub plus-medial : (a b c d : W) → plus (plus a b) (plus c d) ≡ plus (plus a c) (plus b d)
  plus-medial a b c d = simp (plus_assoc, plus_comm, plus-left-comm)

  pub plus-cancel : (a b c : W) → plus a b ≡ plus a c → b ≡ c
  plus-cancel a b c e = sym (undo b) ∙ ap (plus (opposite a)) e ∙ undo c
    where
      undo : (x : W) → plus (opposite a) (plus a x) ≡ x
      undo x = simp (← plus_assoc, plus_comm (opposite a) a, plus_opposite, null-plus)

  pub opposite-unique : (a b : W) → plus a b ≡ null → b ≡ opposite a
  opposite-unique a b e = plus-cancel a b (opposite a) (e ∙ sym (plus_opposite a))

  pub zero-act : (v : W) → act R.zero v ≡ null
  zero-act v = plus-cancel (act R.zero v) (act R.zero v) null (sym (act_add R.zero R.zero v) ∙ ap (λ x. act x v) (ring.add_zero R.zero) ∙ sym (plus_null _))

  pub act-null : (c : F) → act c null ≡ null
  act-null c = plus-cancel (act c null) (act c null) null (sym (act_plus c null null) ∙ ap (act c) (plus_null null) ∙ sym (plus_null _))

  pub neg-act : (c : F) (v : W) → act (R.neg c) v ≡ opposite (act c v)
  neg-act c v = opposite-unique (act c v) (act (R.neg c) v) (sym (act_add c (R.neg c) v) ∙ ap (λ x. act x v) (ring.add_neg c) ∙ zero-act v)

  pub act-opposite : (c : F) (v : W) → act c (opposite v) ≡ opposite (act c v)
  act-opposite c v = opposite-unique (act c v) (act c (opposite v)) (sym (act_plus c v (opposite v)) ∙ ap (act c) (plus_opposite v) ∙ act-null c)

  pub opposite-null : opposite null ≡ null
  opposite-null = sym (opposite-unique null null (plus_null null))

  pub opposite-plus : (a b : W) → opposite (plus a b) ≡ plus (opposite a) (opposite b)
  opposite-plus a b = sym (opposite-unique (plus a b) (plus (opposite a) (opposite b)) (plus-medial a b (opposite a) (opposite b) ∙ rw (plus_opposite a, plus_opposite b) (plus_null null)))

  pub opposite-opposite : (a : W) → opposite (opposite a) ≡ a
  opposite-opposite a = sym (opposite-unique (opposite a) a (plus_comm (opposite a) a ∙ plus_opposite a))

  pub equal-of-difference : (a b : W) → plus a (opposite b) ≡ null → a ≡ b
  equal-of-difference a b e = sym (opposite-opposite a) ∙ ap opposite (sym (opposite-unique a (opposite b) e)) ∙ opposite-opposite b

  pub plus-opposite-left : (a b : W) → plus a (plus (opposite a) b) ≡ b
  plus-opposite-left a b = simp (← plus_assoc, plus_opposite, null-plus)

  pub opposite-plus-left : (a b : W) → plus (opposite a) (plus a b) ≡ b
  opposite-plus-left a b = plus-left-comm (opposite a) a b ∙ plus-opposite-left a b

  pub opposite-plus-self : (a : W) → plus (opposite a) a ≡ null
  opposite-plus-self a = plus_comm (opposite a) a ∙ plus_opposite a

  pub plus-around : (a b : W) → plus a (plus b (opposite a)) ≡ b
  plus-around a b = plus-left-comm a b (opposite a) ∙ ap (plus b) (plus_opposite a) ∙ plus_null b

  pub exchange-difference : (D A B : W) → plus D (opposite (opposite B)) ≡ plus (plus D A) (opposite (plus A (opposite B)))
  exchange-difference D A B = simp (plus_assoc, plus_comm, plus-left-comm, plus_opposite, plus-opposite-left, opposite-plus, opposite-opposite, plus-around)

  pub undo-difference : (a b : W) → b ≡ plus a (opposite (plus a (opposite b)))
  undo-difference a b = simp (plus_assoc, plus_comm, plus-left-comm, plus_opposite, plus-opposite-left, opposite-plus, opposite-opposite, plus-around)

  pub swap-difference : (a b : W) → plus b (opposite a) ≡ opposite (plus a (opposite b))
  swap-difference a b = simp (plus_comm, opposite-plus, opposite-opposite)

  pub cancel-difference : (a x y : W) → plus (plus a x) (opposite (plus a y)) ≡ plus x (opposite y)
  cancel-difference a x y = ap (plus (plus a x)) (opposite-plus a y) ∙ plus-medial a x (opposite a) (opposite y) ∙ ap (λ z. plus z (plus x (opposite y))) (plus_opposite a) ∙ null-plus _

  pub chain-difference : (a b c : W) → plus a (opposite c) ≡ plus (plus a (opposite b)) (plus b (opposite c))
  chain-difference a b c = simp (plus_assoc, opposite-plus-left)

module _ {F : Type 0} {R : Arithmetic F} (ring : Ring R) where
  pub zero-add : (a : F) → R.add R.zero a ≡ a
  zero-add a = ring.add_comm R.zero a ∙ ring.add_zero a

  pub mul-zero : (a : F) → R.mul a R.zero ≡ R.zero
  mul-zero a = sym (undo x x) ∙ ap (λ y. R.add (R.neg x) y) (sym (ring.mul_add a R.zero R.zero) ∙ ap (R.mul a) (ring.add_zero R.zero)) ∙ ring.add_comm _ x ∙ ring.add_neg x
    where
      x : F
      x = R.mul a R.zero

      undo : (y z : F) → R.add (R.neg y) (R.add y z) ≡ z
      undo y z = simp (← ring.add_assoc, ring.add_comm (R.neg y) y, ring.add_neg, zero-add)

-- A ring is a module over itself.
unfoldable pub self : {F : Type 0} {R : Arithmetic F} → Ring R → Module R F
self {R = R} ring = record {
  ring = ring;
  is_set = ring.is_set;
  null = R.zero;
  plus = R.add;
  opposite = R.neg;
  act = R.mul;
  plus_assoc = ring.add_assoc;
  plus_comm = ring.add_comm;
  plus_null = ring.add_zero;
  plus_opposite = ring.add_neg;
  act_plus = ring.mul_add;
  act_add = λ c d u. ring.mul_comm (R.add c d) u ∙ ring.mul_add u c d ∙ ap₂ R.add (ring.mul_comm u c) (ring.mul_comm u d);
  act_mul = ring.mul_assoc;
  act_one = λ u. ring.mul_comm R.one u ∙ ring.mul_one u;
}

-- The functions into a module are a module.
unfoldable pub functions : {F : Type 0} {R : Arithmetic F} (M : Type 0) {W : Type 0} → Module R W → Module R (M → W)
functions M 𝓥 = record {
  ring = 𝓥.ring;
  is_set = →_set 𝓥.is_set;
  null = λ _. 𝓥.null;
  plus = λ f g m. 𝓥.plus (f m) (g m);
  opposite = λ f m. 𝓥.opposite (f m);
  act = λ c f m. 𝓥.act c (f m);
  plus_assoc = λ f g h. fun_ext (λ m. 𝓥.plus_assoc (f m) (g m) (h m));
  plus_comm = λ f g. fun_ext (λ m. 𝓥.plus_comm (f m) (g m));
  plus_null = λ f. fun_ext (λ m. 𝓥.plus_null (f m));
  plus_opposite = λ f. fun_ext (λ m. 𝓥.plus_opposite (f m));
  act_plus = λ c f g. fun_ext (λ m. 𝓥.act_plus c (f m) (g m));
  act_add = λ c d f. fun_ext (λ m. 𝓥.act_add c d (f m));
  act_mul = λ c d f. fun_ext (λ m. 𝓥.act_mul c d (f m));
  act_one = λ f. fun_ext (λ m. 𝓥.act_one (f m));
}
