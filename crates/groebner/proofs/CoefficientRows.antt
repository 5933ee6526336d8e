-- Rows of coefficients as lists; what is past the end of a list counts as zero.
--   first_nonzero R zero? a   the first place where a is not zero; first_from counts on from a number
--   ZeroBelow R a n           a is zero at all places below n
--   ZeroFrom R D n a          a has D places and is zero from place n on
--   FirstNonzero R a o        o is the first place where a is not zero, or none and a is zero
-- Of lengths: length-subtract, length-subtract-same, length-multiply, length-unit-array
-- Of entries: entry-subtract, entry-multiply, entry-unit-array-own, entry-unit-array-other
-- Of zeros: zero-everywhere, zero-from-subtract, zero-from-multiply
-- first_found: first_nonzero finds the first place; first-unique: there is one only
-- Of terms: terms-among, scale-terms
use mathlib.Core.Path.{◌≡◌, refl, sym, ◌∙◌, ap, ap₂, subst}
use mathlib.Core.List.Memᴰ
use mathlib.Core.List.{List, [], ◌∷◌}
use mathlib.Core.Logic.{◌≢◌}
use mathlib.Core.Option.{Option, none, some}
use Prim.Native.Nat.{ℕ, zero, suc, ◌+◌, ◌-◌, ◌≤◌, ◌<◌}
use native.Mathlib.Omega.{arith}
use lib.ListN.{length, get_or, replicate, length-set, length-replicate, length-map}
use lib.Seq.{get_or-set_same, get_or-set_other}
use Rattle.lists.specs.Lists.{◌∈◌}
use Rattle.residue.specs.Field.{Arithmetic}
use Rattle.residue.specs.RingLaws.{Ring}
use Rattle.groebner.specs.Polynomials.{All, all_nil, all_cons, scale}
use Rattle.groebner.specs.CoefficientRows.{subtract_multiple, multiply, unit_array, polynomial_of}
use Rattle.groebner.proofs.Modules.{self, opposite-null, zero-add, mul-zero}
use Rattle.groebner.proofs.Linear.{all_map}

module _ {F : Type 0} (R : Arithmetic F) where
  -- The first place of a that is not zero, counted from k on.
  unfoldable pub first_from : ((c : F) → Dec (c ≡ R.zero)) → ℕ → List F → Option ℕ
  first_from zero? k [] = none
  first_from zero? k (x ∷ a) = elim (zero? x) [ yes e ↦ first_from zero? (suc k) a | no n ↦ some k ]

  -- The first place where a is not zero.
  unfoldable pub first_nonzero : ((c : F) → Dec (c ≡ R.zero)) → List F → Option ℕ
  unfolding first_from
  first_nonzero zero? a = first_from zero? 0 a

  -- a is zero at all places below n.
  abbrev pub ZeroBelow : List F → ℕ → Type 0
  ZeroBelow a n = (k : ℕ) → k < n → get_or a k R.zero ≡ R.zero

  -- a has D places and is zero from place n on.
  abbrev pub ZeroFrom : ℕ → ℕ → List F → Type 0
  ZeroFrom D n a = (length a ≡ D) × ((k : ℕ) → n ≤ k → get_or a k R.zero ≡ R.zero)

  -- o is the first place where a is not zero, or none and a is zero.
  abbrev pub FirstNonzero : List F → Option ℕ → Type 0
  FirstNonzero a none = ZeroBelow a (length a)
  FirstNonzero a (some p) = (p < length a) × ¬ (get_or a p R.zero ≡ R.zero) × ZeroBelow a p

  pub length-subtract : (a : List F) (c : F) (b : List F) (k : ℕ) → length a ≤ k → length b ≤ k → length (subtract_multiple R a c b) ≤ k
  unfolding subtract_multiple
  length-subtract [] c [] k p q = p
  length-subtract [] c (y ∷ b) k p q = omega (arith, length-subtract [] c b (k - 1) (omega arith) (omega arith))
  length-subtract (x ∷ a) c [] k p q = omega (arith, length-subtract a c [] (k - 1) (omega arith) (omega arith))
  length-subtract (x ∷ a) c (y ∷ b) k p q = omega (arith, length-subtract a c b (k - 1) (omega arith) (omega arith))

  pub length-subtract-same : (a : List F) (c : F) (b : List F) → length a ≡ length b → length (subtract_multiple R a c b) ≡ length a
  unfolding subtract_multiple
  length-subtract-same [] c [] e = refl
  length-subtract-same [] c (y ∷ b) e = absurd (omega (arith, e))
  length-subtract-same (x ∷ a) c [] e = absurd (omega (arith, e))
  length-subtract-same (x ∷ a) c (y ∷ b) e = ap suc (length-subtract-same a c b (omega (arith, e)))

  pub length-multiply : (c : F) (a : List F) → length (multiply R c a) ≡ length a
  unfolding multiply
  length-multiply c a = length-map a (R.mul c)

  pub length-unit-array : (D k : ℕ) → length (unit_array R D k) ≡ D
  unfolding unit_array
  length-unit-array D k = length-set (replicate D R.zero) k R.one ∙ length-replicate D R.zero

  entry-zeros : (D k : ℕ) → get_or (replicate D R.zero) k R.zero ≡ R.zero
  entry-zeros zero k = refl
  entry-zeros (suc D) zero = refl
  entry-zeros (suc D) (suc k) = entry-zeros D k

  pub entry-unit-array-own : (D k : ℕ) → k < D → get_or (unit_array R D k) k R.zero ≡ R.one
  unfolding unit_array
  entry-unit-array-own D k h = get_or-set_same (replicate D R.zero) k R.one R.zero (omega (arith, length-replicate D R.zero))

  pub entry-unit-array-other : (D k j : ℕ) → j ≢ k → get_or (unit_array R D k) j R.zero ≡ R.zero
  unfolding unit_array
  entry-unit-array-other D k j n = get_or-set_other (replicate D R.zero) k j R.one R.zero n ∙ entry-zeros D j

  zero-cons : (x : F) (a : List F) (n : ℕ) → x ≡ R.zero → ZeroBelow a n → ZeroBelow (x ∷ a) (suc n)
  zero-cons x a n e h zero l = e
  zero-cons x a n e h (suc k) l = h k (omega arith)

  -- Past the end a is zero anyway.
  pub zero-everywhere : (a : List F) → ZeroBelow a (length a) → (k : ℕ) → get_or a k R.zero ≡ R.zero
  zero-everywhere [] h k = refl
  zero-everywhere (x ∷ a) h zero = h 0 (omega arith)
  zero-everywhere (x ∷ a) h (suc k) = zero-everywhere a (λ j l. h (suc j) (omega arith)) k

  abbrev FirstFrom : ℕ → List F → Option ℕ → Type 0
  FirstFrom k a none = FirstNonzero a none
  FirstFrom k a (some p) = (i : ℕ) × (p ≡ k + i) × FirstNonzero a (some i)

  first-cons : (x : F) (a : List F) (k : ℕ) (o : Option ℕ) → x ≡ R.zero → FirstFrom (suc k) a o → FirstFrom k (x ∷ a) o
  first-cons x a k none e h = zero-cons x a (length a) e h
  first-cons x a k (some p) e h = (suc h.0, omega (arith, h.1), (omega (arith, h.2.0), h.2.1, zero-cons x a h.0 e h.2.2))

  -- There is one first place only.
  pub first-unique : (a : List F) (o o' : Option ℕ) → FirstNonzero a o → FirstNonzero a o' → o ≡ o'
  first-unique a none none h h' = refl
  first-unique a none (some p) h h' = absurd (h'.1 (h p h'.0))
  first-unique a (some p) none h h' = absurd (h.1 (h' p h.0))
  first-unique a (some p) (some q) h h' = ap some (omega (arith, least p q h.1 h'.2, least q p h'.1 h.2))
    where
      least : (p q : ℕ) → ¬ (get_or a p R.zero ≡ R.zero) → ZeroBelow a q → q ≤ p
      least p q n z = let l : ¬ (p < q) = λ l. n (z p l) in omega arith

  module _ (zero? : (c : F) → Dec (c ≡ R.zero)) where
    first-from-found : (k : ℕ) (a : List F) → FirstFrom k a (first_from zero? k a)
    unfolding first_from
    first-from-found k [] = λ j l. refl
    first-from-found k (x ∷ a) = step (zero? x) (first-from-found (suc k) a)
      where
        step : (d : Dec (x ≡ R.zero)) → FirstFrom (suc k) a (first_from zero? (suc k) a) → FirstFrom k (x ∷ a) (elim d [ yes e ↦ first_from zero? (suc k) a | no n ↦ some k ])
        step (yes e) h = first-cons x a k (first_from zero? (suc k) a) e h
        step (no n) h = (0, omega arith, (omega arith, n, λ j l. absurd (omega arith)))

    pub first_found : (a : List F) → FirstNonzero a (first_nonzero zero? a)
    unfolding first_nonzero
    first_found a = step (first_from zero? 0 a) (first-from-found 0 a)
      where
        step : (o : Option ℕ) → FirstFrom 0 a o → FirstNonzero a o
        step none h = h
        step (some p) h = subst (λ k. FirstNonzero a (some k)) (omega (arith, h.1)) h.2

module _ {F : Type 0} {R : Arithmetic F} (ring : Ring R) where
  subtract-zero : (x c : F) → R.add x (R.neg (R.mul c R.zero)) ≡ x
  unfolding self
  subtract-zero x c = ap (R.add x) (ap R.neg (mul-zero ring c) ∙ opposite-null (self ring)) ∙ ring.add_zero x

  pub entry-subtract : (a : List F) (c : F) (b : List F) (k : ℕ) → get_or (subtract_multiple R a c b) k R.zero ≡ R.add (get_or a k R.zero) (R.neg (R.mul c (get_or b k R.zero)))
  unfolding subtract_multiple
  entry-subtract [] c [] k = sym (subtract-zero _ c)
  entry-subtract [] c (y ∷ b) zero = sym (zero-add ring _)
  entry-subtract [] c (y ∷ b) (suc k) = entry-subtract [] c b k
  entry-subtract (x ∷ a) c [] zero = sym (subtract-zero _ c)
  entry-subtract (x ∷ a) c [] (suc k) = entry-subtract a c [] k
  entry-subtract (x ∷ a) c (y ∷ b) zero = refl
  entry-subtract (x ∷ a) c (y ∷ b) (suc k) = entry-subtract a c b k

  pub entry-multiply : (c : F) (a : List F) (k : ℕ) → get_or (multiply R c a) k R.zero ≡ R.mul c (get_or a k R.zero)
  unfolding multiply
  entry-multiply c [] k = sym (mul-zero ring c)
  entry-multiply c (x ∷ a) zero = refl
  entry-multiply c (x ∷ a) (suc k) = entry-multiply c a k

  pub zero-from-subtract : (D n : ℕ) (a : List F) (c : F) (b : List F) → ZeroFrom R D n a → ZeroFrom R D n b → ZeroFrom R D n (subtract_multiple R a c b)
  zero-from-subtract D n a c b p q = (
    length-subtract-same R a c b (p.0 ∙ sym q.0) ∙ p.0,
    λ k l. entry-subtract a c b k ∙ ap₂ (λ x y. R.add x (R.neg (R.mul c y))) (p.1 k l) (q.1 k l) ∙ subtract-zero _ c,
  )

  pub zero-from-multiply : (D n : ℕ) (c : F) (a : List F) → ZeroFrom R D n a → ZeroFrom R D n (multiply R c a)
  zero-from-multiply D n c a p = (length-multiply R c a ∙ p.0, λ k l. entry-multiply c a k ∙ ap (R.mul c) (p.1 k l) ∙ mul-zero ring c)

pub terms_among : {F M : Type 0} (B : List M) (c : List F) → All (λ b. b ∈ B) (polynomial_of B c)
unfolding polynomial_of
terms_among [] c = all_nil
terms_among (b ∷ B) [] = all_nil
terms_among (b ∷ B) (x ∷ c) = all_cons (Memᴰ.head refl) (all_map (λ m i. Memᴰ.tail i) (terms_among B c))

pub scale-terms : {F M : Type 0} (R : Arithmetic F) (x : F) (B : List M) (c : List F) → scale R x (polynomial_of B c) ≡ polynomial_of B (multiply R x c)
unfolding scale polynomial_of multiply
scale-terms R x [] c = refl
scale-terms R x (b ∷ B) [] = refl
scale-terms R x (b ∷ B) (y ∷ c) = ap ((R.mul x y, b) ∷◌) (scale-terms R x B c)
