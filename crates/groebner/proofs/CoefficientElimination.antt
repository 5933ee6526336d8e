-- Row elimination over lists of coefficients: they are vectors and combinations for it.
--   coefficient_vectors ring D zero?   lists of at most D coefficients, as vectors
--   array_combinations 𝓥 L D           combinations as arrays of D coefficients: after k monomials zero from place k on
--   array_elimination field ..         row elimination with such vectors and arrays
-- Of the first place that is not zero: pivot-of-first
-- Of values of combinations: value-subtract, value-multiply, value-unit, value-zero, value-extend
use mathlib.Core.Path.{◌≡◌, refl, sym, ◌∙◌, ap, ap₂, fun_ext}
use mathlib.Core.List.{List, [], ◌∷◌, ◌++◌}
use mathlib.Core.Option.{Option, none, some}
use Prim.Native.Nat.{ℕ, suc, ◌≤◌, ◌<◌}
use native.Mathlib.Omega.{arith}
use lib.ListN.{length, get_or}
use Rattle.residue.specs.Field.{Arithmetic}
use Rattle.residue.specs.RingLaws.{Ring, Field}
use Rattle.groebner.specs.CoefficientRows.{subtract_multiple, multiply, unit_array, polynomial_of}
use Rattle.groebner.proofs.Modules.{Module, self, functions, null-plus, plus-left-comm, zero-act, act-null, neg-act, opposite-null, opposite-plus}
use Rattle.groebner.proofs.Linear.{lin}
use Rattle.groebner.proofs.Elimination.{Elimination}
use Rattle.groebner.proofs.Echelon.{subtract}
use Rattle.groebner.proofs.Coordinates.{sequences, entries}
use Rattle.groebner.proofs.RowElimination.{Pivot, Vectors, Combinations, elimination}
use Rattle.groebner.proofs.CoefficientRows.{first_nonzero, ZeroBelow, ZeroFrom, FirstNonzero, length-subtract, length-multiply, length-unit-array, entry-subtract, entry-multiply, entry-unit-array-own, entry-unit-array-other, zero-everywhere, zero-from-subtract, zero-from-multiply, first_found, terms_among}

module _ {F : Type 0} {R : Arithmetic F} (ring : Ring R) (D : ℕ) where
  pub pivot-of-first : (a : List F) → length a ≤ D → (o : Option ℕ) → FirstNonzero R a o → Pivot (entries ring) D (λ k. get_or a k R.zero) o
  unfolding entries functions self
  pivot-of-first a l none h = fun_ext (zero-everywhere R a h)
  pivot-of-first a l (some p) h = (omega (arith, h.0), h.1)

  unfoldable pub coefficient_vectors : ((c : F) → Dec (c ≡ R.zero)) → Vectors (entries ring) D
  unfolding entries functions self
  coefficient_vectors zero? = record {
    Vector = List F;
    value = λ v k. get_or v k R.zero;
    Fits = λ v. length v ≤ D;
    entry = λ v k. get_or v k R.zero;
    find_pivot = first_nonzero R zero?;
    subtract_multiple = subtract_multiple R;
    multiply = multiply R;
    entry_at = λ v k. refl;
    pivot_found = λ v l. pivot-of-first v l (first_nonzero R zero? v) (first_found R zero? v);
    value_subtract = λ a c b. fun_ext (entry-subtract ring a c b);
    value_multiply = λ c a. fun_ext (entry-multiply ring c a);
    fits_subtract = λ a c b p q. length-subtract R a c b D p q;
    fits_multiply = λ c a p. omega (arith, length-multiply R c a);
  }

module _ {F M W : Type 0} {R : Arithmetic F} (𝓥 : Module R W) (L : M → W) where
  open 𝓥 use {ring, null, plus, opposite, act, plus_assoc, plus_comm, plus_null, act_plus, act_add, act_mul, act_one}

  -- c 0·L(b0) + c 1·L(b1) + ..
  weighted-sum : List M → (ℕ → F) → W
  weighted-sum [] c = null
  weighted-sum (b ∷ B) c = plus (act (c 0) (L b)) (weighted-sum B (λ k. c (suc k)))

  weighted-zero : (B : List M) (c : ℕ → F) → ((k : ℕ) → k < length B → c k ≡ R.zero) → weighted-sum B c ≡ null
  unfolding weighted-sum
  weighted-zero [] c h = refl
  weighted-zero (b ∷ B) c h = ap₂ plus (ap (λ x. act x (L b)) (h 0 (omega arith)) ∙ zero-act 𝓥 (L b)) (weighted-zero B (λ k. c (suc k)) (λ k l. h (suc k) (omega arith))) ∙ plus_null _

  weighted-append : (B : List M) (m : M) (c : ℕ → F) → weighted-sum (B ++ (m ∷ [])) c ≡ plus (weighted-sum B c) (act (c (length B)) (L m))
  unfolding weighted-sum
  weighted-append [] m c = plus_comm _ _
  weighted-append (b ∷ B) m c = ap (plus _) (weighted-append B m (λ k. c (suc k))) ∙ sym (plus_assoc _ _ _)

  subtract-algebra : (a x b : F) (u P Q : W) → plus (act (R.add a (R.neg (R.mul x b))) u) (subtract 𝓥 P x Q) ≡ subtract 𝓥 (plus (act a u) P) x (plus (act b u) Q)
  subtract-algebra a x b u P Q = simp (act_add, neg-act 𝓥, act_mul, act_plus, opposite-plus 𝓥, plus_assoc, plus_comm, plus-left-comm 𝓥)

  weighted-subtract : (B : List M) (a : ℕ → F) (x : F) (b : ℕ → F) → weighted-sum B (λ k. R.add (a k) (R.neg (R.mul x (b k)))) ≡ subtract 𝓥 (weighted-sum B a) x (weighted-sum B b)
  unfolding weighted-sum
  weighted-subtract [] a x b = sym (ap (plus _) (ap opposite (act-null 𝓥 x) ∙ opposite-null 𝓥) ∙ plus_null _)
  weighted-subtract (m ∷ B) a x b = ap (plus _) (weighted-subtract B (λ k. a (suc k)) x (λ k. b (suc k))) ∙ subtract-algebra (a 0) x (b 0) (L m) _ _

  weighted-multiply : (B : List M) (x : F) (a : ℕ → F) → weighted-sum B (λ k. R.mul x (a k)) ≡ act x (weighted-sum B a)
  unfolding weighted-sum
  weighted-multiply [] x a = sym (act-null 𝓥 x)
  weighted-multiply (m ∷ B) x a = ap₂ plus (act_mul x (a 0) (L m)) (weighted-multiply B x (λ k. a (suc k))) ∙ sym (act_plus x _ _)

  value-terms : (B : List M) (c : List F) → lin 𝓥 L (polynomial_of B c) ≡ weighted-sum B (λ k. get_or c k R.zero)
  unfolding polynomial_of lin weighted-sum
  value-terms [] c = refl
  value-terms (b ∷ B) [] = sym (weighted-zero (b ∷ B) (λ k. R.zero) (λ k l. refl))
  value-terms (b ∷ B) (x ∷ c) = ap (plus _) (value-terms B c)

  pub value_subtract : (B : List M) (a : List F) (x : F) (b : List F) → lin 𝓥 L (polynomial_of B (subtract_multiple R a x b)) ≡ subtract 𝓥 (lin 𝓥 L (polynomial_of B a)) x (lin 𝓥 L (polynomial_of B b))
  value_subtract B a x b = value-terms B (subtract_multiple R a x b) ∙ ap (weighted-sum B) (fun_ext (entry-subtract ring a x b)) ∙ weighted-subtract B _ x _
      ∙ ap₂ (λ u w. subtract 𝓥 u x w) (sym (value-terms B a)) (sym (value-terms B b))

  pub value_multiply : (B : List M) (x : F) (a : List F) → lin 𝓥 L (polynomial_of B (multiply R x a)) ≡ act x (lin 𝓥 L (polynomial_of B a))
  value_multiply B x a = value-terms B (multiply R x a) ∙ ap (weighted-sum B) (fun_ext (entry-multiply ring x a)) ∙ weighted-multiply B x _ ∙ ap (act x) (sym (value-terms B a))

  -- A list that is one at the place of m and zero before.
  pub value_unit : (B : List M) (m : M) (c : List F) → ZeroBelow R c (length B) → get_or c (length B) R.zero ≡ R.one → lin 𝓥 L (polynomial_of (B ++ (m ∷ [])) c) ≡ L m
  value_unit B m c z o = value-terms (B ++ (m ∷ [])) c ∙ weighted-append B m _ ∙ ap₂ plus (weighted-zero B _ z) (ap (λ x. act x (L m)) o ∙ act_one (L m)) ∙ null-plus 𝓥 _

  pub value-zero : (B : List M) (c : List F) → ZeroBelow R c (length B) → lin 𝓥 L (polynomial_of B c) ≡ null
  value-zero B c z = value-terms B c ∙ weighted-zero B _ z

  -- A list that is zero at the place of m.
  pub value_extend : (B : List M) (m : M) (c : List F) → get_or c (length B) R.zero ≡ R.zero → lin 𝓥 L (polynomial_of (B ++ (m ∷ [])) c) ≡ lin 𝓥 L (polynomial_of B c)
  value_extend B m c z = value-terms (B ++ (m ∷ [])) c ∙ weighted-append B m _ ∙ ap (plus _) (ap (λ x. act x (L m)) z ∙ zero-act 𝓥 (L m)) ∙ plus_null _ ∙ sym (value-terms B c)

  -- Arrays of D coefficients: after k monomials zero from place k on.
  unfoldable pub array_combinations : (D : ℕ) → Combinations 𝓥 L D
  array_combinations D = record {
    Combination = List F;
    terms = polynomial_of;
    Fits = ZeroFrom R D;
    unit = unit_array R D;
    subtract_multiple = subtract_multiple R;
    multiply = multiply R;
    terms_among = terms_among;
    value_unit = λ B m l. value_unit B m (unit_array R D (length B)) (λ k h. entry-unit-array-other R D (length B) k (omega arith)) (entry-unit-array-own R D (length B) l);
    value_unit_before = λ B. value-zero B (unit_array R D (length B)) (λ k h. entry-unit-array-other R D (length B) k (omega arith));
    value_extend = λ B m c h. value_extend B m c (h.1 (length B) (omega arith));
    value_subtract = value_subtract;
    value_multiply = value_multiply;
    fits_unit = λ k l. (length-unit-array R D k, λ j h. entry-unit-array-other R D k j (omega arith));
    fits_extend = λ k c h. (h.0, λ j l. h.1 j (omega arith));
    fits_subtract = λ k a x b p q. zero-from-subtract ring D k a x b p q;
    fits_multiply = λ k x a p. zero-from-multiply ring D k x a p;
  }

-- Row elimination over arrays of D coefficients, for images that are held as lists of their entries.
module _ {F M : Type 0} {R : Arithmetic F} (field : Field R) (inverse : F → F) (inverse-law : (c : F) → ¬ (c ≡ R.zero) → R.mul (inverse c) c ≡ R.one) (L : M → ℕ → F) (D : ℕ) where
  unfoldable pub array_elimination : (row : M → List F) → ((m : M) (k : ℕ) → get_or (row m) k R.zero ≡ L m k) → ((m : M) → length (row m) ≤ D) → Elimination (sequences field.ring) L D
  unfolding elimination coefficient_vectors array_combinations
  array_elimination row entry fits = elimination (coefficient_vectors field.ring D (λ c. field.decide c R.zero)) (array_combinations (sequences field.ring) L D)
      field.nontrivial inverse inverse-law row (λ m. fun_ext (entry m)) fits
