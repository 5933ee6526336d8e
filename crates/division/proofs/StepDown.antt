-- The monomial at the place before, from stores of exponents.
--   step-found    at a place that is not 0 some exponent is not 0
--   step-last     the first variable whose exponent is not 0 is the last one
--   step-middle   it is not
use mathlib.Core.Path.{◌≡◌, refl, ◌∙◌}
use Prim.Native.Nat.{ℕ, suc, ◌+◌, ◌-◌, ◌≤◌, ◌<◌}
use native.Mathlib.Decide.{ℕ_discrete}
use native.Mathlib.Omega.{arith}
use Rattle.std.specs.Prelude.{Option, Some, None, IsSome}
use Rattle.monomial.specs.Rows.{exponent}
use Rattle.monomial.specs.Represented.{row}
use Rattle.monomial.specs.FirstVariable.{VariableAt, FirstVariable}
use Rattle.monomial.specs.declared.Monomial.{Monomial}
use Rattle.division.specs.GrevlexPlace.{place}
use Rattle.division.proofs.GrevlexPlaces.{place-one, place_down}
use Rattle.division.proofs.StoredExponent.{ExponentPut}

pub step-found : (n : ℕ) (m : Monomial) {r : Option ℕ} → FirstVariable n (row n m) r → 0 < place n (row n m) → IsSome r
step-found n m {r = None} f h = absurd (omega (arith, place-one n (row n m) (f.none refl)))
step-found n m {r = Some i} f h = refl

module _ (n : ℕ) (m : Monomial) {i : ℕ} (f : VariableAt n (row n m) i) where
  -- The exponent of that variable is cleared, and one less goes to the first variable.
  module _ {c : Monomial} (p : ExponentPut m i 0 c) {x : ℕ} (less : x ≡ exponent n (row n m) i - 1) where
    cleared : (j : ℕ) → j ≤ i → exponent n (row n c) j ≡ 0
    cleared j l = go (ℕ_discrete j i)
      where
        go : Dec (j ≡ i) → exponent n (row n c) j ≡ 0
        go (yes e) = rw e (p.here n f.within)
        go (no d) = p.elsewhere n j (omega arith) d ∙ f.first j (omega arith)

    pub step-last : {b : Monomial} → suc i ≡ n → ExponentPut c 0 x b → suc (place n (row n b)) ≡ place n (row n m)
    step-last {b} e s = place_down n i (row n m) (row n b) (record {
      low = f.first;
      here = omega (arith, f.found, s.here n (omega arith));
      gone = λ j g l. s.elsewhere n j (omega arith) (omega arith) ∙ cleared j l;
      next = λ l. absurd (omega arith);
      same = λ j g l. absurd (omega arith);
    }) f.within

    pub step-middle : {r b : Monomial} {k y : ℕ} → k ≡ i + 1 → k < n → y ≡ exponent n (row n m) k + 1 → ExponentPut c k y r → ExponentPut r 0 x b
        → suc (place n (row n b)) ≡ place n (row n m)
    step-middle {r} {b} {k} e l more t s = place_down n i (row n m) (row n b) (record {
      low = f.first;
      here = omega (arith, f.found, s.here n (omega arith));
      gone = λ j g l. s.elsewhere n j (omega arith) (omega arith) ∙ t.elsewhere n j (omega arith) (omega arith) ∙ cleared j l;
      next = λ _. let q : k ≡ suc i = omega arith in rw (← q) (omega (arith, t.here n l, s.elsewhere n k l (omega arith)));
      same = λ j g l. s.elsewhere n j l (omega arith) ∙ t.elsewhere n j l (omega arith) ∙ p.elsewhere n j l (omega arith);
    }) f.within
