-- One check after another.
--   none-not-some                 no outcome is both none and a number
--   refuse-map                    what the later checks say may be replaced
--   refuse-pass                   a check that passes leaves the outcome to the later checks
--   first-refused, first-passed   the checks of a first term refuse, or leave the outcome to the later ones
--   next-refused, next-passed     so do the checks of a later term
use mathlib.Core.Path.{◌≡◌, sym}
use mathlib.Core.Logic.{⊎_map, ⊎_elim, inr}
use mathlib.Core.Option.{Option, none, some}
use Prim.Native.Nat.{ℕ}
use native.Mathlib.Omega.{arith}
use Rattle.answer.specs.Outcomes.{refuse◌if◌else◌, pass}
use Rattle.lines.specs.Terms.{Term}
use Rattle.checks.specs.Checks.{check_first, check_next}

pub none-not-some : {A : Type 0} {k : ℕ} → none ≡ some k → A
none-not-some {k} e = let z : ◌≡◌ {A = ℕ} 0 1 = cc in absurd (omega arith)

pub refuse-map : {P A B : Type 0} {k : ℕ} {o : Option ℕ} → (A → B) → (refuse k if P else λ _. A) o → (refuse k if P else λ _. B) o
refuse-map f = ⊎_map (λ w. w) (λ w. (w.0, f w.1))

pub refuse-pass : {P A B : Type 0} {k : ℕ} {o : Option ℕ} → (A → B) → (refuse k if P else λ _. A) none → (refuse k if P else λ _. B) o
refuse-pass f = ⊎_elim (λ w. none-not-some w.1) (λ w. inr (w.0, f w.1))

module _ (p : ℕ) (t : Term) {A : Type 0} where
  pub first-refused : {k : ℕ} → check_first p t pass (some k) → check_first p t (λ _. A) (some k)
  first-refused = refuse-map (refuse-map (refuse-map (λ e. none-not-some (sym e))))

  pub first-passed : {o : Option ℕ} → check_first p t pass none → A → check_first p t (λ _. A) o
  first-passed h a = refuse-pass (refuse-pass (refuse-pass (λ e. a))) h

module _ (p n j : ℕ) (before t : Term) {A : Type 0} where
  pub next-refused : {k : ℕ} → check_next p n j before t pass (some k) → check_next p n j before t (λ _. A) (some k)
  next-refused = refuse-map (refuse-map (refuse-map (refuse-map (λ e. none-not-some (sym e)))))

  pub next-passed : {o : Option ℕ} → check_next p n j before t pass none → A → check_next p n j before t (λ _. A) o
  next-passed h a = refuse-pass (refuse-pass (refuse-pass (refuse-pass (λ e. a)))) h
