-- The answer of a loop that tests each number below n, and stops at the first that fails or goes on.
--   tested-failed                            a number fails, and the answer is false
--   tested-all                               no number fails, and the answer is true
--   tested-none, tested-more, tested-whole   the answer of a loop that goes on: before the first turn, after a turn, and after the last
--   sought-found, sought-all                 the answer of a search: a number has P, and none has it
--   refuted, confirmed                       what a test says whose negation was asked
--   denied                                   what a test says that fails
--   false-not-true                           a test has one answer
--   same_answer                              two tests of the same answer alike
use mathlib.Core.Path.{◌≡◌, refl, sym, ◌∙◌}
use mathlib.Core.Bool.{Bool, true, false, not, false≢true}
use mathlib.Core.Logic.{◌↔◌}
use Prim.Native.Nat.{ℕ, ◌+◌, ◌<◌, ◌≤◌}
use native.Mathlib.Omega.{arith}
use borrow.Author.Count.{below_more}

pub tested-failed : {P : ℕ → Type 0} {n : ℕ} (k : ℕ) → k < n → ¬ P k → (false ≡ true) ↔ ((j : ℕ) → j < n → P j)
tested-failed k h f = (λ z. absurd (false≢true z), λ a. absurd (f (a k h)))

pub tested-all : {P : ℕ → Type 0} {n : ℕ} (k : ℕ) → n ≤ k → ((j : ℕ) → j < k → P j) → (true ≡ true) ↔ ((j : ℕ) → j < n → P j)
tested-all k h a = (λ _ j l. a j (omega arith), λ _. refl)

pub tested-none : {P : ℕ → Type 0} → (true ≡ true) ↔ ((j : ℕ) → j < 0 → P j)
tested-none = (λ _ j l. absurd (omega arith), λ _. refl)

pub tested-more : {P : ℕ → Type 0} {t : Bool} {k : ℕ} → (t ≡ true) ↔ ((j : ℕ) → j < k → P j) → P k → (t ≡ true) ↔ ((j : ℕ) → j < k + 1 → P j)
tested-more i h = (λ e. below_more _ _ (i.0 e) h, λ a. i.1 (λ j l. a j (omega arith)))

pub tested-whole : {P : ℕ → Type 0} {t : Bool} {k n : ℕ} → k ≡ n → (t ≡ true) ↔ ((j : ℕ) → j < k → P j) → (t ≡ true) ↔ ((j : ℕ) → j < n → P j)
tested-whole e i = (λ h j l. i.0 h j (omega arith), λ a. i.1 (λ j l. a j (omega arith)))

pub sought-found : {P : ℕ → Type 0} {n : ℕ} (k : ℕ) → k < n → P k → (true ≡ true) ↔ ((j : ℕ) × (j < n) × P j)
sought-found k h p = (λ _. (k, h, p), λ _. refl)

pub sought-all : {P : ℕ → Type 0} {n : ℕ} (k : ℕ) → n ≤ k → ((j : ℕ) → j < k → ¬ P j) → (false ≡ true) ↔ ((j : ℕ) × (j < n) × P j)
sought-all k h a = (λ z. absurd (false≢true z), λ (j, l, p). absurd (a j (omega arith) p))

pub refuted : {Q : Type 0} (t : Bool) → (t ≡ true) ↔ Q → not t ≡ true → ¬ Q
refuted true i e q = false≢true e
refuted false i e q = false≢true (i.1 q)

pub confirmed : {Q : Type 0} (t : Bool) → (t ≡ true) ↔ Q → not t ≡ false → Q
confirmed true i e = i.0 refl
confirmed false i e = absurd (false≢true (sym e))

pub false-not-true : {t : Bool} → t ≡ false → ¬ (t ≡ true)
false-not-true p q = false≢true (sym p ∙ q)

pub denied : {Q : Type 0} {t : Bool} → (t ≡ true) ↔ Q → t ≡ false → ¬ Q
denied i e q = false-not-true e (i.1 q)

pub same_answer : {Q : Type 0} {t u : Bool} → (t ≡ true) ↔ Q → (u ≡ true) ↔ Q → t ≡ u
same_answer {t = true} i j = sym (j.1 (i.0 refl))
same_answer {t = false} {u = true} i j = i.1 (j.0 refl)
same_answer {t = false} {u = false} i j = refl
