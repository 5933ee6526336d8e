-- An array that a loop fills, one store a turn.
--   FilledTo P d l₀ l i                  of the array l the first i elements were stored and are as P says, the others are those of l₀
--   stored-none                          before the first turn
--   stored_more                          a turn stores element i
--   FilledFrom P d at l₀ l i             the same of the elements from the place `at` on
--   stored-from-none, stored-from-more   before the first turn, and a turn
--   zeros-at                             an array of equal elements, read
use mathlib.Core.Path.{◌≡◌, refl, sym, ◌∙◌, subst}
use mathlib.Core.List.{List}
use mathlib.Core.Logic.{⊎_elim, by_cases}
use Prim.Native.Nat.{ℕ, ◌+◌, ◌<◌, ◌≤◌}
use native.Mathlib.Nat.{eq-or-lt_of_le}
use native.Mathlib.Decide.{dec_lt}
use native.Mathlib.Omega.{arith}
use lib.ListN.{length, get_or, set, replicate, length-set, length-replicate, get_or-replicate, get_or-eq_default}
use lib.Seq.{get_or-set_same, get_or-set_other}

pub record FilledTo {A : Type 0} (P : ℕ → A → Type 0) (d : A) (l₀ l : List A) (i : ℕ) : Type 0 where
  pub size : length l ≡ length l₀
  pub stored : (k : ℕ) → k < i → P k (get_or l k d)
  pub kept : (k : ℕ) → i ≤ k → get_or l k d ≡ get_or l₀ k d

module _ {A : Type 0} (P : ℕ → A → Type 0) (d : A) where
  pub stored-none : (l : List A) → FilledTo P d l l 0
  stored-none l = record { size = refl; stored = λ k h. absurd (omega arith); kept = λ k h. refl }

  pub stored_more : (l₀ l : List A) (i : ℕ) (v : A) → FilledTo P d l₀ l i → i < length l₀ → P i v → FilledTo P d l₀ (set l i v) (i + 1)
  stored_more l₀ l i v s h p = record {
    size = simp length-set s.size;
    stored = λ k m. ⊎_elim (λ e. subst (λ j. P j (get_or (set l i v) j d)) (sym e) (subst (P i) (sym (get_or-set_same l i v d (omega (arith, s.size)))) p))
        (λ m. subst (P k) (sym (get_or-set_other l i k v d (omega arith))) (s.stored k m)) (eq-or-lt_of_le (omega arith));
    kept = λ k m. get_or-set_other l i k v d (omega arith) ∙ s.kept k (omega arith);
  }

pub record FilledFrom {A : Type 0} (P : ℕ → A → Type 0) (d : A) (at : ℕ) (l₀ l : List A) (i : ℕ) : Type 0 where
  pub size : length l ≡ length l₀
  pub stored : (k : ℕ) → k < i → P k (get_or l (at + k) d)
  pub before : (q : ℕ) → q < at → get_or l q d ≡ get_or l₀ q d
  pub after : (q : ℕ) → at + i ≤ q → get_or l q d ≡ get_or l₀ q d

module _ {A : Type 0} (P : ℕ → A → Type 0) (d : A) (at : ℕ) where
  pub stored-from-none : (l : List A) → FilledFrom P d at l l 0
  stored-from-none l = record { size = refl; stored = λ k h. absurd (omega arith); before = λ q h. refl; after = λ q h. refl }

  pub stored-from-more : (l₀ l : List A) (i : ℕ) (v : A) → FilledFrom P d at l₀ l i → at + i < length l₀ → P i v → FilledFrom P d at l₀ (set l (at + i) v) (i + 1)
  stored-from-more l₀ l i v s h p = record {
    size = simp length-set s.size;
    stored = λ k m. ⊎_elim (λ e. subst (λ j. P j (get_or (set l (at + i) v) (at + j) d)) (sym e) (subst (P i) (sym (get_or-set_same l (at + i) v d (omega (arith, s.size)))) p))
        (λ m. subst (P k) (sym (get_or-set_other l (at + i) (at + k) v d (omega arith))) (s.stored k m)) (eq-or-lt_of_le (omega arith));
    before = λ q m. get_or-set_other l (at + i) q v d (omega arith) ∙ s.before q m;
    after = λ q m. get_or-set_other l (at + i) q v d (omega arith) ∙ s.after q (omega arith);
  }

pub zeros-at : {A : Type 0} (n k : ℕ) (a : A) → get_or (replicate n a) k a ≡ a
zeros-at n k a = by_cases (dec_lt k n) (λ h. get_or-replicate n k a a h) (λ h. get_or-eq_default (replicate n a) a (omega (arith, length-replicate n a)))
