-- A list that a loop fills: each turn pushes an element behind the others.
--   Pushed P d l k   l has k elements, and each is as P says
--   pushed-none      before the first turn
--   pushed-more      after a turn
use mathlib.Core.Path.{◌≡◌, sym, subst}
use mathlib.Core.List.{List, [], ◌∷◌, ◌++◌}
use Prim.Native.Nat.{ℕ, ◌+◌, ◌<◌}
use native.Mathlib.Omega.{arith}
use borrow.Author.Count.{below_more}
use lib.ListN.{length, get_or, length-append, get_or-append}
use lib.Seq.{get_or-append_seam}

pub record Pushed {A : Type 0} (P : ℕ → A → Type 0) (d : A) (l : List A) (k : ℕ) : Type 0 where
  pub size : length l ≡ k
  pub stored : (j : ℕ) → j < k → P j (get_or l j d)

module _ {A : Type 0} (P : ℕ → A → Type 0) (d : A) where
  pub pushed-none : Pushed P d [] 0
  pushed-none = record { size = omega arith; stored = λ j h. absurd (omega arith) }

  pub pushed-more : {l : List A} {k : ℕ} (x : A) → Pushed P d l k → P k x → Pushed P d (l ++ (x ∷ [])) (k + 1)
  pushed-more {l} {k} x so_far p = record {
    size = omega (arith, length-append l (x ∷ []), so_far.size);
    stored = below_more (λ j. P j (get_or (l ++ (x ∷ [])) j d)) k
        (λ j h. subst (P j) (sym (get_or-append l (x ∷ []) d j (omega (arith, so_far.size)))) (so_far.stored j h))
        (subst (P k) (sym (rw so_far.size at (get_or-append_seam l x [] d))) p);
  }
