-- What holds of every element of a list.
--   each_at       what holds of every element holds of each
--   each_of       what holds of each element holds of every one
--   each_map      the same for the elements of a mapped list
--   each_append   and for those of two lists
--   each_last     and for those of a list and of one more
--   each_take     P holds of the first n elements exactly if it holds at each place below n
use mathlib.Core.Path.{refl, sym, subst}
use mathlib.Core.List.Memᴰ
use mathlib.Core.List.{List, [], ◌∷◌, ◌++◌, map}
use mathlib.Core.Logic.{◌↔◌, ⊎_elim}
use Prim.Native.Nat.{ℕ, zero, suc, ◌<◌, ◌≤◌}
use native.Mathlib.Omega.{arith}
use lib.ListN.{length, get_or, take}
use Rattle.lists.specs.Lists.{◌∈◌, Each}

module _ {A : Type 0} (P : A → Type 0) where
  pub each_at : (l : List A) {x : A} → Each P l → x ∈ l → P x
  each_at [] e i = absurd (Memᴰ.not-nil i)
  each_at (y ∷ l) e i = ⊎_elim (λ q. subst P (sym q) e.0) (λ j. each_at l e.1 j) (Memᴰ.cases_cons i)

  pub each_of : (l : List A) → ((x : A) → x ∈ l → P x) → Each P l
  each_of [] h = tt
  each_of (x ∷ l) h = (h x (Memᴰ.head refl), each_of l (λ y i. h y (Memᴰ.tail i)))

  pub each_map : {B : Type 0} (f : B → A) (l : List B) → ((x : B) → x ∈ l → P (f x)) → Each P (map f l)
  each_map f [] h = tt
  each_map f (x ∷ l) h = (h x (Memᴰ.head refl), each_map f l (λ y i. h y (Memᴰ.tail i)))

  pub each_append : (l k : List A) → Each P l → Each P k → Each P (l ++ k)
  each_append [] k a b = b
  each_append (x ∷ l) k a b = (a.0, each_append l k a.1 b)

  pub each_last : (l : List A) {x : A} → Each P l → P x → Each P (l ++ (x ∷ []))
  each_last l {x} h p = each_append l (x ∷ []) h (p, tt)

  take_at : (d : A) (n : ℕ) (l : List A) → Each P (take n l) → n ≤ length l → (i : ℕ) → i < n → P (get_or l i d)
  take_at d zero l e h i g = absurd (omega arith)
  take_at d (suc n) [] e h i g = absurd (omega arith)
  take_at d (suc n) (x ∷ l) e h zero g = e.0
  take_at d (suc n) (x ∷ l) e h (suc i) g = take_at d n l e.1 (omega arith) i (omega arith)

  take-from : (d : A) (n : ℕ) (l : List A) → ((i : ℕ) → i < n → P (get_or l i d)) → n ≤ length l → Each P (take n l)
  take-from d zero l f h = tt
  take-from d (suc n) [] f h = absurd (omega arith)
  take-from d (suc n) (x ∷ l) f h = (f 0 (omega arith), take-from d n l (λ i g. f (suc i) (omega arith)) (omega arith))

  pub each_take : (d : A) (n : ℕ) (l : List A) → n ≤ length l → Each P (take n l) ↔ ((i : ℕ) → i < n → P (get_or l i d))
  each_take d n l h = (λ e. take_at d n l e h, λ f. take-from d n l f h)
