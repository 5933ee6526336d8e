-- Elements of a list by their places, from 0.
--   length-mapped   a list is as long as its image
--   at_in, at_of    element i is an element, and an element is one at a place
--   at-iff          x is element i: the place is in the list, and x stands there
--   element-in      what stands at a place is an element
--   place_of        an element stands at a place
--   at_once         of a list without repetition, two places with equal elements are equal
use mathlib.Core.Path.{◌≡◌, refl, sym, ◌∙◌, ap}
use mathlib.Core.List.Memᴰ
use mathlib.Core.List.{List, [], ◌∷◌, map}
use mathlib.Core.Logic.{◌↔◌}
use Prim.Native.Nat.{ℕ, zero, suc, ◌<◌}
use native.Mathlib.Omega.{arith}
use lib.ListN.{length, get_or, length-map}
use Rattle.lists.specs.Lists.{◌∈◌, At, Once}

pub length-mapped : (X Y : Type 0) (f : X → Y) (l : List X) (n : ℕ) → length (map f l) ≡ n → length l ≡ n
length-mapped X Y f l n p = sym (length-map l f) ∙ p

module _ {A : Type 0} where
  pub at_in : (l : List A) (i : ℕ) {x : A} → At l i x → x ∈ l
  at_in [] i a = absurd a
  at_in (y ∷ l) zero a = Memᴰ.head a
  at_in (y ∷ l) (suc i) a = Memᴰ.tail (at_in l i a)

module _ {A : Type 0} (d : A) where
  pub at-iff : (l : List A) (i : ℕ) (x : A) → At l i x ↔ ((i < length l) × (x ≡ get_or l i d))
  at-iff [] i x = (λ a. absurd a, λ q. absurd (omega (arith, q.0)))
  at-iff (y ∷ l) zero x = (λ a. (omega arith, a), λ q. q.1)
  at-iff (y ∷ l) (suc i) x = (λ a. let (h, e) = (at-iff l i x).0 a in (omega arith, e), λ q. (at-iff l i x).1 (omega (arith, q.0), q.1))

  pub element-in : (l : List A) (i : ℕ) → i < length l → get_or l i d ∈ l
  element-in l i h = at_in l i ((at-iff l i (get_or l i d)).1 (h, refl))

  pub place_of : {x : A} {l : List A} → x ∈ l → (i : ℕ) × (i < length l) × (get_or l i d ≡ x)
  place_of (Memᴰ.head e) = (0, omega arith, sym e)
  place_of (Memᴰ.tail i) = let r = place_of i in (suc r.0, omega arith, r.2)

  pub at_once : (l : List A) → Once l → (i j : ℕ) → i < length l → j < length l → get_or l i d ≡ get_or l j d → i ≡ j
  at_once [] o i j h k e = absurd (omega arith)
  at_once (x ∷ l) o zero zero h k e = refl
  at_once (x ∷ l) o zero (suc j) h k e = absurd (o.0 (Memᴰ.cast e (element-in l j (omega arith))))
  at_once (x ∷ l) o (suc i) zero h k e = absurd (o.0 (Memᴰ.cast (sym e) (element-in l i (omega arith))))
  at_once (x ∷ l) o (suc i) (suc j) h k e = ap suc (at_once l o.1 i j (omega arith) (omega arith) e)

pub at_of : {A : Type 0} (l : List A) {x : A} → x ∈ l → (i : ℕ) × At l i x
at_of l {x} p = let (i, h, e) = place_of x p in (i, (at-iff x l i x).1 (h, sym e))
