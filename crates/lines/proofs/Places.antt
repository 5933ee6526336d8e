-- A list of which one place is put.
--   put-within   a place of the list is set
--   put-behind   a place behind all: one element more
--   put-least    a place past the end is that behind all
--   put-count    as many elements, or one more
--   put-own      what is put stands at its place
--   put-other    every other place holds what it held
--   put-again    what is put at a place is set there again
--   put-map      the images of the elements are put the same
--   refill-set   a list that is lent is what was set in it
use mathlib.Core.Path.{◌≡◌, refl, ap, sym, ◌∙◌}
use mathlib.Core.List.{List, [], ◌∷◌, ◌++◌, map}
use mathlib.Core.Logic.{by_cases}
use Prim.Native.Nat.{ℕ, zero, suc, min, ◌<◌, ◌≤◌}
use native.Mathlib.Decide.{dec_lt}
use native.Mathlib.Omega.{arith}
use lib.ListN.{length, get_or, set, length-set}
use Rattle.std.proofs.lemmas.List.{set_split, drop_all, take_all, append-nil}
use Rattle.std.specs.List.{refill}
use Rattle.lines.specs.Stored.{put_at}

module _ {A : Type 0} where
  pub put-within : (l : List A) (k : ℕ) (x : A) → k < length l → set l k x ≡ put_at l k x
  put-within l k x lt = set_split l k x lt

  pub put-behind : (l : List A) (k : ℕ) (x : A) → length l ≤ k → put_at l k x ≡ l ++ (x ∷ [])
  put-behind [] zero x le = refl
  put-behind [] (suc k) x le = refl
  put-behind (y ∷ l) zero x le = absurd (omega arith)
  put-behind (y ∷ l) (suc k) x le = ap (λ r. y ∷ r) (put-behind l k x (omega arith))

  pub put-least : (l : List A) (j k : ℕ) (x : A) → j ≡ min k (length l) → put_at l j x ≡ put_at l k x
  put-least l j k x e = by_cases (dec_lt k (length l))
      (λ lt. let same : j ≡ k = omega arith in ap (λ i. put_at l i x) same)
      (λ n. put-behind l j x (omega arith) ∙ sym (put-behind l k x (omega arith)))

  pub put-count : (l : List A) (k : ℕ) (x : A) → (k < length l → length (put_at l k x) ≡ length l) × (length l ≤ k → length (put_at l k x) ≡ suc (length l))
  put-count [] zero x = (λ lt. omega arith, λ e. refl)
  put-count [] (suc k) x = (λ lt. omega arith, λ e. refl)
  put-count (y ∷ l) zero x = (λ lt. refl, λ e. omega arith)
  put-count (y ∷ l) (suc k) x = let (a, b) = put-count l k x in (λ lt. omega (arith, a (omega arith)), λ e. omega (arith, b (omega arith)))

  pub put-own : (l : List A) (k : ℕ) (x d : A) → k ≤ length l → get_or (put_at l k x) k d ≡ x
  put-own [] zero x d le = refl
  put-own [] (suc k) x d le = absurd (omega arith)
  put-own (y ∷ l) zero x d le = refl
  put-own (y ∷ l) (suc k) x d le = put-own l k x d (omega arith)

  pub put-other : (l : List A) (k : ℕ) (x : A) (j : ℕ) (d : A) → k ≤ length l → ¬ (j ≡ k) → get_or (put_at l k x) j d ≡ get_or l j d
  put-other [] zero x zero d le n = absurd (n refl)
  put-other [] zero x (suc j) d le n = refl
  put-other [] (suc k) x j d le n = absurd (omega arith)
  put-other (y ∷ l) zero x zero d le n = absurd (n refl)
  put-other (y ∷ l) zero x (suc j) d le n = refl
  put-other (y ∷ l) (suc k) x zero d le n = refl
  put-other (y ∷ l) (suc k) x (suc j) d le n = put-other l k x j d (omega arith) (λ e. n (ap suc e))

  pub put-again : (l : List A) (k : ℕ) (x y : A) → k ≤ length l → set (put_at l k x) k y ≡ put_at l k y
  put-again [] zero x y le = refl
  put-again [] (suc k) x y le = absurd (omega arith)
  put-again (z ∷ l) zero x y le = refl
  put-again (z ∷ l) (suc k) x y le = ap (λ r. z ∷ r) (put-again l k x y (omega arith))

  pub refill-set : (l : List A) (k : ℕ) (x : A) → refill (length l) l (set l k x) ≡ set l k x
  refill-set l k x =
      let same = length-set l k x in
      rw (drop_all (length (set l k x)) l (omega (arith, same)), append-nil) (take_all (length l) (set l k x) (omega (arith, same)))

pub put-map : {A B : Type 0} (f : A → B) (l : List A) (k : ℕ) (x : A) → map f (put_at l k x) ≡ put_at (map f l) k (f x)
put-map f [] zero x = refl
put-map f [] (suc k) x = refl
put-map f (y ∷ l) zero x = refl
put-map f (y ∷ l) (suc k) x = ap (λ r. f y ∷ r) (put-map f l k x)
