-- Lists without repetition, and the pigeonhole principle.
--   pigeon          a list without repetition whose elements are all in another is no longer than it
--   once-append     two lists without repetition and without a common element make one without repetition
--   in_map, of_map  the elements of a mapped list
--   range d         d - 1, .., 1, 0; length-range, in-range, of_range, once-range, once-map-range
use mathlib.Core.Path.{◌≡◌, refl, sym, ◌∙◌, ap}
use mathlib.Core.List.Memᴰ
use mathlib.Core.List.{List, [], ◌∷◌, ◌++◌, map}
use mathlib.Core.Logic.{◌⊎◌, inl, inr}
use Prim.Native.Nat.{ℕ, zero, suc, ◌≤◌, ◌<◌}
use native.Mathlib.Decide.{ℕ_discrete}
use native.Mathlib.Omega.{arith}
use lib.ListN.{length}
use Rattle.lists.specs.Lists.{◌∈◌, Once}

module _ {A : Type 0} where
  -- ys without the found occurrence
  cut : {x : A} {ys : List A} → x ∈ ys → List A
  cut (Memᴰ.head {xs = xs} e) = xs
  cut (Memᴰ.tail {x = y} i) = y ∷ cut i

  cut-length : {x : A} {ys : List A} (i : x ∈ ys) → length ys ≡ suc (length (cut i))
  unfolding cut
  cut-length (Memᴰ.head e) = refl
  cut-length (Memᴰ.tail i) = ap suc (cut-length i)

  cut-mem : {x y : A} {ys : List A} (i : x ∈ ys) → y ∈ ys → (y ≡ x) ⊎ y ∈ (cut i)
  unfolding cut
  cut-mem {x} {y} (Memᴰ.head {x = z} {xs = xs} e) j = step (Memᴰ.cases_cons j)
    where
      step : (y ≡ z) ⊎ y ∈ xs → (y ≡ x) ⊎ y ∈ xs
      step (inl q) = inl (q ∙ sym e)
      step (inr q) = inr q
  cut-mem {x} {y} (Memᴰ.tail {x = z} {xs = xs} i) j = step (Memᴰ.cases_cons j) (λ q. cut-mem i q)
    where
      skip : (y ≡ x) ⊎ y ∈ (cut i) → (y ≡ x) ⊎ y ∈ (z ∷ cut i)
      skip (inl q) = inl q
      skip (inr q) = inr (Memᴰ.tail q)

      step : (y ≡ z) ⊎ y ∈ xs → (y ∈ xs → (y ≡ x) ⊎ y ∈ (cut i)) → (y ≡ x) ⊎ y ∈ (z ∷ cut i)
      step (inl q) r = inr (Memᴰ.head q)
      step (inr q) r = skip (r q)

  pub pigeon : (xs ys : List A) → Once xs → ((x : A) → x ∈ xs → x ∈ ys) → length xs ≤ length ys
  pigeon [] ys d h = omega arith
  pigeon (x ∷ xs) ys d h = omega (arith, cut-length i, pigeon xs (cut i) d.1 (λ y j. step y j (cut-mem i (h y (Memᴰ.tail j)))))
    where
      i : x ∈ ys
      i = h x (Memᴰ.head refl)

      step : (y : A) → y ∈ xs → (y ≡ x) ⊎ y ∈ (cut i) → y ∈ (cut i)
      step y j (inl e) = absurd (d.0 (Memᴰ.cast (sym e) j))
      step y j (inr k) = k

  pub once-append : (xs ys : List A) → Once xs → Once ys → ((x : A) → x ∈ xs → x ∈ ys → ⊥) → Once (xs ++ ys)
  once-append [] ys d e h = e
  once-append (x ∷ xs) ys d e h = (λ i. step (Memᴰ.append_cases xs i), once-append xs ys d.1 e (λ y i j. h y (Memᴰ.tail i) j))
    where
      step : x ∈ xs ⊎ x ∈ ys → ⊥
      step (inl i) = d.0 i
      step (inr j) = h x (Memᴰ.head refl) j

module _ {A B : Type 0} (f : A → B) where
  pub in_map : {x : A} {xs : List A} → x ∈ xs → (f x) ∈ (map f xs)
  in_map (Memᴰ.head e) = Memᴰ.head (ap f e)
  in_map (Memᴰ.tail i) = Memᴰ.tail (in_map i)

  pub of_map : {y : B} (xs : List A) → y ∈ (map f xs) → (x : A) × x ∈ xs × (y ≡ f x)
  of_map [] i = absurd (Memᴰ.not-nil i)
  of_map {y} (x ∷ xs) i = step (Memᴰ.cases_cons i) (λ j. of_map xs j)
    where
      step : (y ≡ f x) ⊎ y ∈ (map f xs) → (y ∈ (map f xs) → (x : A) × x ∈ xs × (y ≡ f x)) → (z : A) × z ∈ (x ∷ xs) × (y ≡ f z)
      step (inl e) r = (x, Memᴰ.head refl, e)
      step (inr j) r = ((r j).0, Memᴰ.tail (r j).1, (r j).2)

-- d - 1, .., 1, 0
unfoldable pub range : ℕ → List ℕ
range zero = []
range (suc d) = d ∷ range d

pub length-range : (d : ℕ) → length (range d) ≡ d
unfolding range
length-range zero = refl
length-range (suc d) = ap suc (length-range d)

pub in-range : (d k : ℕ) → k < d → k ∈ (range d)
unfolding range
in-range zero k l = absurd (omega arith)
in-range (suc d) k l = step (ℕ_discrete k d) (in-range d k)
  where
    step : Dec (k ≡ d) → (k < d → k ∈ (range d)) → k ∈ (d ∷ range d)
    step (yes e) r = Memᴰ.head e
    step (no e) r = Memᴰ.tail (r (omega arith))

pub of_range : (d k : ℕ) → k ∈ (range d) → k < d
unfolding range
of_range zero k i = absurd (Memᴰ.not-nil i)
of_range (suc d) k i = step (Memᴰ.cases_cons i) (of_range d k)
  where
    step : (k ≡ d) ⊎ k ∈ (range d) → (k ∈ (range d) → k < d) → k < suc d
    step (inl e) r = omega arith
    step (inr j) r = omega (arith, r j)

pub once-range : (d : ℕ) → Once (range d)
unfolding range
once-range zero = tt
once-range (suc d) = (λ i. omega (arith, of_range d d i), once-range d)

pub once-map-range : {A : Type 0} (f : ℕ → A) → ((a b : ℕ) → f a ≡ f b → a ≡ b) → (d : ℕ) → Once (map f (range d))
unfolding range
once-map-range f inj zero = tt
once-map-range {A} f inj (suc d) = (λ i. step (of_map f (range d) i), once-map-range f inj d)
  where
    step : (k : ℕ) × k ∈ (range d) × (f d ≡ f k) → ⊥
    step k = omega (arith, of_range d k.0 k.1, inj d k.0 k.2)
