-- The powers of one variable below a monomial a: x_i^k with 0 < k < a_i.
--   powers_below n a    the list of them
--   PowerBelow n a m    m is such a power
--   power_below         each of the list is
--   powers-below-once   they are different from each other and from 1
--   powers-below-many   the degree of a is at most n more than their number
use mathlib.Core.Path.{◌≡◌, ◌∙◌, ap}
use mathlib.Core.List.Memᴰ
use mathlib.Core.List.{List, [], ◌∷◌, ◌++◌, map}
use mathlib.Core.Logic.{◌⊎◌, inl, inr}
use Prim.Native.Nat.{ℕ, zero, suc, ◌+◌, ◌-◌, ◌≤◌, ◌<◌}
use native.Mathlib.Omega.{arith}
use lib.ListN.{length, length-append, length-map}
use Rattle.lists.specs.Lists.{◌∈◌, Once}
use Rattle.monomial.specs.Rows.{Row, exponent, one, degree, power}
use Rattle.monomial.proofs.Products.{exponent-one}
use Rattle.monomial.proofs.Powers.{exponent-power}
use Rattle.groebner.proofs.Lists.{once-append, of_map, range, length-range, of_range, once-map-range}

-- x_1^k
abbrev first : (n k : ℕ) → Row (suc n)
first n k = (k, one n)

-- A monomial of the variables after x_1.
abbrev later : (n : ℕ) → Row n → Row (suc n)
later n m = (0, m)

-- Those of x_1, then those of the other variables.
unfoldable pub powers_below : (n : ℕ) → Row n → List (Row n)
unfolding range one
powers_below zero a = []
powers_below (suc n) a = map (λ k. first n (suc k)) (range (a.0 - 1)) ++ map (later n) (powers_below n a.1)

pub record PowerBelow (n : ℕ) (a m : Row n) : Type 0 where
  pub variable : ℕ
  pub within : variable < n
  pub e : ℕ
  pub below : suc e < exponent n a variable
  pub is : m ≡ power n variable (suc e)

pub power_below : (n : ℕ) (a m : Row n) → m ∈ powers_below n a → PowerBelow n a m
unfolding powers_below exponent
power_below zero a m q = absurd (Memᴰ.not-nil q)
power_below (suc n) a m q = go (Memᴰ.append_cases (map (λ k. first n (suc k)) (range (a.0 - 1))) q) (power_below n a.1)
  where
    go : (m ∈ map (λ k. first n (suc k)) (range (a.0 - 1))) ⊎ (m ∈ map (later n) (powers_below n a.1))
        → ((r : Row n) → r ∈ powers_below n a.1 → PowerBelow n a.1 r) → PowerBelow (suc n) a m
    go (inl i) rest =
        let (k, j, e) = of_map (λ k. first n (suc k)) (range (a.0 - 1)) i in
        record { variable = 0; within = omega arith; e = k; below = omega (arith, of_range (a.0 - 1) k j); is = e }
    go (inr i) rest =
        let (r, j, e) = of_map (later n) (powers_below n a.1) i in
        let w = rest r j in
        record { variable = suc w.variable; within = omega (arith, w.within); e = w.e; below = w.below; is = e ∙ ap (later n) w.is }

once-map : {A B : Type 0} (f : A → B) → ((a b : A) → f a ≡ f b → a ≡ b) → (l : List A) → Once l → Once (map f l)
once-map f injective [] w = tt
once-map f injective (x ∷ l) w = (λ i. let (y, j, e) = of_map f l i in w.0 (Memᴰ.cast (injective x y e) j), once-map f injective l w.1)

different : (n : ℕ) (a : Row n) → Once (powers_below n a)
unfolding powers_below
different zero a = tt
different (suc n) a = once-append (map (λ k. first n (suc k)) (range (a.0 - 1))) (map (later n) (powers_below n a.1))
    (once-map-range (λ k. first n (suc k)) (λ j k e. omega (arith, ap (λ (x : Row (suc n)). x.0) e)) (a.0 - 1))
    (once-map (later n) (λ l m e. ap (λ (x : Row (suc n)). x.1) e) (powers_below n a.1) (different n a.1))
    (λ x i j.
    let (k, _, e) = of_map (λ k. first n (suc k)) (range (a.0 - 1)) i in
    let (m, _, f) = of_map (later n) (powers_below n a.1) j in
    omega (arith, ap (λ (y : Row (suc n)). y.0) e, ap (λ (y : Row (suc n)). y.0) f))

pub powers-below-once : (n : ℕ) (a : Row n) → Once (one n ∷ powers_below n a)
powers-below-once n a = (not-one, different n a)
  where
    not-one : ¬ (one n ∈ powers_below n a)
    not-one q =
        let w = power_below n a (one n) q in
        omega (arith, exponent-one n w.variable, ap (λ (x : Row n). exponent n x w.variable) w.is, exponent-power n w.variable (suc w.e) w.within)

pub powers-below-many : (n : ℕ) (a : Row n) → degree n a ≤ n + length (powers_below n a)
unfolding powers_below degree
powers-below-many zero a = omega arith
powers-below-many (suc n) a = omega (
  arith,
  powers-below-many n a.1,
  length-append (map (λ k. first n (suc k)) (range (a.0 - 1))) (map (later n) (powers_below n a.1)),
  length-map (range (a.0 - 1)) (λ k. first n (suc k)),
  length-range (a.0 - 1),
  length-map (powers_below n a.1) (later n),
)
