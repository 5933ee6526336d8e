-- Zero-dimensional lines are those with finitely many irreducible monomials (001, theorem 1.8 parts 3 and 4).
--   zero-dimensional-iff       zero-dimensional: finitely many monomials are irreducible
--   irreducible-list           the list of them, each once
--   zero-dimensional-tested    zero-dimensional: for each variable the leading monomial of some line passes the test for a power of it
--   zero-dimensional?          whether lines are zero-dimensional, by that test
use mathlib.Core.Path.{◌≡◌, refl, ap}
use mathlib.Core.List.Memᴰ
use mathlib.Core.List.{List, [], ◌∷◌, ◌++◌, map}
use mathlib.Core.Logic.Dec
use mathlib.Core.Logic.Iff
use mathlib.Core.Logic.{◌⊎◌, inl, inr, ◌↔◌, by_cases}
use mathlib.Core.Bool.{true, Bool-discrete}
use Prim.Native.Nat.{ℕ, zero, suc, ◌+◌, ◌≤◌, ◌<◌}
use native.Mathlib.Decide.{dec_lt}
use native.Mathlib.Omega.{arith}
use Rattle.lists.specs.Lists.{◌∈◌}
use Rattle.monomial.specs.Rows.{Row, exponent, power}
use Rattle.monomial.specs.Quotients.{is_power}
use Rattle.monomial.specs.Ordering.{monomials, row?}
use Rattle.monomial.proofs.Products.{rows-laws}
use Rattle.monomial.proofs.Powers.{exponent-power, power_divides, power-iff, power-of-divisor}
use Rattle.groebner.specs.Lines.{Line, Reducible}
use Rattle.groebner.specs.Standard.{ZeroDimensional, Finite}
use Rattle.groebner.specs.Conversions.{Lists}
use Rattle.groebner.proofs.Lists.{range, in-range}
use Rattle.groebner.proofs.Decisions.{among?, below?, finite-list}

-- The rows whose exponents are below given bounds.
pairs : {A B : Type 0} → List A → List B → List (A × B)
pairs [] ys = []
pairs (x ∷ xs) ys = map (λ y. (x, y)) ys ++ pairs xs ys

in_pairs : {A B : Type 0} {x : A} {y : B} (xs : List A) {ys : List B} → x ∈ xs → y ∈ ys → (x, y) ∈ pairs xs ys
unfolding pairs
in_pairs [] i j = absurd (Memᴰ.not-nil i)
in_pairs {x = x} {y} (z ∷ xs) {ys} i j = go (Memᴰ.cases_cons i) (λ k. in_pairs xs k j)
  where
    go : (x ≡ z) ⊎ x ∈ xs → (x ∈ xs → (x, y) ∈ pairs xs ys) → (x, y) ∈ (map (λ y. (z, y)) ys ++ pairs xs ys)
    go (inl e) r = Memᴰ.append_left (pairs xs ys) (Memᴰ.cast (ap (λ z. (z, y)) e) (Memᴰ.map (λ y. (z, y)) j))
    go (inr k) r = Memᴰ.append_right (map (λ y. (z, y)) ys) (r k)

box : (n : ℕ) → (ℕ → ℕ) → List (Row n)
box zero bound = tt ∷ []
box (suc n) bound = pairs (range (bound 0)) (box n (λ i. bound (suc i)))

in-box : (n : ℕ) (bound : ℕ → ℕ) (m : Row n) → ((i : ℕ) → i < n → exponent n m i < bound i) → m ∈ box n bound
unfolding box exponent
in-box zero bound m l = Memᴰ.head refl
in-box (suc n) bound m l = in_pairs (range (bound 0)) (in-range (bound 0) m.0 (l 0 (omega arith))) (in-box n (λ i. bound (suc i)) m.1 (λ i h. l (suc i) (omega arith)))

-- The sum of the exponents of variable i over a list.
total : (n : ℕ) → List (Row n) → ℕ → ℕ
total n [] i = 0
total n (m ∷ l) i = exponent n m i + total n l i

total-above : (n : ℕ) {m : Row n} (l : List (Row n)) → m ∈ l → (i : ℕ) → exponent n m i ≤ total n l i
unfolding total
total-above n [] p i = absurd (Memᴰ.not-nil p)
total-above n {m} (x ∷ l) p i = go (Memᴰ.cases_cons p) (λ q. total-above n l q i)
  where
    go : (m ≡ x) ⊎ (m ∈ l) → (m ∈ l → exponent n m i ≤ total n l i) → exponent n m i ≤ exponent n x i + total n l i
    go (inl e) r = rw e (omega arith)
    go (inr q) r = omega (arith, r q)

module _ {F : Type 0} (n : ℕ) (G : List (Line F (Row n))) where
  reducible? : (m : Row n) → Dec (Reducible (monomials n) G m)
  reducible? m = among? (λ g. (rows-laws n).divides? g.0 m) G

  -- A power of each variable as a leading monomial bounds the exponents of an irreducible monomial.
  finite-of-zero-dimensional : ZeroDimensional n G → Finite (λ m. ¬ Reducible (monomials n) G m)
  finite-of-zero-dimensional z = (box n (total n leads), λ m s. in-box n (total n leads) m (λ i h. below m s i h (z i h)))
    where
      leads : List (Row n)
      leads = map (λ g. g.0) G

      below : (m : Row n) → ¬ Reducible (monomials n) G m → (i : ℕ) → i < n → (e : ℕ) × (g : Line F (Row n)) × (g ∈ G) × (g.0 ≡ power n i e) → exponent n m i < total n leads i
      below m s i h (e, g, p, q) = by_cases (dec_lt (exponent n m i) (total n leads i)) (λ l. l) (λ l. absurd (s (g, p, rw q ((power_divides n i h e m).1 (high l)))))
        where
          high : ¬ (exponent n m i < total n leads i) → e ≤ exponent n m i
          high l = omega (arith, total-above n leads (Memᴰ.map (λ g. g.0) p) i, ap (λ x. exponent n x i) q, exponent-power n i e h)

  -- A power of a variable beyond all exponents of the list is reducible, and a divisor of it is a power of that variable.
  zero-dimensional-of-finite : Finite (λ m. ¬ Reducible (monomials n) G m) → ZeroDimensional n G
  zero-dimensional-of-finite f i h = by_cases (reducible? m) (λ r. let k = power-of-divisor n i r.0.0 e r.2 in (k.0, r.0, r.1, k.1))
      (λ s. absurd (omega (arith, total-above n f.0 (f.1 m s) i, exponent-power n i e h)))
    where
      e : ℕ
      e = suc (total n f.0 i)

      m : Row n
      m = power n i e

  pub zero-dimensional-iff : ZeroDimensional n G ↔ Finite (λ m. ¬ Reducible (monomials n) G m)
  zero-dimensional-iff = (finite-of-zero-dimensional, zero-dimensional-of-finite)

  pub irreducible-list : ZeroDimensional n G → (B : List (Row n)) × Lists (λ m. ¬ Reducible (monomials n) G m) B
  irreducible-list z = finite-list (row? n) (λ m. Dec.not (reducible? m)) (finite-of-zero-dimensional z)

  pub zero-dimensional-tested : ZeroDimensional n G ↔ ((i : ℕ) → i < n → (g : Line F (Row n)) × (g ∈ G) × (is_power n i g.0 ≡ true))
  zero-dimensional-tested = (
    λ z i h. let r = z i h in (r.1, r.2, (power-iff n i r.1.0).1 (r.0, r.3)),
    λ t i h. let r = t i h in let k = (power-iff n i r.0.0).0 r.2 in (k.0, r.0, r.1, k.1),
  )

  pub zero-dimensional? : Dec (ZeroDimensional n G)
  zero-dimensional? = Dec.of_iff (Iff.symm zero-dimensional-tested) (below? (λ i. among? (λ g. Bool-discrete (is_power n i g.0) true) G) n)
