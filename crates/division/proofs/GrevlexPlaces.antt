-- The order of the places is grevlex.
--   degree-prefix             the sum of all exponents is the degree
--   prefix-degree             the sum of the first exponents is no larger
--   exponent-degree           nor is a single exponent
--   prefix-more, place-more   one exponent more
--   place-bound               a monomial of degree at most d has a place below C(d + n, n)
--   first-bound               so it is with the first k exponents
--   place-monotone            the smaller monomial has the smaller place
--   place-injective           different monomials have different places
--   place-grevlex             the monomial at the smaller place is smaller
--   grevlex-degree            a smaller monomial has no larger degree
--   place-degree              a monomial at a place that is not larger has no larger degree
--   Down n i a b              b is a with its first exponent that is not 0, that of variable i, taken away; it less 1 goes to the first
--                             variable, and 1 to the variable after i
--   place_down                then b stands at the place before a
--   place-one                 1 stands at place 0
use mathlib.Core.Path.{◌≡◌, refl, ap}
use mathlib.Core.Logic.{◌⊎◌, inl, inr, ⊎_elim}
use Prim.Native.Nat.{ℕ, zero, suc, ◌+◌, ◌-◌, ◌≤◌, ◌<◌}
use native.Mathlib.Decide.{ℕ_discrete}
use native.Mathlib.Numerals.{add-one}
use native.Mathlib.Omega.{arith}
use Rattle.monomial.specs.Rows.{Row, exponent, degree}
use Rattle.monomial.specs.Orders.{lex, backwards}
use Rattle.monomial.specs.Ordering.{Grevlex}
use Rattle.std.specs.declared.cmp.Ordering.TheVariants.{Less}
use Rattle.monomial.proofs.Comparisons.{equal-not-less}
use Rattle.monomial.proofs.LexOrder.{lex-cons-less}
use Rattle.monomial.proofs.GrevlexOrder.{grevlex-less, grevlex-order}
use Rattle.division.specs.GrevlexPlace.{monomials_below, prefix_sum, place_of_first, place}
use Rattle.division.proofs.Binomials.{below-monotone}

prefix-cons : (n k : ℕ) (a : Row (suc n)) → prefix_sum (suc n) a (suc k) ≡ a.0 + prefix_sum n a.1 k
unfolding exponent
prefix-cons n zero a = omega arith
prefix-cons n (suc k) a = omega (arith, prefix-cons n k a)

pub degree-prefix : (n : ℕ) (a : Row n) → degree n a ≡ prefix_sum n a n
unfolding degree
degree-prefix zero a = refl
degree-prefix (suc n) a = omega (arith, degree-prefix n a.1, prefix-cons n n a)

module _ (n : ℕ) (a : Row n) where
  prefix-grows : (k j : ℕ) → prefix_sum n a k ≤ prefix_sum n a (j + k)
  prefix-grows k zero = let e : 0 + k ≡ k = omega arith in omega (arith, ap (prefix_sum n a) e)
  prefix-grows k (suc j) = let e : suc j + k ≡ suc (j + k) = omega arith in omega (arith, prefix-grows k j, ap (prefix_sum n a) e)

  pub prefix-degree : (k : ℕ) → k ≤ n → prefix_sum n a k ≤ degree n a
  prefix-degree k h = let e : n - k + k ≡ n = omega arith in omega (arith, degree-prefix n a, prefix-grows k (n - k), ap (prefix_sum n a) e)

  pub exponent-degree : (k : ℕ) → k < n → exponent n a k ≤ degree n a
  exponent-degree k h = omega (arith, prefix-degree (suc k) h)

  pub prefix-more : (k : ℕ) → prefix_sum n a (k + 1) ≡ prefix_sum n a k + exponent n a k
  prefix-more k = rw add-one refl

  pub place-more : (k : ℕ) → place_of_first n a (k + 1) ≡ place_of_first n a k + monomials_below (k + 1) (prefix_sum n a (k + 1))
  unfolding place_of_first
  place-more k = rw add-one refl

module _ (n : ℕ) where
  -- What lies below a sum never reaches the place of its next value.
  pub first-bound : (k d : ℕ) (a : Row n) → prefix_sum n a k ≤ d → place_of_first n a k < monomials_below k (suc d)
  unfolding monomials_below place_of_first
  first-bound zero d a h = omega arith
  first-bound (suc k) d a h =
      let s = prefix_sum n a (suc k) in
      omega (arith, first-bound k s a (omega arith), below-monotone (suc k) (suc s) (suc d) (omega arith))

  -- The sum of the first k exponents decides;
  by-sum : (k : ℕ) (a b : Row n) → prefix_sum n a k < prefix_sum n b k → place_of_first n a k < place_of_first n b k
  unfolding place_of_first
  by-sum zero a b h = absurd (omega arith)
  by-sum (suc k) a b h =
      let s = prefix_sum n a (suc k) in
      omega (arith, first-bound (suc k) s a (omega arith), below-monotone (suc k) (suc s) (prefix_sum n b (suc k)) (omega arith))

  -- at equal sums the last exponent that differs, where the larger is the smaller place.
  by_last : (k : ℕ) (a b : Row n) → prefix_sum n a k ≡ prefix_sum n b k → lex n (backwards k) b a ≡ Less → place_of_first n a k < place_of_first n b k
  unfolding place_of_first lex backwards
  by_last zero a b e l = absurd (equal-not-less l)
  by_last (suc k) a b e l = ⊎_elim (λ h. omega (arith, same, by-sum k a b (omega arith))) (λ q. omega (arith, same, by_last k a b (omega arith) q.1))
      ((lex-cons-less n k (backwards k) b a).0 l)
    where
      same : monomials_below (suc k) (prefix_sum n a (suc k)) ≡ monomials_below (suc k) (prefix_sum n b (suc k))
      same = ap (monomials_below (suc k)) e

  pub place-bound : (d : ℕ) (a : Row n) → degree n a ≤ d → place n a < monomials_below n (suc d)
  unfolding place
  place-bound d a h = first-bound n d a (omega (arith, degree-prefix n a))

  pub place-monotone : (a b : Row n) → Grevlex n a b → place n a < place n b
  unfolding place
  place-monotone a b l = ⊎_elim (λ h. by-sum n a b (omega (arith, degree-prefix n a, degree-prefix n b)))
      (λ q. by_last n a b (omega (arith, q.0, degree-prefix n a, degree-prefix n b)) q.1) ((grevlex-less n a b).0 l)

  pub place-injective : (a b : Row n) → place n a ≡ place n b → a ≡ b
  place-injective a b e = go ((grevlex-order n).total a b)
    where
      go : Grevlex n a b ⊎ ((a ≡ b) ⊎ Grevlex n b a) → a ≡ b
      go (inl l) = absurd (omega (arith, e, place-monotone a b l))
      go (inr (inl q)) = q
      go (inr (inr l)) = absurd (omega (arith, e, place-monotone b a l))

  pub place-grevlex : (a b : Row n) → place n a < place n b → Grevlex n a b
  place-grevlex a b h = go ((grevlex-order n).total a b)
    where
      go : Grevlex n a b ⊎ ((a ≡ b) ⊎ Grevlex n b a) → Grevlex n a b
      go (inl l) = l
      go (inr (inl q)) = absurd (omega (arith, ap (place n) q))
      go (inr (inr l)) = absurd (omega (arith, place-monotone b a l))

  pub grevlex-degree : (a b : Row n) → Grevlex n a b → degree n a ≤ degree n b
  grevlex-degree a b l = ⊎_elim (λ h. omega arith) (λ q. omega (arith, q.0)) ((grevlex-less n a b).0 l)

  pub place-degree : (a b : Row n) → place n a ≤ place n b → degree n a ≤ degree n b
  place-degree a b h = go ((grevlex-order n).total a b)
    where
      go : Grevlex n a b ⊎ ((a ≡ b) ⊎ Grevlex n b a) → degree n a ≤ degree n b
      go (inl l) = grevlex-degree a b l
      go (inr (inl q)) = omega (arith, ap (degree n) q)
      go (inr (inr l)) = absurd (omega (arith, place-monotone b a l))

-- The monomial before.
pub record Down (n i : ℕ) (a b : Row n) : Type 0 where
  pub low : (j : ℕ) → j < i → exponent n a j ≡ 0
  pub here : exponent n a i ≡ suc (exponent n b 0)
  pub gone : (j : ℕ) → 0 < j → j ≤ i → exponent n b j ≡ 0
  pub next : suc i < n → exponent n b (suc i) ≡ suc (exponent n a (suc i))
  pub same : (j : ℕ) → suc i < j → j < n → exponent n b j ≡ exponent n a j

module _ (n i : ℕ) (a b : Row n) (w : Down n i a b) where
  sum_low : (k : ℕ) → k ≤ i → prefix_sum n a k ≡ 0
  sum_low zero h = refl
  sum_low (suc k) h = omega (arith, sum_low k (omega arith), w.low k h)

  sum-here : prefix_sum n a (suc i) ≡ suc (exponent n b 0)
  sum-here = omega (arith, sum_low i (omega arith), w.here)

  sum-gone : (k : ℕ) → k ≤ i → prefix_sum n b (suc k) ≡ exponent n b 0
  sum-gone zero h = omega arith
  sum-gone (suc k) h = omega (arith, sum-gone k (omega arith), w.gone (suc k) (omega arith) h)

  -- From the variable after i on the sums are the same.
  sum_same : (k : ℕ) → suc i < k → k ≤ n → prefix_sum n b k ≡ prefix_sum n a k
  sum_same zero h l = absurd (omega arith)
  sum_same (suc k) h l = go (ℕ_discrete k (suc i)) (λ m. sum_same k m (omega arith))
    where
      go : Dec (k ≡ suc i) → (suc i < k → prefix_sum n b k ≡ prefix_sum n a k) → prefix_sum n b (suc k) ≡ prefix_sum n a (suc k)
      go (yes q) r = rw q (omega (arith, sum-gone i (omega arith), sum-here, w.next (omega arith)))
      go (no q) r = omega (arith, r (omega arith), w.same k (omega arith) l)

  place-low : (k : ℕ) → k ≤ i → place_of_first n a k ≡ 0
  unfolding place_of_first monomials_below
  place-low zero h = refl
  place-low (suc k) h = omega (arith, place-low k (omega arith), ap (monomials_below (suc k)) (sum_low (suc k) h))

  place-gone : (k : ℕ) → k ≤ suc i → suc (place_of_first n b k) ≡ monomials_below k (suc (exponent n b 0))
  unfolding place_of_first monomials_below
  place-gone zero h = refl
  place-gone (suc k) h = omega (arith, place-gone k (omega arith), ap (monomials_below (suc k)) (sum-gone k (omega arith)))

  place_rest : (k : ℕ) → i < k → k ≤ n → suc (place_of_first n b k) ≡ place_of_first n a k
  unfolding place_of_first
  place_rest zero h l = absurd (omega arith)
  place_rest (suc k) h l = go (ℕ_discrete k i) (λ m. place_rest k m (omega arith))
    where
      go : Dec (k ≡ i) → (i < k → suc (place_of_first n b k) ≡ place_of_first n a k) → suc (place_of_first n b (suc k)) ≡ place_of_first n a (suc k)
      go (yes q) r = rw q (omega (arith, place-gone (suc i) (omega arith), place-low i (omega arith), ap (monomials_below (suc i)) sum-here))
      go (no q) r = omega (arith, r (omega arith), ap (monomials_below (suc k)) (sum_same (suc k) (omega arith) l))

  pub place_down : i < n → suc (place n b) ≡ place n a
  unfolding place
  place_down h = place_rest n h (omega arith)

-- At a place that is not 0 some exponent is not 0.
pub place-one : (n : ℕ) (a : Row n) → ((i : ℕ) → i < n → exponent n a i ≡ 0) → place n a ≡ 0
unfolding place place_of_first monomials_below
place-one n a h = go n (omega arith)
  where
    sum : (k : ℕ) → k ≤ n → prefix_sum n a k ≡ 0
    sum zero l = refl
    sum (suc k) l = omega (arith, sum k (omega arith), h k l)

    go : (k : ℕ) → k ≤ n → place_of_first n a k ≡ 0
    go zero l = refl
    go (suc k) l = omega (arith, go k (omega arith), ap (monomials_below (suc k)) (sum (suc k) l))
