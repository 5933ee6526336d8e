-- Digits: the one that counts most decides which number is smaller.
--   weight-up         a later digit counts no less
--   digits-below      digits below the base are less than what the next one counts
--   digit-less        the last digit decides, and at equal ones the others
--   digit_total f c   the sum of the first c digits
--   total-most        it is at most c times the largest digit
--   digits-most       the number is at most this sum times what the next digit counts
--   digits_sum        digits added make the sum of the numbers
--   Keying            the loop of `rank`: the first i digits are taken
--   keying-start, keying-room, keying-next
use mathlib.Core.Path.{◌≡◌, refl, ap, ap₂}
use mathlib.Core.Logic.{◌↔◌, ◌⊎◌, inl, inr, by_cases}
use Prim.Native.Nat.{ℕ, zero, suc, ◌+◌, ◌*◌, ◌≤◌, ◌<◌}
use native.Mathlib.Decide.{dec_le, dec_lt}
use native.Mathlib.Nat.{mul-le-mul_left, mul-suc}
use native.Mathlib.Omega.{arith}
use Rattle.monomial.specs.Represented.{most_entry}
use Rattle.monomial.specs.Ranks.{base, weight, from_digits}

pub weight-up : (c d : ℕ) → c ≤ d → weight c ≤ weight d
unfolding weight
weight-up c zero h = let e : c ≡ 0 = omega arith in rw e (omega arith)
weight-up c (suc d) h = by_cases (dec_le c d) (λ l. omega (arith, weight-up c d l)) (λ n. let e : c ≡ suc d = omega arith in rw e (omega arith))

pub digits-below : (f : ℕ → ℕ) (c : ℕ) → ((i : ℕ) → i < c → f i < base) → from_digits f c < weight c
unfolding weight from_digits
digits-below f zero h = omega arith
digits-below f (suc c) h = omega (arith, digits-below f c (λ i l. h i (omega arith)), mul-le-mul_left (weight c) (h c (omega arith)), mul-suc (weight c) (f c))

-- A last digit that is less makes a number that is less.
less-digit : (w x y u v : ℕ) → x < w → u < v → x + w * u < y + w * v
less-digit w x y u v h l = omega (arith, mul-le-mul_left w l, mul-suc w u)

pub digit-less : (w x y u v : ℕ) → x < w → y < w → (x + w * u < y + w * v) ↔ ((u < v) ⊎ ((u ≡ v) × (x < y)))
digit-less w x y u v h k = (to, from)
  where
    at : u ≡ v → w * u ≡ w * v
    at e = ap (◌*◌ w) e

    to : x + w * u < y + w * v → (u < v) ⊎ ((u ≡ v) × (x < y))
    to l = by_cases (dec_lt u v) inl (λ n. by_cases (dec_lt v u) (λ m. absurd (omega (arith, less-digit w y x v u k m))) (λ m. let e : u ≡ v = omega arith in inr (e, omega (arith, at e))))

    from : (u < v) ⊎ ((u ≡ v) × (x < y)) → x + w * u < y + w * v
    from (inl l) = less-digit w x y u v h l
    from (inr (e, l)) = omega (arith, at e)

-- The sum of the digits f 0, .., f (c - 1).
unfoldable pub digit_total : (ℕ → ℕ) → ℕ → ℕ
digit_total f zero = 0
digit_total f (suc c) = digit_total f c + f c

pub total-most : (f : ℕ → ℕ) (c : ℕ) → ((i : ℕ) → i < c → f i < base) → digit_total f c ≤ c * most_entry
unfolding digit_total
total-most f zero h = omega arith
total-most f (suc c) h = omega (arith, total-most f c (λ i l. h i (omega arith)), h c (omega arith))

pub digits-most : (f : ℕ → ℕ) (c n : ℕ) → c ≤ n → from_digits f c ≤ digit_total f c * weight n
unfolding from_digits digit_total
digits-most f zero n h = omega arith
digits-most f (suc c) n h = omega (arith, digits-most f c n (omega arith), mul-le-mul_left (f c) (weight-up c n (omega arith)))

pub digits_sum : (f g h : ℕ → ℕ) (c : ℕ) → ((i : ℕ) → h i ≡ f i + g i) → from_digits h c ≡ from_digits f c + from_digits g c
unfolding from_digits
digits_sum f g h zero e = refl
digits_sum f g h (suc c) e = omega (arith, digits_sum f g h c e, ap (◌*◌ (weight c)) (e c))

-- The first i digits are taken: d is their sum, k is their number, and w is what the next one counts.
pub record Keying (f : ℕ → ℕ) (n d k w i : ℕ) : Type 0 where
  pub within : i ≤ n
  pub sum : d ≡ digit_total f i
  pub number : k ≡ from_digits f i
  pub counts : w ≡ weight i
  pub digit : (j : ℕ) → j < i → f j < base

pub keying-start : (f : ℕ → ℕ) (n : ℕ) → Keying f n 0 0 1 0
unfolding weight from_digits digit_total
keying-start f n = record { within = omega arith; sum = refl; number = refl; counts = refl; digit = λ j h. absurd (omega arith) }

module _ {f : ℕ → ℕ} {n d k w i e : ℕ} (so_far : Keying f n d k w i) (more : i < n) (is : e ≡ f i) (small : e < base) where
  pub keying-next : Keying f n (d + e) (k + w * e) (w * base) (suc i)
  unfolding weight from_digits digit_total
  keying-next = record {
    within = omega arith;
    sum = ap₂ ◌+◌ so_far.sum is;
    number = ap₂ ◌+◌ so_far.number (ap₂ ◌*◌ so_far.counts is);
    counts = omega (arith, so_far.counts);
    digit = λ j h. by_cases (dec_lt j i) (so_far.digit j) (λ l. let q : j ≡ i = omega arith in rw q (omega arith));
  }

  -- Nothing is larger than what the digit after the last counts.
  pub keying-room : (d + e ≤ n * most_entry) × (k + w * e < weight n) × (w * base ≤ weight n)
  keying-room = (
    omega (arith, keying-next.sum, total-most f (suc i) keying-next.digit),
    omega (arith, keying-next.number, digits-below f (suc i) keying-next.digit, weight-up (suc i) n (omega arith)),
    omega (arith, keying-next.counts, weight-up (suc i) n (omega arith)),
  )
