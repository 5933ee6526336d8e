-- The loop of `read_number`, over plain lists.
--   bad-first, zero-first    no digit stands at the place, or the digit 0
--   more-end                 no digit follows
--   DigitsInv                what holds at the loop's head: what is left to read of the number, and its bounds
--   start, turn              it holds where the loop begins, and again after a digit more
--   small                    the value has at most 5 digits
--   stop, full               the number ends where no digit stands, and after its fifth digit
use Prim.Native.Nat.{ℕ, zero, suc, ◌+◌, ◌-◌, ◌*◌, ◌^◌, ◌≤◌, ◌<◌}
use mathlib.Core.Path.{◌≡◌, refl, sym, ◌∙◌}
use native.Mathlib.Omega.{arith}
use native.Mathlib.Nat.{lt_of_lt_of_le, pow-le-pow_right, pow-suc}
use native.Mathlib.Numerals.{sub-one}
use lib.ListN.{length, drop}
use lib.Seq.{drop-drop}
use borrow.Author.Tests.{le-leb, lt-leb, ne_eqb}
use Rattle.std.specs.Prelude.{Some, None}
use Rattle.lists.specs.Lists.{Bytes}
use Rattle.tabtext.specs.Text.{Number}
use Rattle.tabtext.specs.Readers.{got, bad, digit, more_digits, read_number}
use Rattle.tabtext.specs.Answers.{Reading, DigitSays}
use Rattle.tabtext.proofs.Places.{digit-within}

pub bad-first : (s : Bytes) → 9 < digit s → read_number s ≡ bad
unfolding read_number
bad-first s h = rw (read_number, lt-leb _ _ h)

pub zero-first : (s : Bytes) (at d : ℕ) → DigitSays s at (Some d) → d ≡ 0 → Reading read_number s at 0 (at + 1)
unfolding read_number
zero-first s at d e z =
    let q = sym e.0 ∙ z in
    let within : at < length s = digit-within s at e.0 e.1 in
    record { reads = rw (read_number, q, q, drop-drop 1 at s); after = omega arith; inside = omega arith }

below_more : (k v e : ℕ) → v < 10 ^ k → e ≤ 9 → v * 10 + e < 10 ^ suc k
below_more k v e h d = omega (arith, pow-suc 10 k)

more-digit : (k v : ℕ) (s : Bytes) → 0 < k → digit s ≤ 9 → more_digits k v s ≡ more_digits (k - 1) (v * 10 + digit s) (drop 1 s)
unfolding more_digits
more-digit zero v s p h = absurd (omega arith)
more-digit (suc k) v s p h = rw (more_digits, le-leb _ _ h, sub-one)

pub more-end : (k v : ℕ) (s : Bytes) → 9 < digit s → more_digits k v s ≡ got v s
unfolding more_digits
more-end zero v s h = refl
more-end (suc k) v s h = rw (more_digits, lt-leb _ _ h)

more-full : (k v : ℕ) (s : Bytes) → k ≤ 0 → more_digits k v s ≡ got v s
unfolding more_digits
more-full zero v s h = refl
more-full (suc k) v s h = absurd (omega arith)

-- The digits from `at` up to i are read, and at most five are.
pub record DigitsInv (s : Bytes) (at v i : ℕ) : Type 0 where
  pub rest : read_number (drop at s) ≡ more_digits (at + 5 - i) v (drop i s)
  pub below : v < 10 ^ (i - at)
  pub after : at < i
  pub most : i ≤ at + 5
  pub inside : i ≤ length s

module _ (s : Bytes) (at : ℕ) where
  pub start : (d : ℕ) → DigitSays s at (Some d) → (d ≡ 0 → ⊥) → DigitsInv s at d (at + 1)
  unfolding read_number
  start d e z =
      let within : at < length s = digit-within s at e.0 e.1 in
      let four : at + 5 - (at + 1) ≡ 4 = omega arith in
      let one : at + 1 - at ≡ 1 = omega arith in
      record {
        rest = rw (four, e.0) (rw (read_number, le-leb _ _ (rw e.0 at e.1), ne_eqb _ _ (rw e.0 at z), drop-drop 1 at s));
        below = rw one (omega (arith, e.1));
        after = omega arith;
        most = omega arith;
        inside = omega arith;
      }

  module _ (v i : ℕ) (inv : DigitsInv s at v i) where
    pub small : Number v
    small = lt_of_lt_of_le inv.below (pow-le-pow_right {n = 10} (omega arith) {i = i - at} {j = 5} (omega (arith, inv.most)))

    pub turn : (d : ℕ) → i < at + 5 → DigitSays s i (Some d) → DigitsInv s at (v * 10 + d) (i + 1)
    turn d p e =
        let g : digit (drop i s) ≤ 9 = rw e.0 at e.1 in
        let within : i < length s = digit-within s i e.0 e.1 in
        let less : at + 5 - i - 1 ≡ at + 5 - (i + 1) = omega arith in
        let longer : i + 1 - at ≡ suc (i - at) = omega (arith, inv.after) in
        record {
          rest = inv.rest ∙ more-digit (at + 5 - i) v (drop i s) (omega arith) g ∙ rw (less, e.0, drop-drop 1 i s);
          below = rw longer (below_more (i - at) v d inv.below e.1);
          after = omega (arith, inv.after);
          most = omega arith;
          inside = omega arith;
        }

    pub stop : DigitSays s i None → Reading read_number s at v i
    stop h = record { reads = inv.rest ∙ more-end (at + 5 - i) v (drop i s) h; after = inv.after; inside = inv.inside }

    pub full : at + 5 ≤ i → Reading read_number s at v (at + 5)
    full h =
        let all : i ≡ at + 5 = omega (arith, inv.most) in
        record { reads = inv.rest ∙ more-full (at + 5 - i) v (drop i s) (omega arith) ∙ rw all; after = omega arith; inside = rw all at inv.inside }
