-- Numbers in decimal digits.
--   number-digit     a number below 10 is its digit
--   number_more      any other is its tenth, and its last digit
--   width-1, width-2, width-3, width-4, width-5
--                    how many digits a number has
--   width-more       a number above 9 has one digit more than its tenth
--   width-more-4     a number above 9999 has four digits more than its ten thousandth
use Prim.Native.Nat.{ℕ, zero, suc, ◌+◌, ◌/◌, ◌%◌, ◌≤◌, ◌<◌}
use mathlib.Core.Path.{◌≡◌, ap, ◌∙◌}
use mathlib.Core.List.{[], ◌∷◌, ◌++◌}
use native.Mathlib.Omega.{arith}
use native.Mathlib.Decide.{dec_lt}
use lib.ListN.{length, length-append}
use borrow.Author.Tests.{lt-ltb, le-ltb}
use Rattle.lists.specs.Lists.{Bytes}
use Rattle.tabtext.specs.Text.{digits, decimal}

-- Any two bounds on the number of digits that are large enough give the same digits.
digits-bound : (f g v : ℕ) → v < f → v < g → digits f v ≡ digits g v
unfolding digits
digits-bound zero g v h k = absurd (omega arith)
digits-bound (suc f) zero v h k = absurd (omega arith)
digits-bound (suc f) (suc g) v h k = elim (dec_lt v 10) [
  | yes small ↦ rw (digits, lt-ltb v 10 small)
  | no large ↦
      rw (digits, le-ltb v 10 (omega arith))
      (ap (λ (s : Bytes). s ++ ((48 + v % 10) ∷ [])) (digits-bound f g (v / 10) (omega arith) (omega arith)))
]

pub number-digit : (v : ℕ) → v < 10 → decimal v ≡ (48 + v) ∷ []
unfolding decimal
number-digit v h = rw (decimal, digits, lt-ltb v 10 h)

pub number_more : (v : ℕ) → 10 ≤ v → decimal v ≡ decimal (v / 10) ++ ((48 + v % 10) ∷ [])
unfolding decimal
number_more v h =
    rw (decimal, digits, le-ltb v 10 h)
    (ap (λ (s : Bytes). s ++ ((48 + v % 10) ∷ [])) (digits-bound v (suc (v / 10)) (v / 10) (omega arith) (omega arith)))

pub width-1 : (v : ℕ) → v < 10 → length (decimal v) ≡ 1
width-1 v h = ap length (number-digit v h)

pub width-more : (v : ℕ) → 10 ≤ v → length (decimal v) ≡ length (decimal (v / 10)) + 1
width-more v h = ap length (number_more v h) ∙ length-append (decimal (v / 10)) ((48 + v % 10) ∷ [])

pub width-more-4 : (v : ℕ) → 10000 ≤ v → length (decimal v) ≡ length (decimal (v / 10000)) + 4
width-more-4 v h =
    let e : v / 10 / 10 / 10 / 10 ≡ v / 10000 = omega arith in
    omega (
      arith,
      width-more v (omega arith),
      width-more (v / 10) (omega arith),
      width-more (v / 10 / 10) (omega arith),
      width-more (v / 10 / 10 / 10) (omega arith),
      ap (λ k. length (decimal k)) e,
    )

pub width-2 : (v : ℕ) → 10 ≤ v → v < 100 → length (decimal v) ≡ 2
width-2 v h k = omega (arith, width-more v h, width-1 (v / 10) (omega arith))

pub width-3 : (v : ℕ) → 100 ≤ v → v < 1000 → length (decimal v) ≡ 3
width-3 v h k = omega (arith, width-more v (omega arith), width-2 (v / 10) (omega arith) (omega arith))

pub width-4 : (v : ℕ) → 1000 ≤ v → v < 10000 → length (decimal v) ≡ 4
width-4 v h k = omega (arith, width-more v (omega arith), width-3 (v / 10) (omega arith) (omega arith))

pub width-5 : (v : ℕ) → 10000 ≤ v → v < 100000 → length (decimal v) ≡ 5
width-5 v h k = omega (arith, width-more v (omega arith), width-4 (v / 10) (omega arith) (omega arith))
