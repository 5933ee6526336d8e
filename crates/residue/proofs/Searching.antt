-- The loop of `is_modulus`: d counts up from 2, and no number below it divides p, until d · d is above p or d is p.
--   Undivided p d     no number from 2 to d - 1 divides p
--   undivided-start   it holds at d = 2
--   undivided-fits    d · d is at most 251 · 251
--   undivided-less    in a turn d is below p
--   undivided-turn    it holds at d + 1 if d does not divide p
--   undivided-found   if d divides p, p is no modulus
--   undivided-stop    if d · d is above p, p is a modulus
--   undivided-all     if d is p, p is a modulus
use mathlib.Core.Path.{◌≡◌}
use Prim.Native.Nat.{ℕ, ◌+◌, ◌*◌, ◌%◌, ◌≤◌, ◌<◌}
use native.Mathlib.Nat.{mul-le-mul, le_refl}
use native.Mathlib.Decide.{dec_le}
use native.Mathlib.Omega.{arith}
use borrow.Author.Count.{below_more}
use Rattle.residue.specs.Prime.{Modulus, largest_modulus}
use Rattle.residue.proofs.Divisors.{no-small-divisor, less-by-square}

pub record Undivided (p d : ℕ) : Type 0 where
  pub size : p ≤ largest_modulus
  pub above_one : 1 < d
  pub within : d ≤ p
  pub none : (k : ℕ) → k < d → 1 < k → ¬ (p % k ≡ 0)

pub undivided-start : (p : ℕ) → 2 ≤ p → p ≤ largest_modulus → Undivided p 2
undivided-start p h l = record { size = l; above_one = omega arith; within = h; none = λ k m o e. omega arith }

module _ (p d : ℕ) (u : Undivided p d) where
  pub undivided-fits : d * d ≤ 63001
  undivided-fits =
      let h : d ≤ 251 = omega arith in
      mul-le-mul h h

  pub undivided-less : d * d ≤ p → d < p
  undivided-less l = less-by-square p d u.above_one l

  pub undivided-turn : d * d ≤ p → ¬ (p % d ≡ 0) → Undivided p (d + 1)
  undivided-turn l n = record {
    size = u.size;
    above_one = omega arith;
    within = omega (arith, undivided-less l);
    none = below_more (λ k. 1 < k → ¬ (p % k ≡ 0)) d u.none (λ _. n);
  }

  pub undivided-found : d * d ≤ p → p % d ≡ 0 → ¬ Modulus p
  undivided-found l e m = m.prime.no_divisor d u.above_one (undivided-less l) e

  pub undivided-stop : p < d * d → Modulus p
  undivided-stop l = record {
    prime = no-small-divisor p (omega arith) (λ k s. u.none k (below k s.square (dec_le d k)) s.above_one s.divides);
    size = u.size;
  }
    where
      below : (k : ℕ) → k * k ≤ p → Dec (d ≤ k) → k < d
      below k h (yes m) = absurd (omega (arith, mul-le-mul m m))
      below k h (no n) = omega arith

  pub undivided-all : p ≤ d → Modulus p
  undivided-all l = undivided-stop (omega (arith, mul-le-mul u.above_one (le_refl d)))
