-- A number above 1 is prime if no number above 1 whose square is at most it divides it.
--   SmallDivisor p d   d is above 1, its square is at most p, and it divides p
--   small-divisor      a number with a divisor d between 1 and itself has a small divisor
--   no-small-divisor   a number above 1 without a small divisor is prime
--   less-by-square     a number above 1 whose square is at most p is less than p
use mathlib.Core.Path.{◌≡◌}
use Prim.Native.Nat.{ℕ, ◌*◌, ◌/◌, ◌%◌, ◌≤◌, ◌<◌}
use native.Mathlib.Nat.{mul-le-mul_left, mul-le-mul_right, mul-mod_left, mul-mod_right, dvd_of_mod-eq-zero, div-mul_cancel}
use native.Mathlib.Decide.{dec_le}
use native.Mathlib.Omega.{arith}
use Rattle.residue.specs.Prime.{Prime}

pub record SmallDivisor (p d : ℕ) : Type 0 where
  pub above_one : 1 < d
  pub square : d * d ≤ p
  pub divides : p % d ≡ 0

-- Of p = e · d, the smaller of d and e.
smaller : (p d e : ℕ) → e * d ≡ p → 1 < d → d < p → (k : ℕ) × SmallDivisor p k
smaller p d e q h l = go (dec_le d e)
  where
    above : Dec (e ≤ 1) → 1 < e
    above (yes k) = absurd (omega (arith, mul-le-mul_right d k))
    above (no n) = omega arith

    go : Dec (d ≤ e) → (k : ℕ) × SmallDivisor p k
    go (yes k) =
        (d, record { above_one = h; square = omega (arith, mul-le-mul_right d k); divides = rw (← q) (mul-mod_left e d) })
    go (no n) =
        let k : e ≤ d = omega arith in
        (e, record { above_one = above (dec_le e 1); square = omega (arith, mul-le-mul_left e k); divides = rw (← q) (mul-mod_right e d) })

pub small-divisor : (p d : ℕ) → 1 < d → d < p → p % d ≡ 0 → (k : ℕ) × SmallDivisor p k
small-divisor p d h l e = smaller p d (p / d) (div-mul_cancel d (dvd_of_mod-eq-zero d e)) h l

pub no-small-divisor : (p : ℕ) → 1 < p → ((d : ℕ) → ¬ SmallDivisor p d) → Prime p
no-small-divisor p h n = record {
  above_one = h;
  no_divisor = λ d k l e. let (f, s) = small-divisor p d k l e in n f s;
}

pub less-by-square : (p d : ℕ) → 1 < d → d * d ≤ p → d < p
less-by-square p d h l = omega (arith, mul-le-mul_right d h)
