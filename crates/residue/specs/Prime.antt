-- Believed. Primes, and the moduli of the format (document 01, refusal 4).
--   Prime p           p is prime
--   largest_modulus   251
--   Modulus p         p is a prime from 2 to 251
use Rattle.std.specs.Prelude.{◌≡◌, ℕ, ◌%◌, ◌<◌, ◌≤◌}

-- p is above 1, and no number d with 1 < d < p divides it.
pub record Prime (p : ℕ) : Type 0 where
  pub above_one : 1 < p
  pub no_divisor : (d : ℕ) → 1 < d → d < p → ¬ (p % d ≡ 0)

-- The largest modulus (document 01, refusal 4).
abbrev pub largest_modulus : ℕ
largest_modulus = 251

-- p is a modulus of the format: a prime from 2 to 251 (document 01, refusal 4).
pub record Modulus (p : ℕ) : Type 0 where
  pub prime : Prime p
  pub size : p ≤ largest_modulus
