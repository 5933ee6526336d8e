-- Believed. Arithmetic modulo p, on the numbers below p (document 01, "Words and orders").
--   sum_mod p a b       a + b
--   negation_mod p a    - a
--   product_mod p a b   a · b
use Rattle.std.specs.Prelude.{ℕ, ◌+◌, ◌-◌, ◌*◌, ◌%◌}

-- a + b
unfoldable pub sum_mod : ℕ → ℕ → ℕ → ℕ
sum_mod p a b = (a + b) % p

-- - a, for a at most p
unfoldable pub negation_mod : ℕ → ℕ → ℕ
negation_mod p a = (p - a) % p

-- a · b
unfoldable pub product_mod : ℕ → ℕ → ℕ → ℕ
product_mod p a b = a * b % p
