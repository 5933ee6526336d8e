-- Inner contracts. Differences modulo p.
--   difference_mod p a b   a - b
use Rattle.std.specs.Prelude.{ℕ, ◌+◌, ◌-◌, ◌%◌}

-- a - b, for b at most p
unfoldable pub difference_mod : ℕ → ℕ → ℕ → ℕ
difference_mod p a b = (a + (p - b)) % p
