-- Inner contracts. What a table of reciprocals serves for (document 01, "Words and orders").
--   entry t a    what the table t has for a
--   Serves p t   the table t has the reciprocals modulo p
use Rattle.std.specs.Prelude.{◌≡◌, ℕ, ◌<◌, ◌≤◌, List, get_or}
use Rattle.residue.specs.Prime.{largest_modulus}
use Rattle.residue.specs.Modular.{product_mod}

-- What the table has for a.
abbrev pub entry : List ℕ → ℕ → ℕ
entry t a = get_or t a 0

-- For each a from 1 to p - 1 the table has a residue whose product with a is 1.
pub record Serves (p : ℕ) (t : List ℕ) : Type 0 where
  pub size : p ≤ largest_modulus
  pub residue : (a : ℕ) → 0 < a → a < p → entry t a < p
  pub inverse : (a : ℕ) → 0 < a → a < p → product_mod p a (entry t a) ≡ 1
