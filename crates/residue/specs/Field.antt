-- Believed. The operations of a ring, and the residues modulo p (document 01, "Words and orders").
--   Arithmetic F    the operations of a ring on F
--   ZMod p          the residues modulo p: the numbers below p
--   modulo p h      their operations
--   residue p h x   the residue of x modulo p
use Rattle.std.specs.Prelude.{ℕ, ◌<◌, ◌%◌}
use Rattle.std.proofs.Common.{mod-lt, arith}
use Rattle.residue.specs.Modular.{sum_mod, negation_mod, product_mod}

-- Zero, one, sum, negation and product.
pub record Arithmetic (F : Type 0) : Type 0 where
  pub zero : F
  pub one : F
  pub add : F → F → F
  pub neg : F → F
  pub mul : F → F → F

-- The residues modulo p: the numbers below p.
abbrev pub ZMod : ℕ → Type 0
ZMod p = (x : ℕ) × (x < p)

-- Their operations.
unfoldable pub modulo : (p : ℕ) → 1 < p → Arithmetic (ZMod p)
unfolding sum_mod negation_mod product_mod
modulo p h = record {
  zero = (0, omega arith);
  one = (1, h);
  add = λ a b. (sum_mod p a.0 b.0, mod-lt _ (omega arith));
  neg = λ a. (negation_mod p a.0, mod-lt _ (omega arith));
  mul = λ a b. (product_mod p a.0 b.0, mod-lt _ (omega arith));
}

-- The residue of x modulo p.
unfoldable pub residue : (p : ℕ) → 1 < p → ℕ → ZMod p
residue p h x = (x % p, mod-lt _ (omega arith))
