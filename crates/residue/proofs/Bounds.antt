-- The largest product of two residues of the format.
--   product-bound   before it is reduced it is at most 250 · 250
use Prim.Native.Nat.{ℕ, ◌*◌, ◌≤◌, ◌<◌}
use native.Mathlib.Nat.{mul-le-mul}
use native.Mathlib.Omega.{arith}
use Rattle.residue.specs.Prime.{largest_modulus}

pub product-bound : (p a b : ℕ) → p ≤ largest_modulus → a < p → b < p → a * b ≤ 62500
product-bound p a b h k l = mul-le-mul {n₂ = 250} {m₂ = 250} (omega arith) (omega arith)
