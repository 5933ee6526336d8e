-- Outcomes that differ.
--   passed-not-refused   a refusal is no pass
use mathlib.Core.Path.{◌≡◌}
use Prim.Native.Nat.{ℕ}
use native.Mathlib.Omega.{arith}
use Rattle.answer.specs.Outcomes.{refused, passed}

pub passed-not-refused : {A : Type 0} {number line : ℕ} {a : A} → ¬ (passed a ≡ refused number line)
passed-not-refused e = let z : ◌≡◌ {A = ℕ} 0 1 = cc in omega arith
