-- `Monomial::is_power` meets its contract. The loop's invariant: every exponent below place i but that of v is 0.
use Prim.Native.Nat.{ℕ, ◌<◌}
use mathlib.Core.Path.{◌≡◌}
use Rattle.monomial.specs.Rows.{exponent}
use Rattle.monomial.specs.Represented.{row}
use Rattle.monomial.proofs.Monomial.is_power.Given as goal

abbrev pub invariant-loop-i : goal.invariant-loop-i
invariant-loop-i l = (k : ℕ) → k < l.i → ¬ (k ≡ l.v) → exponent l.fn.n (row l.fn.n l.self) k ≡ 0
