-- `Monomial::divides` meets its contract. The loop's invariant: no exponent below place i is larger.
use Prim.Native.Nat.{ℕ, ◌≤◌, ◌<◌}
use Rattle.monomial.specs.Rows.{exponent}
use Rattle.monomial.specs.Represented.{row}
use Rattle.monomial.proofs.Monomial.divides.Given as goal

abbrev pub invariant-loop-i : goal.invariant-loop-i
invariant-loop-i l = (k : ℕ) → k < l.i → exponent l.fn.n (row l.fn.n l.self) k ≤ exponent l.fn.n (row l.fn.n l.other) k
