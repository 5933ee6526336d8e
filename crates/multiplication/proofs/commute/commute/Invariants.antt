-- `commute` meets its contract. The loop's invariant: no test below j failed.
use Prim.Native.Nat.{ℕ, ◌<◌}
use Rattle.multiplication.specs.Rows.{CommuteAt}
use Rattle.multiplication.proofs.commute.commute.Given as goal

abbrev pub invariant-loop-j : goal.invariant-loop-j
invariant-loop-j l = (h : 1 < l.field.p) (k : ℕ) → k < l.j → (i : ℕ) → i < k → (s : ℕ) → s < l.count → CommuteAt l.field.p h l.tables l.count i k s
