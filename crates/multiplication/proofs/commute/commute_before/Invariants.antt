-- `commute_before` meets its contract. The loop's invariant: no test below i failed.
use Prim.Native.Nat.{ℕ, ◌<◌}
use Rattle.multiplication.specs.Rows.{CommuteAt}
use Rattle.multiplication.proofs.commute.commute_before.Given as goal

abbrev pub invariant-loop-i : goal.invariant-loop-i
invariant-loop-i l = (h : 1 < l.field.p) (k : ℕ) → k < l.i → (s : ℕ) → s < l.count → CommuteAt l.field.p h l.tables l.count k l.j s
