-- `commute_pair` meets its contract. The loop's invariant: no test below s failed.
use Prim.Native.Nat.{ℕ, ◌<◌}
use Rattle.multiplication.specs.Rows.{CommuteAt}
use Rattle.multiplication.proofs.commute.commute_pair.Given as goal

abbrev pub invariant-loop-s : goal.invariant-loop-s
invariant-loop-s l = (h : 1 < l.field.p) (k : ℕ) → k < l.s → CommuteAt l.field.p h l.tables l.count l.i l.j k
