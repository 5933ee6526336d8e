-- `Reciprocals::new` meets its contract. The loop's invariant: the table has the reciprocals of the numbers below a, and their pairs.
use mathlib.Core.Path.{sym, subst}
use mathlib.Core.List.{List}
use Prim.Native.Nat.{ℕ, ◌+◌}
use native.Mathlib.Omega.{arith}
use Rattle.residue.proofs.Inverses.{Reciprocal}
use Rattle.residue.proofs.Counting.{reciprocal-positive}
use Rattle.residue.proofs.Filling.{TableFilled, reciprocals-none, filled-none-below, reciprocals-more, opposites-stored, filled-over, filled-stop}
use Rattle.residue.proofs.reciprocals.Reciprocals.new.Goals.{then-table-a-eq0, else-table-a-eq0}
use Rattle.residue.proofs.reciprocals.Reciprocals.new.Goals as goal

pub loop-a-init : goal.loop-a-init
loop-a-init c = reciprocals-none _ c.args.field.prime

pub counted-b-requires : goal.counted-b-requires
counted-b-requires c =
    let l = c.loop-a-test.true in
    (c.loop-a.invariant.above_zero, l, filled-none-below _ _ _ c.loop-a.invariant l c.if-table-a-eq0.true)

pub bounds-table-p-then-table-a-eq0 : goal.bounds-table-p-then-table-a-eq0
bounds-table-p-then-table-a-eq0 c =
    let b = c.counted-b.ensures in
    omega (arith, c.loop-a.invariant.modulus.size, reciprocal-positive _ _ _ (record { below = b.1; inverse = b.0 }))

pub loop-a-preserved : goal.loop-a-preserved
loop-a-preserved c =
    let l = c.loop-a-test.true in
    let filled : List ℕ → Type 0 = λ t. TableFilled c.args.field.p t (c.loop-a.a + 1) in
    elim c.if-table-a-eq0.branch [
      | then-table-a-eq0 w ↦
          let b = w.counted-b.ensures in
          let s : Reciprocal c.args.field.p c.loop-a.a w.counted-b.result.0 = record { below = b.1; inverse = b.0 } in
          subst filled (sym w.table-is) (opposites-stored _ _ _ _ _ (reciprocals-more _ _ _ _ c.loop-a.invariant l s) c.loop-a.invariant.above_zero l s)
      | else-table-a-eq0 w ↦ subst filled (sym w.table-is) (filled-over _ _ _ c.loop-a.invariant l w.if-table-a-eq0.false)
    ]

pub invariant_of-result : goal.invariant_of-result
invariant_of-result c = record { serves = filled-stop _ _ _ c.loop-a.invariant c.loop-a-test.false }
