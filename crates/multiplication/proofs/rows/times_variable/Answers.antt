-- `times_variable` meets its contract. The loop's invariant: the coordinates are the sum over the rows below r.
use Prim.Native.Nat.{◌<◌, ◌+◌}
use mathlib.Core.Path.{◌≡◌, sym, subst}
use native.Mathlib.Omega.{arith}
use Rattle.coordinates.specs.declared.Coordinates.{Coordinates}
use Rattle.multiplication.proofs.RowSums.{Summed, summed-start, summed-row, summed-none, summed-whole, table-row-below}
use Rattle.multiplication.proofs.rows.times_variable.Goals.{Start, then-c-ne0, else-c-ne0}
use Rattle.multiplication.proofs.rows.times_variable.Goals as goal

positive : (c : Start) → 0 < c.args.field.p
positive c = omega (arith, c.args.field.prime.prime.above_one)

pub loop-r-init : goal.loop-r-init
loop-r-init c = summed-start (positive (goal.at.loop-r-init c).Start) c.zero-sum.ensures

pub add_multiple-sum-requires : goal.add_multiple-sum-requires
add_multiple-sum-requires c =
    let (all, _, _, w) = c.requires in
    (w.below c.loop-r.r, c.loop-r.invariant.below, table-row-below all c.args.i c.loop-r.r)

pub loop-r-preserved : goal.loop-r-preserved
loop-r-preserved c =
    let a = c.args in
    let i = c.loop-r.invariant in
    let at : Coordinates → Type 0 = λ x. Summed a.field.p a.tables.now a.i a.vector x (c.loop-r.r + 1) in
    elim c.if-c-ne0.branch [
      | then-c-ne0 w ↦ subst at (sym w.sum-is) (summed-row i w.add_multiple-sum.ensures)
      | else-c-ne0 w ↦ subst at (sym w.sum-is) (summed-none i w.if-c-ne0.false)
    ]

pub returns : goal.returns
returns c =
    let e : c.loop-r.r ≡ c.args.count = omega arith in
    rw e at (summed-whole c.loop-r.invariant (positive (goal.at.returns c).Start) (omega arith) (rw (sym e) at c.cut.ensures))
