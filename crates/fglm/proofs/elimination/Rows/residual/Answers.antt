-- `Rows::residual` meets its contract. The loop's invariant: x is what the rows before r leave.
use Prim.Native.Nat.{◌≤◌, ◌<◌}
use mathlib.Core.Path.{◌≡◌, refl}
use native.Mathlib.Omega.{arith}
use lib.ListN.{length, get_or, take}
use lib.Seq.{get_or-take, length-take-le}
use borrow.Author.Rules.{rules}
use Rattle.lists.proofs.Elements.{length-mapped}
use Rattle.lines.specs.Sizes.{most_standard}
use Rattle.fglm.specs.RowState.{no_row, row_at}
use Rattle.fglm.proofs.Reducing.{reducing-start, reducing-turn, reducing-skip, reducing-is, reducing-stop}
use Rattle.fglm.proofs.elimination.Rows.residual.Goals.{In-loop-r, Start, then-c-ne0, else-c-ne0}
use Rattle.fglm.proofs.elimination.Rows.residual.Goals as goal

full : (c : Start) → c.args.self.used ≤ length c.args.self.rows
full c =
    let (rows, _) = c.requires in
    let l : length c.args.self.rows ≡ most_standard = search (length-mapped, rules) in
    omega (arith, rows.size)

-- One of the rows that are used.
used : (c : In-loop-r) → c.loop-r.r-index < c.args.self.used
used c = omega (arith, length-take-le c.args.self.used c.args.self.rows (full (goal.at.In-loop-r c).Start))

-- It is the row r.
is : (c : In-loop-r) → get_or (take c.args.self.used c.args.self.rows) c.loop-r.r-index no_row ≡ row_at c.args.self c.loop-r.r-index
is c = get_or-take c.args.self.used c.args.self.rows c.loop-r.r-index no_row (used c)

pub loop-r-init : goal.loop-r-init
loop-r-init c = reducing-start (search (length-mapped, rules))

pub loop-r-preserved : goal.loop-r-preserved
loop-r-preserved c =
    let (rows, _) = c.requires in
    let k = (goal.at.loop-r-preserved c).In-loop-r in
    let s = (goal.at.loop-r-preserved c).Start in
    elim c.if-c-ne0.branch [
      | then-c-ne0 w ↦ reducing-is w.x-is (reducing-turn c.loop-r.invariant (used k) (full s) refl (rw (is k) at w.less-x.ensures))
      | else-c-ne0 w ↦
          reducing-is w.x-is
          (reducing-skip c.loop-r.invariant (used k) (full s) refl c.args.field.prime.prime.above_one (rows.rows c.loop-r.r-index (used k)) (rw (is k) at w.if-c-ne0.false))
    ]

pub returns : goal.returns
returns c =
    let s = (goal.at.returns c).Start in
    let end : c.args.self.used ≤ c.loop-r.r-index = omega (arith, length-take-le c.args.self.used c.args.self.rows (full s)) in
    reducing-stop c.loop-r.invariant end (full s) refl (c.unit.ensures.represents c.args.field.p c.args.field.prime.prime.above_one)
