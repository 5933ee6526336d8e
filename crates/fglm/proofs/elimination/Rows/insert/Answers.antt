-- `Rows::insert` meets its contract. The loop's invariant: the first i rows are cleared, the others are as they came.
use Prim.Native.Nat.{◌≤◌}
use mathlib.Core.Path.{◌≡◌, refl, sym, subst}
use native.Mathlib.Omega.{arith}
use borrow.Author.Rules.{rules}
use lib.ListN.{length}
use Rattle.lists.proofs.Elements.{length-mapped}
use Rattle.lines.specs.Sizes.{most_standard}
use Rattle.fglm.specs.RowState.{row_at, SoundRow}
use Rattle.fglm.proofs.RowSteps.{cleared-none}
use Rattle.fglm.proofs.Clearing.{clearing-start, clearing-row, clearing-turn, clearing-skip, clearing-is, clearing-stop}
use Rattle.fglm.proofs.elimination.Rows.insert.Goals.{In-loop-i, Start, then-c-ne0, else-c-ne0}
use Rattle.fglm.proofs.elimination.Rows.insert.Goals as goal

size : (c : Start) → c.args.self.used ≤ length c.args.self.rows
size c =
    let (rows, _, _) = c.requires in
    let l : length c.args.self.rows ≡ most_standard = search (length-mapped, rules) in
    omega (arith, rows.size)

-- Row i is sound.
sound : (c : In-loop-i) → SoundRow c.args.field.p (row_at c.loop-i.self c.loop-i.i)
sound c =
    let (rows, _, _) = c.requires in
    subst (SoundRow _) (sym (clearing-row c.loop-i.invariant)) (rows.rows c.loop-i.i c.loop-i-test.true)

pub loop-i-init : goal.loop-i-init
loop-i-init c = clearing-start

pub loop-i-preserved : goal.loop-i-preserved
loop-i-preserved c =
    let (_, q, _) = c.requires in
    elim c.if-c-ne0.branch [
      | then-c-ne0 w ↦
          clearing-is w.self-is (clearing-turn c.loop-i.invariant c.loop-i-test.true (size (goal.at.loop-i-preserved c).Start) w.cleared.ensures)
      | else-c-ne0 w ↦
          clearing-is w.self-is
          (clearing-skip c.loop-i.invariant c.loop-i-test.true (cleared-none c.args.field.prime.prime.above_one q (sound (goal.at.loop-i-preserved c).In-loop-i) w.if-c-ne0.false))
    ]

pub returns : goal.returns
returns c = record { others = c.loop-i.self; cleared = clearing-stop c.loop-i.invariant (omega arith); is = refl }
