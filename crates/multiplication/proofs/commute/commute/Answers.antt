-- `commute` meets its contract. The loop's invariant: no test below j failed.
use mathlib.Core.Path.{ap}
use mathlib.Core.Bool.{not}
use borrow.Author.Count.{below_more}
use mathlib.Core.Logic.Iff
use native.Mathlib.Omega.{arith}
use Rattle.lists.proofs.Testing.{tested-failed, refuted, confirmed}
use Rattle.multiplication.proofs.CommutingRows.{all-commute}
use Rattle.multiplication.proofs.commute.commute.Goals as goal

pub returns-then-not-commute_before : goal.returns-then-not-commute_before
returns-then-not-commute_before c = λ h.
    Iff.trans (tested-failed c.loop-j.j (omega arith) (refuted _ (c.commute_before.ensures h) (ap not c.if-not-commute_before.true))) (all-commute _ h _ _ _)

pub loop-j-preserved : goal.loop-j-preserved
loop-j-preserved c =
    λ h. below_more _ _ (c.loop-j.invariant h) (confirmed _ (c.commute_before.ensures h) (ap not c.if-not-commute_before.false))
