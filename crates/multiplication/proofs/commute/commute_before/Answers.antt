-- `commute_before` meets its contract. The loop's invariant: no test below i failed.
use mathlib.Core.Path.{ap}
use mathlib.Core.Bool.{not}
use borrow.Author.Count.{below_more}
use Rattle.lists.proofs.Testing.{tested-failed, refuted, confirmed}
use Rattle.multiplication.proofs.commute.commute_before.Goals as goal

pub returns-then-not-commute_pair : goal.returns-then-not-commute_pair
returns-then-not-commute_pair c = λ h.
    tested-failed c.loop-i.i c.loop-i-test.true (refuted _ (c.commute_pair.ensures h) (ap not c.if-not-commute_pair.true))

pub loop-i-preserved : goal.loop-i-preserved
loop-i-preserved c =
    λ h. below_more _ _ (c.loop-i.invariant h) (confirmed _ (c.commute_pair.ensures h) (ap not c.if-not-commute_pair.false))
