-- `commute_pair` meets its contract. The loop's invariant: no test below s failed.
use mathlib.Core.Path.{ap}
use mathlib.Core.Bool.{not}
use borrow.Author.Count.{below_more}
use Rattle.lists.proofs.Testing.{tested-failed, refuted, confirmed}
use Rattle.multiplication.proofs.commute.commute_pair.Goals as goal

pub returns-then-not-commute_at : goal.returns-then-not-commute_at
returns-then-not-commute_at c = λ h.
    tested-failed c.loop-s.s c.loop-s-test.true (refuted _ (c.commute_at.ensures h) (ap not c.if-not-commute_at.true))

pub loop-s-preserved : goal.loop-s-preserved
loop-s-preserved c =
    λ h. below_more _ _ (c.loop-s.invariant h) (confirmed _ (c.commute_at.ensures h) (ap not c.if-not-commute_at.false))
