-- `earlier_fails` meets its contract. The loop's invariant: the pairs with the first i lines passed.
use native.Mathlib.Omega.{arith}
use Rattle.division.proofs.PairSearch.{earlier-turn, earlier-stop}
use Rattle.division.proofs.pairs.earlier_fails.Goals as goal

pub loop-i-preserved : goal.loop-i-preserved
loop-i-preserved c =
    earlier-turn c.loop-i.invariant c.loop-i-test.true c.pair_fails.ensures c.if-pair_fails.false

pub returns : goal.returns
returns c = earlier-stop c.loop-i.invariant (omega arith)
