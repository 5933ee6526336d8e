-- `first_failing` meets its contract. The loop's invariant: the pairs of the first j lines with earlier lines passed.
use native.Mathlib.Omega.{arith}
use Rattle.division.proofs.PairSearch.{lines-turn, lines-found, lines-stop}
use Rattle.division.proofs.pairs.first_failing.Goals as goal

pub returns-then-earlier_fails : goal.returns-then-earlier_fails
returns-then-earlier_fails c =
    lines-found c.loop-j.invariant (omega arith) c.earlier_fails.ensures c.if-earlier_fails.true

pub loop-j-preserved : goal.loop-j-preserved
loop-j-preserved c =
    lines-turn c.loop-j.invariant (omega arith) c.earlier_fails.ensures c.if-earlier_fails.false

pub returns : goal.returns
returns c = lines-stop c.loop-j.invariant (omega arith)
