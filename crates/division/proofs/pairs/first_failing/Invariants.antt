-- `first_failing` meets its contract. The loop's invariant: the pairs of the first j lines with earlier lines passed.
use Rattle.division.proofs.PairSearch.{LinesPassed}
use Rattle.division.proofs.pairs.first_failing.Given as goal

abbrev pub invariant-loop-j : goal.invariant-loop-j
invariant-loop-j l = LinesPassed l.basis l.work l.j
