-- `earlier_fails` meets its contract. The loop's invariant: the pairs with the first i lines passed.
use Rattle.division.proofs.PairSearch.{EarlierPassed}
use Rattle.division.proofs.pairs.earlier_fails.Given as goal

abbrev pub invariant-loop-i : goal.invariant-loop-i
invariant-loop-i l = EarlierPassed l.basis l.j l.work l.i
