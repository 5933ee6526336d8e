-- `ranks_of` meets its contract. The loop's invariant: the ranks of the first monomials are listed.
use lib.ListN.{get_or}
use Rattle.lists.proofs.Pushing.{Pushed}
use Rattle.monomial.specs.Represented.{row}
use Rattle.staircase.proofs.ArrayRows.{no_monomial}
use Rattle.staircase.proofs.RankedLists.{IsRank}
use Rattle.staircase.proofs.ranks.ranks_of.Given as goal

abbrev pub invariant-loop-m : goal.invariant-loop-m
invariant-loop-m g l = Pushed (λ k w. IsRank l.n (row l.n (get_or l.list k no_monomial)) w) 0 l.ranks.items l.m-index
