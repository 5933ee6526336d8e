-- `put_first_ranks` meets its contract. The loop's invariant: the first i ranks are stored.
use lib.ListN.{get_or}
use Rattle.lists.proofs.Storing.{FilledTo}
use Rattle.multiplication.specs.RankedLists.{ProductRank}
use Rattle.multiplication.proofs.fill.put_first_ranks.Given as goal

abbrev pub invariant-loop-i : goal.invariant-loop-i
invariant-loop-i l = FilledTo (λ j r. ProductRank l.ranks (get_or l.variables j 0) 0 r) 0 l.initial.next l.next l.i
