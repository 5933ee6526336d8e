-- `put_line` meets its contract. The loop's invariant: the line at the place has the first j terms of g, and blanks for the others.
use Rattle.lines.proofs.StoredTerms.{Storing}
use Rattle.lines.proofs.store.put_line.Given as goal

abbrev pub invariant-loop-j : goal.invariant-loop-j
invariant-loop-j l = Storing l.fn.lines.items l.at l.g.items l.j l.lines.items
