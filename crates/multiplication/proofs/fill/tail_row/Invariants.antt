-- `tail_row` meets its contract. The loop's invariant: the terms from k on are subtracted.
use Rattle.multiplication.proofs.TailRows.{Gathered}
use Rattle.multiplication.proofs.fill.tail_row.Given as goal

abbrev pub invariant-loop-k : goal.invariant-loop-k
invariant-loop-k l = Gathered l.field.p l.n l.g l.ranks l.r l.k
