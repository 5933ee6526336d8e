-- `counted` meets its contract. The loop's invariant: b is at most the reciprocal of a, and the multiple is the product of a and b.
use Rattle.residue.proofs.Counting.{Counting}
use Rattle.residue.proofs.reciprocals.counted.Given as goal

abbrev pub invariant-loop-b : goal.invariant-loop-b
invariant-loop-b l = Counting l.p l.a.0 l.b l.multiple.0
