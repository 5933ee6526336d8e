-- `is_modulus` meets its contract. The loop's invariant: no number from 2 to d - 1 divides p.
use Rattle.residue.proofs.Searching.{Undivided}
use Rattle.residue.proofs.prime.is_modulus.Given as goal

abbrev pub invariant-loop-d : goal.invariant-loop-d
invariant-loop-d l = Undivided l.p l.d
