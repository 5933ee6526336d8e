-- `line_of` meets its contract. The loop's invariant: the line has m, and the terms of the standard monomials from place k on.
use Rattle.fglm.proofs.LineTerms.{Writing}
use Rattle.fglm.proofs.line.line_of.Given as goal

abbrev pub invariant-loop-k : goal.invariant-loop-k
invariant-loop-k l = Writing l.p l.fn.n l.fn.m l.combination l.standard l.g.items l.k
