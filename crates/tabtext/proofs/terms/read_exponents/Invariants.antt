-- `terms::read_exponents` meets its contract. The loop's invariant: the first j exponents, and what is left to read.
use Rattle.tabtext.proofs.RowLoop.{ExponentsInv}
use Rattle.tabtext.proofs.terms.read_exponents.Given as goal

abbrev pub invariant-loop-j : goal.invariant-loop-j
invariant-loop-j l = ExponentsInv l.text l.at l.fn.n l.separator l.row l.i l.j
