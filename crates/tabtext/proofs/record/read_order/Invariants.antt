-- `record::read_order` meets its contract. The loop's invariant: the letters so far, and what is left to read.
use Rattle.tabtext.proofs.OrderLoop.{LettersInv}
use Rattle.tabtext.proofs.record.read_order.Given as goal

abbrev pub invariant-loop-i : goal.invariant-loop-i
invariant-loop-i l = LettersInv l.text l.at l.i
