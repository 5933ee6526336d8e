-- `number::read_number` meets its contract. The loop's invariant: what is left to read of the number, and its bounds.
use Rattle.tabtext.proofs.NumberLoop.{DigitsInv}
use Rattle.tabtext.proofs.number.read_number.Given as goal

abbrev pub invariant-loop-i : goal.invariant-loop-i
invariant-loop-i l = DigitsInv l.text l.at l.v l.i
