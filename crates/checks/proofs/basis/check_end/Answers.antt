-- `check_end` meets its contract.
use mathlib.Core.Path.{ap}
use native.Mathlib.Omega.{arith}
use lib.ListN.{length, length-drop, drop_of_length-le}
use Rattle.checks.proofs.LineVerdicts.{wrong-count, more-stands, all_read}
use Rattle.checks.proofs.basis.check_end.Goals as goal

pub returns-then-count-k : goal.returns-then-count-k
returns-then-count-k c = rw c.at.ensures (λ p n s f. wrong-count p n _ s f c.if-count-k.true)

pub returns-then-next-text : goal.returns-then-next-text
returns-then-next-text c = rw c.at-then-next-text.ensures (λ p n s f. more-stands p n _ s f c.if-count-k.false (λ e. omega (arith, length-drop c.args.next c.args.text.now, ap length e)))

pub returns : goal.returns
returns c p n s f = all_read p n _ s f c.if-count-k.false (drop_of_length-le c.args.text.now {i = c.args.next} (omega arith))
