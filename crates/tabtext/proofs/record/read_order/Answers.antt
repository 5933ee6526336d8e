-- `record::read_order` meets its contract. The loop's invariant: the letters so far, and what is left to read.
use Prim.Native.Nat.{◌<◌}
use mathlib.Core.Path.{sym, ◌∙◌}
use native.Mathlib.Omega.{arith}
use lib.ListN.{length}
use Rattle.tabtext.proofs.Places.{letter-within}
use Rattle.tabtext.proofs.OrderLoop.{no-letter, start, turn, stop, full}
use Rattle.tabtext.proofs.record.read_order.Goals.{Else-not-letter_at}
use Rattle.tabtext.proofs.record.read_order.Goals as goal

pub returns-then-not-letter_at : goal.returns-then-not-letter_at
returns-then-not-letter_at c = no-letter _ (sym c.letter_at.ensures ∙ c.if-not-letter_at.true)

-- A letter stands at the place, which is within the text.
within : (c : Else-not-letter_at) →
    let a = c.args in
    a.at < length a.text.now
within c =
    let a = c.args in
    letter-within a.text.now a.at (sym c.letter_at.ensures ∙ c.if-not-letter_at.false)

pub overflow_add-end : goal.overflow_add-end
overflow_add-end c = omega (arith, within (goal.at.overflow_add-end c).Else-not-letter_at)

pub overflow_step-i : goal.overflow_step-i
overflow_step-i c = omega (arith, within (goal.at.overflow_step-i c).Else-not-letter_at)

pub loop-i-init : goal.loop-i-init
loop-i-init c = start _ _ (sym c.letter_at.ensures ∙ c.if-not-letter_at.false)

pub returns-then-not-letter_at-2 : goal.returns-then-not-letter_at-2
returns-then-not-letter_at-2 c = stop _ _ _ c.loop-i.invariant (sym c.letter_at-in-loop-i.ensures ∙ c.if-not-letter_at-2.true)

pub loop-i-preserved : goal.loop-i-preserved
loop-i-preserved c = turn _ _ _ c.loop-i.invariant c.loop-i-test.true (sym c.letter_at-in-loop-i.ensures ∙ c.if-not-letter_at-2.false)

pub returns : goal.returns
returns c = full _ _ _ c.loop-i.invariant c.loop-i-test.false
