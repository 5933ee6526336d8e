-- `number::read_number` meets its contract. The loop's invariant: what is left to read of the number, and its bounds.
use Prim.Native.Nat.{◌<◌}
use native.Mathlib.Omega.{arith}
use lib.ListN.{length}
use Rattle.tabtext.proofs.Places.{digit-within}
use Rattle.tabtext.proofs.NumberLoop.{bad-first, zero-first, start, small, turn, stop, full}
use Rattle.tabtext.proofs.number.read_number.Goals.{In_ok-d}
use Rattle.tabtext.proofs.number.read_number.Goals as goal

pub returns-in_err-d : goal.returns-in_err-d
returns-in_err-d c = rw c.from_residual.ensures (bad-first _ c.in_err-d.ensures)

-- A digit stands at the place, which is within the text.
within : (c : In_ok-d) →
    let a = c.args in
    a.at < length a.text.now
within c =
    let a = c.args in
    let digit = c.in_ok-d.ensures in
    digit-within a.text.now a.at digit.0 digit.1

pub overflow_add-result : goal.overflow_add-result
overflow_add-result c = omega (arith, within (goal.at.overflow_add-result c).In_ok-d)

pub returns-then-zero : goal.returns-then-zero
returns-then-zero c = zero-first _ _ _ c.in_ok-d.ensures c.if-zero.true

pub overflow_add-end : goal.overflow_add-end
overflow_add-end c = omega (arith, within (goal.at.overflow_add-end c).In_ok-d)

pub overflow_step-i : goal.overflow_step-i
overflow_step-i c = omega (arith, within (goal.at.overflow_step-i c).In_ok-d)

pub loop-i-init : goal.loop-i-init
loop-i-init c = start _ _ _ c.in_ok-d.ensures c.if-zero.false

pub returns-in_default : goal.returns-in_default
returns-in_default c = stop _ _ _ _ c.loop-i.invariant c.in_default.ensures

pub overflow_mul-v : goal.overflow_mul-v
overflow_mul-v c = omega (arith, small _ _ _ _ c.loop-i.invariant)

pub overflow_add-v : goal.overflow_add-v
overflow_add-v c = omega (arith, small _ _ _ _ c.loop-i.invariant, c.in-Some.ensures)

pub loop-i-preserved : goal.loop-i-preserved
loop-i-preserved c = turn _ _ _ _ c.loop-i.invariant _ c.loop-i-test.true c.in-Some.ensures

pub returns : goal.returns
returns c = full _ _ _ _ c.loop-i.invariant c.loop-i-test.false
