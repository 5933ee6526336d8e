-- `terms::read_exponents` meets its contract. The loop's invariant: the first j exponents, and what is left to read.
use native.Mathlib.Omega.{arith}
use Rattle.tabtext.proofs.RowLoop.{no-separator, start, turn, stop, no-exponent}
use Rattle.tabtext.proofs.terms.read_exponents.Goals as goal

pub returns-in_err-i : goal.returns-in_err-i
returns-in_err-i c = rw c.from_residual.ensures (no-separator _ _ _ c.in_err-i.ensures)

pub loop-j-init : goal.loop-j-init
loop-j-init c = start _ _ _ _ _ c.in_ok-i.ensures.1 (omega arith)

pub returns-in_err-v : goal.returns-in_err-v
returns-in_err-v c = rw c.from_residual-in_err-v.ensures (no-exponent _ _ _ _ _ _ _ c.loop-j.invariant (omega arith) c.in_err-v.ensures)

pub loop-j-preserved : goal.loop-j-preserved
loop-j-preserved c = turn _ _ _ _ _ _ _ c.loop-j.invariant (omega arith) c.in_ok-v.ensures (omega arith)

pub returns : goal.returns
returns c = stop _ _ _ _ _ _ _ c.loop-j.invariant (omega arith)
