-- `Residue::add` meets its contract: a sum below p is the residue, and from any other p is taken once.
use native.Mathlib.Omega.{arith}
use Rattle.residue.proofs.Reductions.{sum_below, sum-above}
use Rattle.residue.proofs.Residue.add.Goals as goal

pub returns-then-s-p : goal.returns-then-s-p
returns-then-s-p c = (sum_below _ _ _ c.if-s-p.true, c.if-s-p.true)

pub returns-else-s-p : goal.returns-else-s-p
returns-else-s-p c =
    let (h, k, _) = c.requires in
    (sum-above _ _ _ h k c.if-s-p.false, omega arith)
