-- `Residue::sub` meets its contract: a - b is the residue where b is at most a, and with p added elsewhere.
use native.Mathlib.Omega.{arith}
use Rattle.residue.proofs.Reductions.{difference-above, difference_below}
use Rattle.residue.proofs.Residue.sub.Goals as goal

pub returns-then-other-self : goal.returns-then-other-self
returns-then-other-self c =
    let (h, _, _) = c.requires in
    (difference-above _ _ _ h c.if-other-self.true, omega arith)

pub returns-else-other-self : goal.returns-else-other-self
returns-else-other-self c =
    let (_, k, _) = c.requires in
    (difference_below _ _ _ k c.if-other-self.false, omega arith)
