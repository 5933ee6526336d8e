-- `commute_at` meets its contract.
use mathlib.Core.Logic.Iff
use Rattle.multiplication.proofs.CommutingRows.{commute-iff}
use Rattle.multiplication.proofs.commute.commute_at.Goals as goal

pub returns : goal.returns
returns c = λ h.
    let (_, _, _, d, _) = c.requires in
    Iff.trans c.same_coordinates.ensures (commute-iff h _ d c.times_variable-a.ensures c.times_variable-b.ensures)
