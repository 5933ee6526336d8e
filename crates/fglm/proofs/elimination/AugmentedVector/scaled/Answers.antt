-- `AugmentedVector::scaled` meets its contract: the reciprocal is that of the table.
use native.Mathlib.Omega.{arith}
use Rattle.fglm.proofs.Residues.{reciprocal-entry}
use Rattle.fglm.proofs.RowSteps.{scaled-by}
use Rattle.fglm.proofs.elimination.AugmentedVector.scaled.Goals as goal

pub returns : goal.returns
returns c =
    let (sound, _, nonzero) = c.requires in
    let (inverse, below) = c.of-c.ensures in
    let t = c.args.reciprocals in
    let e = reciprocal-entry t t.field.prime.prime.above_one _ _ (omega (arith, nonzero)) (sound.vector_below.below c.args.k) inverse below in
    scaled-by e c.times.ensures
