-- `Coordinates::zero` meets its contract.
use mathlib.Core.Path.{ap}
use Rattle.lists.proofs.Storing.{zeros-at}
use Rattle.residue.specs.declared.Residue.{Residue}
use Rattle.coordinates.proofs.Coordinates.zero.Goals as goal

pub returns : goal.returns
returns c = λ k. ap (λ (x : Residue). x.0) (zeros-at 32 k (record { 0 = 0 }))
