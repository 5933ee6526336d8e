-- The test of `divides_term` meets its contract.
use Rattle.std.proofs.Common.{rules}
use Rattle.staircase.proofs.DividedPlaces.{divides-read}
use Rattle.staircase.proofs.divided.fn.divides_term.any.Goals as goal

pub returns : goal.returns
returns c = search (rules, divides-read)
