-- `max_space` meets its contract.
use mathlib.Core.Path.{sym}
use Rattle.division.proofs.Binomials.{space-value}
use Rattle.division.proofs.grevlex.max_space.Goals as goal

pub returns : goal.returns
returns c = sym space-value
