-- `Monomial::one` meets its contract.
use mathlib.Core.Path.{refl}
use Rattle.monomial.specs.Rows.{one}
use Rattle.monomial.specs.Represented.{monomial}
use Rattle.monomial.proofs.Monomial.one.Goals as goal

pub returns : goal.returns
unfolding one monomial
returns c = refl
