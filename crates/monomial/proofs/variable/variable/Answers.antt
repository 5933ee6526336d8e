-- `variable` meets its contract.
use Rattle.monomial.proofs.Variables.{variable-stored}
use Rattle.monomial.proofs.variable.variable.Goals as goal

pub returns : goal.returns
returns c = variable-stored _ c.requires c.one-m.ensures
