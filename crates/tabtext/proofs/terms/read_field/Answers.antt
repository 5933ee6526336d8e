-- `terms::read_field` meets its contract.
use Rattle.tabtext.specs.Readers.{read_byte, read_number, read_field}
use Rattle.tabtext.proofs.Steps.{after-bad}
use Rattle.tabtext.proofs.Sequences.{number-after}
use Rattle.tabtext.proofs.terms.read_field.Goals as goal

pub returns-in_err-i : goal.returns-in_err-i
unfolding read_field
returns-in_err-i c = rw c.from_residual.ensures (after-bad _ _ _ c.in_err-i.ensures)

pub returns : goal.returns
unfolding read_field
returns c = number-after (read_byte _) read_number _ _ _ c.read_number.result c.in_ok-i.ensures c.read_number.ensures
