-- `record::read_record` meets its contract.
use mathlib.Core.Path.{◌∙◌}
use Rattle.tabtext.proofs.Found.{record-of-kind}
use Rattle.tabtext.proofs.record.read_record.Goals as goal

pub returns-in_err-kind : goal.returns-in_err-kind
returns-in_err-kind c = c.from_residual.ensures ∙ record-of-kind _ _ _ _ c.in_err-kind.ensures

pub returns : goal.returns
returns c = record-of-kind _ _ _ _ c.in_ok-kind.ensures
