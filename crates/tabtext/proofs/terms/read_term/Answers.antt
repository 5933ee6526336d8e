-- `terms::read_term` meets its contract.
use Rattle.tabtext.specs.Readers.{read_term}
use Rattle.tabtext.proofs.Steps.{then-bad}
use Rattle.tabtext.proofs.Sequences.{row-after, no-row-after}
use Rattle.tabtext.proofs.terms.read_term.Goals as goal

pub returns-in_err-coefficient : goal.returns-in_err-coefficient
unfolding read_term
returns-in_err-coefficient c = rw c.from_residual.ensures (then-bad _ _ _ c.in_err-coefficient.ensures)

pub returns-in_err-row : goal.returns-in_err-row
returns-in_err-row c = rw c.from_residual-in_err-row.ensures (no-row-after _ _ _ _ _ c.in_ok-coefficient.ensures c.in_err-row.ensures)

pub returns : goal.returns
returns c = row-after _ _ _ _ _ _ _ c.in_ok-coefficient.ensures c.in_ok-row.ensures
