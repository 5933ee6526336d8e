-- `record::read_last` meets its contract.
use mathlib.Core.Path.{◌∙◌}
use Rattle.tabtext.specs.Readers.{pure, read_last}
use Rattle.tabtext.proofs.Steps.{then-got, then-bad, after-got, after-bad}
use Rattle.tabtext.proofs.Sequences.{reading-then}
use Rattle.tabtext.proofs.record.read_last.Goals as goal

pub returns-in_err-v : goal.returns-in_err-v
unfolding read_last
returns-in_err-v c = rw c.from_residual.ensures (then-bad _ _ _ c.in_err-v.ensures)

pub returns-in_err-next : goal.returns-in_err-next
unfolding read_last
returns-in_err-next c =
    let field = c.in_ok-v.ensures in
    rw c.from_residual-in_err-next.ensures (then-got _ _ _ field.reads ∙ after-bad _ _ _ c.in_err-next.ensures)

pub returns : goal.returns
unfolding read_last pure
returns c =
    let lf = c.in_ok-next.ensures.1 in
    reading-then _ _ _ _ c.in_ok-v.ensures (after-got _ _ _ lf.reads) lf.after lf.inside
