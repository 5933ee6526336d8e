-- `record::read_standard` meets its contract.
use mathlib.Core.Path.{refl, ◌∙◌}
use native.Mathlib.Omega.{arith}
use Rattle.tabtext.specs.Text.{bytes}
use Rattle.tabtext.specs.Readers.{pure, read_standard}
use Rattle.tabtext.proofs.Steps.{then-got, then-bad}
use Rattle.tabtext.proofs.Found.{line-missing, line-found}
use Rattle.tabtext.proofs.record.read_standard.Goals as goal

pub overflow_add-start : goal.overflow_add-start
unfolding bytes
overflow_add-start c = omega (arith, c.requires.inside)

pub returns-in_err-next : goal.returns-in_err-next
unfolding bytes read_standard
returns-in_err-next c = c.from_residual.ensures ∙ line-missing c.requires _ (then-bad _ _ _ c.in_err-next.ensures)

pub overflow_sub-end : goal.overflow_sub-end
overflow_sub-end c = omega (arith, c.in_ok-next.ensures.1.after)

pub returns : goal.returns
unfolding bytes pure read_standard
returns c =
    let rows = c.in_ok-next.ensures.1 in
    line-found c.requires _ (then-got _ _ _ rows.reads) rows.inside refl
