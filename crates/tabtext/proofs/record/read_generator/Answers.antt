-- `record::read_generator` meets its contract.
use mathlib.Core.Path.{refl, sym, ◌∙◌}
use native.Mathlib.Omega.{arith}
use Rattle.tabtext.specs.Text.{bytes}
use Rattle.tabtext.specs.Readers.{pure, read_generator}
use Rattle.tabtext.proofs.Steps.{then-got, then-bad, after-got, after-bad}
use Rattle.tabtext.proofs.Places.{ahead-got, ahead-bad}
use Rattle.tabtext.proofs.Found.{line-missing, line-found}
use Rattle.tabtext.proofs.record.read_generator.Goals as goal

pub overflow_add-start : goal.overflow_add-start
unfolding bytes
overflow_add-start c = omega (arith, c.requires.inside)

pub returns-then-not-byte_is : goal.returns-then-not-byte_is
unfolding bytes read_generator
returns-then-not-byte_is c =
    let no-tab = ahead-bad _ (sym c.byte_is.ensures ∙ c.if-not-byte_is.true) in
    line-missing c.requires _ (after-bad _ _ _ no-tab)

pub returns-in_err-next : goal.returns-in_err-next
unfolding bytes read_generator
returns-in_err-next c =
    let one = ahead-got _ (sym c.byte_is.ensures ∙ c.if-not-byte_is.false) in
    c.from_residual.ensures ∙ line-missing c.requires _ (after-got _ _ _ one ∙ then-bad _ _ _ c.in_err-next.ensures)

pub overflow_sub-end : goal.overflow_sub-end
overflow_sub-end c = omega (arith, c.in_ok-next.ensures.1.after)

pub returns : goal.returns
unfolding bytes pure read_generator
returns c =
    let one = ahead-got _ (sym c.byte_is.ensures ∙ c.if-not-byte_is.false) in
    let terms = c.in_ok-next.ensures.1 in
    line-found c.requires _ (after-got _ _ _ one ∙ then-got _ _ _ terms.reads) terms.inside refl
