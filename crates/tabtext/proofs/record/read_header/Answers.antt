-- `record::read_header` meets its contract.
use mathlib.Core.Path.{◌∙◌}
use native.Mathlib.Omega.{arith}
use Rattle.tabtext.specs.Text.{bytes}
use Rattle.tabtext.specs.Readers.{pure, read_header}
use Rattle.tabtext.proofs.Steps.{then-got, then-bad}
use Rattle.tabtext.proofs.Found.{line-missing, line-found, header-kind}
use Rattle.tabtext.proofs.record.read_header.Goals as goal

pub overflow_add-start : goal.overflow_add-start
unfolding bytes
overflow_add-start c = omega (arith, c.requires.inside)

pub returns-in_err-end : goal.returns-in_err-end
unfolding bytes read_header
returns-in_err-end c = c.from_residual.ensures ∙ line-missing c.requires _ (then-bad _ _ _ c.in_err-end.ensures)

pub returns-in_err-p : goal.returns-in_err-p
unfolding bytes read_header
returns-in_err-p c =
    let order = c.in_ok-end.ensures.1 in
    c.from_residual-in_err-p.ensures ∙ line-missing c.requires _ (then-got _ _ _ order.reads ∙ then-bad _ _ _ c.in_err-p.ensures)

pub returns-in_err-n : goal.returns-in_err-n
unfolding bytes read_header
returns-in_err-n c =
    let order = c.in_ok-end.ensures.1 in
    let steps = then-got _ _ _ order.reads ∙ then-got _ _ _ c.in_ok-p.ensures.reads ∙ then-bad _ _ _ c.in_err-n.ensures in
    c.from_residual-in_err-n.ensures ∙ line-missing c.requires _ steps

pub returns : goal.returns
unfolding bytes pure read_header
returns c =
    let order = c.in_ok-end.ensures.1 in
    let last = c.in_ok-n.ensures in
    let steps = then-got _ _ _ order.reads ∙ then-got _ _ _ c.in_ok-p.ensures.reads ∙ then-got _ _ _ last.reads in
    line-found c.requires _ steps last.inside (header-kind c.args.text.now _ c.args.at 0 _ _ c.requires.inside order)
