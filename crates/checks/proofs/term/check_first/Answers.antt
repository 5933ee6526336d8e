-- `check_first` meets its contract.
use mathlib.Core.Path.{refl, sym}
use mathlib.Core.Logic.{inl, inr}
use Rattle.std.proofs.lemmas.Result.{err_from_is_err_and}
use Rattle.checks.proofs.Sequence.{none-not-some, refuse-map, refuse-pass}
use Rattle.checks.proofs.term.check_first.Goals as goal

pub returns-in_err-check_term : goal.returns-in_err-check_term
returns-in_err-check_term c =
    let e = err_from_is_err_and c.from_residual.result c.from_residual.ensures.1 in
    rw (e.1, e.2) (refuse-map (refuse-map (λ h. none-not-some (sym h))) c.in_err-check_term.ensures)

pub returns-then-term-ne1 : goal.returns-then-term-ne1
returns-then-term-ne1 c =
    refuse-pass (refuse-pass (λ h. inl (c.if-term-ne1.true, refl))) c.in_ok-check_term.ensures

pub returns : goal.returns
returns c =
    refuse-pass (refuse-pass (λ h. inr (λ n. n c.if-term-ne1.false, refl))) c.in_ok-check_term.ensures
