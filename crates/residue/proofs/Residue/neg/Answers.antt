-- `Residue::neg` meets its contract: the residue is 0 for 0, and p - a for any other a.
use mathlib.Core.Path.{sym, ◌∙◌}
use native.Mathlib.Omega.{arith}
use borrow.Author.Tests.{eqb-true, eqb-false}
use Rattle.residue.proofs.Reductions.{negation-zero, negation-above}
use Rattle.residue.proofs.Residue.neg.Goals as goal

pub returns-then-is_zero : goal.returns-then-is_zero
returns-then-is_zero c = (negation-zero _ _ (eqb-true _ _ (sym c.is_zero.ensures ∙ c.if-is_zero.true)), omega arith)

pub returns-else-is_zero : goal.returns-else-is_zero
returns-else-is_zero c =
    let above_zero = eqb-false _ _ (sym c.is_zero.ensures ∙ c.if-is_zero.false) in
    (negation-above _ _ c.requires above_zero, omega (arith, above_zero))
