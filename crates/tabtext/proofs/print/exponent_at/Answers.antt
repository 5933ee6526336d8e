-- `print::exponent_at` meets its contract.
use mathlib.Core.Path.{sym, ◌∙◌, ap}
use native.Mathlib.Omega.{arith}
use Rattle.monomial.specs.Rows.{exponent}
use Rattle.lines.specs.LineTerms.{exponents_of}
use Rattle.lines.proofs.AsRow.{exponent-as_row, as_row-exponents}
use Rattle.tabtext.proofs.print.exponent_at.Goals as goal

pub returns : goal.returns
returns c =
    let a = c.args in (
      λ n h.
          c.from.ensures ∙ c.exponent.ensures n h ∙ ap (λ e. exponent n e a.i) (sym (as_row-exponents n a.m))
          ∙ exponent-as_row n a.i (exponents_of n a.m) h,
      omega (arith, c.from.ensures),
    )
