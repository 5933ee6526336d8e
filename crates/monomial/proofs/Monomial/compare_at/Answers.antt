-- `Monomial::compare_at` meets its contract.
use Prim.Native.Nat.{ℕ}
use mathlib.Core.Path.{◌≡◌, ◌∙◌, ap₂, subst}
use native.Mathlib.Omega.{arith}
use Rattle.monomial.specs.Rows.{exponent}
use Rattle.monomial.specs.Represented.{row}
use Rattle.monomial.specs.Orders.{compared}
use Rattle.monomial.proofs.Comparisons.{compared-cmp}
use Rattle.monomial.proofs.Monomial.compare_at.Goals as goal

pub returns : goal.returns
returns c n h =
    let held : ℕ → Type 0 = λ v. c.exponent-2.result.0 ≡ exponent n (row n c.args.other) v in
    c.cmp.ensures ∙ compared-cmp _ _ ∙ ap₂ compared (c.exponent.ensures n h) (subst held (omega arith) (c.exponent-2.ensures n (omega arith)))
