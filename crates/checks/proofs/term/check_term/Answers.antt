-- `check_term` meets its contract.
use mathlib.Core.Path.{refl, sym, ◌∙◌}
use mathlib.Core.Bool.{false≢true}
use mathlib.Core.Logic.{inl, inr}
use native.Mathlib.Omega.{arith}
use borrow.Author.Tests.{leb-false}
use Rattle.checks.proofs.term.check_term.Goals.{then-coefficient-lt1-via-then-coefficient-lt1, then-coefficient-lt1-via-else-coefficient-lt1+then-p-coefficient}
use Rattle.checks.proofs.term.check_term.Goals as goal

pub returns-then-coefficient-lt1 : goal.returns-then-coefficient-lt1
returns-then-coefficient-lt1 c = inl (
  λ h. elim c.then-coefficient-lt1.branch [
    | then-coefficient-lt1-via-then-coefficient-lt1 w ↦ omega (arith, w.if-coefficient-lt1.true)
    | then-coefficient-lt1-via-else-coefficient-lt1+then-p-coefficient w ↦ omega (arith, w.if-p-coefficient.true)
  ],
  refl,
)

pub returns-then-not-small_exponents : goal.returns-then-not-small_exponents
returns-then-not-small_exponents c =
    inr (λ h. h (omega arith, omega (arith, leb-false)), inl (λ h. false≢true (sym c.if-not-small_exponents.true ∙ c.small_exponents.ensures.1 h), refl))

pub returns : goal.returns
returns c =
    let small = c.small_exponents.ensures.0 c.if-not-small_exponents.false in
    inr (λ h. h (omega arith, omega (arith, leb-false)), inr (λ h. h small, refl))
