-- `check_next` meets its contract.
use Prim.Native.Nat.{ℕ}
use mathlib.Core.Path.{◌≡◌, refl, sym, ◌∙◌}
use mathlib.Core.Logic.{inl, inr}
use mathlib.Core.Option.{none}
use native.Mathlib.Omega.{arith}
use lib.ListN.{take}
use Rattle.std.proofs.lemmas.Result.{err_from_is_err_and}
use Rattle.monomial.specs.Rows.{Row}
use Rattle.monomial.specs.Orders.{grevlex}
use Rattle.monomial.specs.Represented.{row, monomial}
use Rattle.monomial.specs.declared.Monomial.{Monomial}
use Rattle.monomial.proofs.Places.{row-monomial}
use Rattle.answer.specs.Outcomes.{pass}
use Rattle.lines.specs.Terms.{Term}
use Rattle.checks.specs.Checks.{check_term}
use Rattle.checks.proofs.GoodLines.{passes-term}
use Rattle.checks.proofs.Sequence.{none-not-some, refuse-map, refuse-pass}
use Rattle.checks.proofs.term.check_next.Goals.{In_ok-check_term}
use Rattle.checks.proofs.term.check_next.Goals as goal

-- The rows of two monomials, compared.
grevlex-rows : (n : ℕ) (a : Row n) {b k : Row n} {m : Monomial} → m ≡ monomial n a → b ≡ k → grevlex n a b ≡ grevlex n (row n m) k
grevlex-rows n a p q = rw (p, row-monomial, q)

abbrev term : In_ok-check_term → Term
term c = let a = c.args in (a.term.coefficient, take a.n a.term.row)

passes : (c : In_ok-check_term) → check_term c.args.p (term c) pass none
passes c = c.in_ok-check_term.ensures

pub returns-then-j-ge-MAX_TERMS : goal.returns-then-j-ge-MAX_TERMS
returns-then-j-ge-MAX_TERMS c b e = inl (omega arith, refl)

pub returns-in_err-check_term : goal.returns-in_err-check_term
returns-in_err-check_term c b e =
    let q = err_from_is_err_and c.from_residual.result c.from_residual.ensures.1 in
    rw (q.1, q.2) (inr (λ h. omega arith, refuse-map (refuse-map (λ h. none-not-some (sym h))) c.in_err-check_term.ensures))

pub monomial_of-requires : goal.monomial_of-requires
monomial_of-requires c =
    let k = (goal.at.monomial_of-requires c).In_ok-check_term in
    (passes-term _ (term k) (passes k)).0.2

pub returns-in-Less : goal.returns-in-Less
returns-in-Less c b e =
    let less = grevlex-rows _ _ c.monomial_of.ensures e ∙ sym c.compare_grevlex.ensures ∙ c.in-Less.is in
    inr (λ h. omega arith, refuse-pass (refuse-pass (λ h. inr (λ n. n less, refl))) (passes (goal.at.returns-in-Less c).In_ok-check_term))

pub returns-in_default : goal.returns-in_default
returns-in_default c b e =
    let compared = c.compare_grevlex.ensures ∙ sym (grevlex-rows _ _ c.monomial_of.ensures e) in
    inr (
      λ h. omega arith,
      refuse-pass (refuse-pass (λ h. inl (λ g. c.in_default.not-Less (compared ∙ g), refl))) (passes (goal.at.returns-in_default c).In_ok-check_term),
    )
