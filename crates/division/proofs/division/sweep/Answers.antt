-- `sweep` meets its contract. The loop's invariant: the array is divided down to m.
use mathlib.Core.Path.{sym, ◌∙◌}
use native.Mathlib.Omega.{arith}
use borrow.Author.Tests.{eqb-true, eqb-false}
use Rattle.monomial.specs.Represented.{row}
use Rattle.division.proofs.AddedTerms.{work-held}
use Rattle.division.proofs.BasisSystem.{FirstDivisor, first-line, no-line}
use Rattle.division.proofs.ClearedMonomials.{clears-idle, clears-subtracted, clears-stuck}
use Rattle.division.proofs.SweptArrays.{swept-start, swept-low, swept-place, swept-turn, swept-true, swept-false}
use Rattle.division.proofs.division.sweep.Goals.{In-Some}
use Rattle.division.proofs.division.sweep.Goals as goal

-- The earliest line that divides the monomial of this turn.
first : (c : In-Some) → FirstDivisor c.args.basis.now (row c.args.basis.now.n c.before-m.result) c.in-Some.k
first c = first-line _ _ _ (rw (c.deref.ensures.0, c.leads_of-leads.ensures) at (sym c.earliest.ensures ∙ c.in-Some.is))

pub loop-at-init : goal.loop-at-init
loop-at-init c = swept-start c.requires c.place-at.ensures.value

pub returns-in_default : goal.returns-in_default
returns-in_default c =
    let s = c.loop-at.invariant in
    let e = c.before-m.ensures in
    let none = no-line c.args.basis.now _ (rw (c.deref.ensures.0, c.leads_of-leads.ensures) at (sym c.earliest.ensures ∙ c.in_default.is)) in
    swept-false s _ e (clears-stuck _ _ (swept-place s _ e) (eqb-false _ _ (sym c.is_zero.ensures ∙ c.if-not-is_zero.true)) none)

pub generator_at-g-requires : goal.generator_at-g-requires
generator_at-g-requires c = (first (goal.at.generator_at-g-requires c).In-Some).within

pub add_line-requires : goal.add_line-requires
add_line-requires c =
    let s = c.loop-at.invariant in
    let f = first (goal.at.add_line-requires c).In-Some in
    rw c.generator_at-g.ensures (
      s.sound.lines _ f.within,
      record { work = work-held s.work; residue = c.neg.ensures.1; low = swept-low s _ c.before-m.ensures },
      f.here,
    )

pub loop-at-preserved-then-not-is_zero : goal.loop-at-preserved-then-not-is_zero
loop-at-preserved-then-not-is_zero c =
    let s = c.loop-at.invariant in
    let e = c.before-m.ensures in
    let f = first (goal.at.loop-at-preserved-then-not-is_zero c).In-Some in
    let added = rw c.generator_at-g.ensures at c.add_line.ensures in
    swept-turn s _ e (clears-subtracted _ _ (swept-place s _ e) _ c.neg.ensures.0 f added)

pub loop-at-preserved : goal.loop-at-preserved
loop-at-preserved c =
    let s = c.loop-at.invariant in
    let e = c.before-m.ensures in
    swept-turn s _ e (clears-idle _ _ (swept-place s _ e) (eqb-true _ _ (sym c.is_zero.ensures ∙ c.if-not-is_zero.false)))

pub returns : goal.returns
returns c = swept-true c.loop-at.invariant (omega arith)
