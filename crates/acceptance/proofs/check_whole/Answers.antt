-- `check_whole` meets its contract (proofs/WholeChecks.antt).
use Rattle.staircase.specs.Leads.{LeadsOf}
use Rattle.staircase.proofs.LineLeads.{leads-held}
use Rattle.acceptance.proofs.WholeChecks.{says-refused, whole-divided, whole-not-zero-dimensional, leads-pass}
use Rattle.acceptance.proofs.check_whole.Goals.{After-leads_of-leads}
use Rattle.acceptance.proofs.check_whole.Goals as goal

-- The leading monomials of the basis.
leads-are : (c : After-leads_of-leads) → LeadsOf c.args.basis.now c.leads_of-leads.result.items
leads-are c = rw c.leads_of-leads.ensures (leads-held c.args.basis.now)

pub first_divided-requires : goal.first_divided-requires
first_divided-requires c = (c.requires.1, rw c.deref.ensures.0 (leads-are (goal.at.first_divided-requires c).After-leads_of-leads))

pub returns-in-Some : goal.returns-in-Some
returns-in-Some c = rw c.at.ensures (says-refused _ _ _ (whole-divided _ _ c.in-Some.ensures))

pub returns-then-not-zero_dimensional : goal.returns-then-not-zero_dimensional
returns-then-not-zero_dimensional c =
    let says = rw c.deref-2.ensures.0 at c.zero_dimensional.ensures in
    let clear = rw c.in_default.is at c.first_divided.ensures in
    let whole = whole-not-zero-dimensional _ _ (leads-are (goal.at.returns-then-not-zero_dimensional c).After-leads_of-leads) _ says clear c.if-not-zero_dimensional.true in
    rw c.at-then-not-zero_dimensional.ensures (says-refused _ _ _ whole)

pub check_irreducibles-requires : goal.check_irreducibles-requires
check_irreducibles-requires c =
    let (none, sound) = c.requires in
    let leading = leads-are (goal.at.check_irreducibles-requires c).After-leads_of-leads in
    let says = rw c.deref-2.ensures.0 at c.zero_dimensional.ensures in
    let clear = rw c.in_default.is at c.first_divided.ensures in
    let pass = leads-pass _ _ leading _ says clear c.if-not-zero_dimensional.false in
    (none, record { sound = sound; leading = rw c.deref-3.ensures.0 leading; pass = pass })
