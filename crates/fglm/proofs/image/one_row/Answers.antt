-- `one_row` meets its contract.
use mathlib.Core.Path.{◌∙◌, ap, subst}
use native.Mathlib.Omega.{arith}
use Rattle.monomial.specs.Rows.{one}
use Rattle.monomial.specs.Represented.{row}
use Rattle.staircase.specs.Listed.{listed, Place}
use Rattle.staircase.proofs.ArrayRows.{row-one, rows-length}
use Rattle.fglm.specs.ImageRows.OneRow.{one_at, no_one}
use Rattle.fglm.proofs.image.one_row.Goals.{After-place_of}
use Rattle.fglm.proofs.image.one_row.Goals as goal

-- The place of 1.
place : (c : After-place_of) → let a = c.args in Place a.n (listed a.n a.irreducibles.now) (one a.n) c.place_of.result
place c =
    let a = c.args in
    subst (λ m. Place a.n (listed a.n a.irreducibles.now) m c.place_of.result)
    (ap (row a.n) c.one.ensures ∙ row-one a.n) c.place_of.ensures

pub returns-in-Some : goal.returns-in-Some
returns-in-Some c =
    let p = rw c.in-Some.is at (place (goal.at.returns-in-Some c).After-place_of) in
    one_at _ p (c.unit.ensures.place (omega (arith, p.within, rows-length c.args.n c.args.irreducibles.now)))

pub returns-in-None : goal.returns-in-None
returns-in-None c = no_one (rw c.in-None.is at (place (goal.at.returns-in-None c).After-place_of)) c.zero.ensures
