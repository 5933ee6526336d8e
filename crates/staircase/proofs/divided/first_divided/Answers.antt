-- `first_divided` meets its contract. The loop's invariant: none of the first i lines has a monomial that another line's leading monomial divides.
use mathlib.Core.Path.{◌≡◌, sym, ap, subst}
use mathlib.Core.List.{List}
use native.Mathlib.Omega.{arith}
use borrow.Author.Count.{below_more}
use lib.ListN.{length}
use Rattle.lists.proofs.Testing.{denied}
use Rattle.lines.specs.declared.line.LineTerm.{LineTerm}
use Rattle.staircase.specs.Sound.{generator_at}
use Rattle.staircase.specs.Leads.{lead_monomials}
use Rattle.staircase.specs.Places.{DividedByAnother}
use Rattle.staircase.proofs.LineElements.{generator-read}
use Rattle.staircase.proofs.SmallestLine.{smallest-found, smallest-none}
use Rattle.staircase.proofs.DividedPlaces.{divided-of-basis}
use Rattle.staircase.proofs.divided.first_divided.Goals.{After-deref}
use Rattle.staircase.proofs.divided.first_divided.Goals as goal

pub loop-i-init : goal.loop-i-init
loop-i-init c = λ k h. absurd (omega arith)

-- The line that is read.
read : (c : After-deref) → c.deref.result.now ≡ generator_at c.args.basis.now c.loop-i.i
read c = generator-read c.args.basis.now c.loop-i.i c.deref-g-items.ensures.0 c.loop-i-test.true c.g-item.is c.deref.ensures.0

-- Another line's leading monomial divides a monomial of the line g at this place.
abbrev Says : (c : After-deref) → List LineTerm → Type 0
Says c = let a = c.args in DividedByAnother a.basis.now.n c.loop-i.i (lead_monomials a.basis.now.n a.leads.now)

pub overflow_add-result : goal.overflow_add-result
overflow_add-result c = omega (arith, c.deref-g-items.ensures.1)

pub returns-then-divided_by_another : goal.returns-then-divided_by_another
returns-then-divided_by_another c h =
    let at = (goal.at.returns-then-divided_by_another c).After-deref in
    smallest-found (divided-of-basis c.args.basis.now c.requires.0 _ c.requires.1 h) c.loop-i.i (omega (arith, ap length c.deref-g-items.ensures.0))
    (subst (Says at) (read at) (c.divided_by_another.ensures.0 c.if-divided_by_another.true)) c.loop-i.invariant

pub loop-i-preserved : goal.loop-i-preserved
loop-i-preserved c =
    let at = (goal.at.loop-i-preserved c).After-deref in
    below_more _ _ c.loop-i.invariant (λ q. denied c.divided_by_another.ensures c.if-divided_by_another.false (subst (Says at) (sym (read at)) q))

pub returns : goal.returns
returns c h =
    smallest-none (divided-of-basis c.args.basis.now c.requires.0 _ c.requires.1 h)
    (λ k l. c.loop-i.invariant k (omega (arith, ap length c.deref-g-items.ensures.0)))
