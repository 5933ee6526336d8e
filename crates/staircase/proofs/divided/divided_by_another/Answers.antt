-- `divided_by_another` meets its contract. The loop's invariant: none of the first j, but at place i, divides a monomial of the line.
use mathlib.Core.Logic.Iff
use native.Mathlib.Omega.{arith}
use borrow.Author.Count.{below_more}
use Rattle.lists.proofs.Testing.{sought-found, sought-all, denied}
use Rattle.staircase.proofs.DividedPlaces.{divided-by-another-iff}
use Rattle.staircase.proofs.divided.divided_by_another.Goals.{else-other-via-then-other+else-divides_term, else-other-via-else-other}
use Rattle.staircase.proofs.divided.divided_by_another.Goals as goal

pub loop-j-init : goal.loop-j-init
loop-j-init c = λ k h. absurd (omega arith)

pub returns-then-divides_term : goal.returns-then-divides_term
returns-then-divides_term c =
    Iff.trans (sought-found c.loop-j.j (omega arith) (λ e. c.if-other.true (omega arith), c.divides_term.ensures.0 c.if-divides_term.true))
    (Iff.symm (divided-by-another-iff _ _ _ _))

pub loop-j-preserved : goal.loop-j-preserved
loop-j-preserved c = below_more _ _ c.loop-j.invariant (elim c.else-other.branch [
  | else-other-via-then-other+else-divides_term w ↦ λ (d, t). denied w.divides_term.ensures w.if-divides_term.false t
  | else-other-via-else-other w ↦ λ (d, t). d (omega arith)
])

pub returns : goal.returns
returns c = Iff.trans (sought-all c.loop-j.j (omega arith) c.loop-j.invariant) (Iff.symm (divided-by-another-iff _ _ _ _))
