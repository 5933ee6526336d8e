-- `place` meets its contract. The loop's invariant: the sum and the place of the first i exponents.
use mathlib.Core.Path.{◌≡◌, refl, ◌∙◌, ap}
use Prim.Native.Nat.{◌≤◌, ◌<◌}
use native.Mathlib.Omega.{arith}
use borrow.Author.Rules.{rules}
use lib.ListN.{length}
use lib.Seq.{length-take-le, get_or-take}
use Rattle.lists.proofs.Elements.{length-mapped}
use Rattle.monomial.specs.Sizes.{most_variables}
use Rattle.monomial.specs.Rows.{exponent}
use Rattle.monomial.specs.Represented.{row}
use Rattle.monomial.specs.declared.Exponent.{Exponent}
use Rattle.division.proofs.Binomials.{space-value}
use Rattle.division.proofs.PlaceSums.{place-sum-start, place-sum-small, place-sum-bound, place-sum-turn, place-sum-stop, place-fits}
use Rattle.division.proofs.StoredExponent.{exponent-read}
use Rattle.division.proofs.grevlex.place.Goals.{After-count, After-from-sum}
use Rattle.division.proofs.grevlex.place.Goals as goal

few : (c : After-count) → c.count.result ≤ length c.args.m.e
few c =
    let size : length c.args.m.e ≡ most_variables = search (length-mapped, rules) in
    omega arith

-- The exponent of this turn's variable.
within : (c : After-from-sum) → c.loop-i.i < c.args.n
within c = omega (arith, length-take-le _ _ (few (goal.at.After-from-sum c).After-count))

value : (c : After-from-sum) → c.from-sum.result ≡ exponent c.args.n (row c.args.n c.args.m) c.loop-i.i
value c =
    let h = within c in
    let t : c.loop-i.i < c.count.result = omega arith in
    c.from-sum.ensures ∙ ap (λ (x : Exponent). x.0) (get_or-take c.count.result c.args.m.e c.loop-i.i (record { 0 = 0 }) t)
    ∙ exponent-read c.args.n c.loop-i.i c.args.m h

pub loop-i-init : goal.loop-i-init
loop-i-init c = place-sum-start _ _

pub overflow_add-sum : goal.overflow_add-sum
overflow_add-sum c = omega (arith, value c, place-sum-small _ _ (omega arith) c.requires _ _ _ c.loop-i.invariant (within c))

pub monomials_below-at-requires : goal.monomials_below-at-requires
monomials_below-at-requires c =
    let h = within c in
    (omega arith, omega (arith, value c, place-sum-small _ _ (omega arith) c.requires _ _ _ c.loop-i.invariant h))

pub overflow_add-at : goal.overflow_add-at
overflow_add-at c =
    let s = (goal.at.overflow_add-at c).After-from-sum in
    omega (arith, space-value, place-sum-bound _ _ (omega arith) c.requires _ _ _ c.loop-i.invariant (within s) _ _ _ refl (value s) c.monomials_below-at.ensures)

pub loop-i-preserved : goal.loop-i-preserved
loop-i-preserved c =
    let s = (goal.at.loop-i-preserved c).After-from-sum in
    place-sum-turn _ _ (omega arith) c.requires _ _ _ c.loop-i.invariant (within s) _ _ _ refl (value s) c.monomials_below-at.ensures

pub returns : goal.returns
returns c =
    let n = length-take-le _ _ (few (goal.at.returns c).After-count) in
    let e = place-sum-stop _ _ _ _ _ c.loop-i.invariant (omega arith) in
    record { value = e; inside = omega (arith, e, place-fits _ _ (omega arith) c.requires) }
