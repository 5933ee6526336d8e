-- `row_for` meets its contract.
use mathlib.Core.Path.{subst}
use mathlib.Core.Logic.{by_cases}
use Prim.Native.Nat.{◌<◌}
use native.Mathlib.Decide.{dec_lt}
use native.Mathlib.Omega.{arith}
use lib.ListN.{length, get_or}
use Rattle.monomial.specs.Rows.{product}
use Rattle.monomial.specs.Quotients.{variable}
use Rattle.staircase.specs.Listed.{listed, listed_at, PlaceAt, Place}
use Rattle.staircase.proofs.ArrayRows.{rows-length}
use Rattle.multiplication.specs.Rules.MadeBy.{by_unit, by_product}
use Rattle.multiplication.proofs.ListPlaces.{list-place}
use Rattle.multiplication.proofs.RankQuotients.{product-short, product-greater}
use Rattle.multiplication.proofs.fill.row_for.Goals.{After-place_after, In-Some}
use Rattle.multiplication.proofs.fill.row_for.Goals as goal

place : (c : After-place_after) → let a = c.args in
    Place a.n (listed a.n a.irreducibles.now) (product a.n (variable a.n a.i) (listed_at a.n a.irreducibles.now a.place)) c.place_after.result
place c =
    let (_, ranked, of, _) = c.requires in
    list-place _ _ ranked.size ranked.ranks (of.rank, product-short ranked.listing c.args.place of.inside c.args.i of.within) _ c.place_after.ensures

placed : (c : In-Some) → let a = c.args in
    PlaceAt a.n (listed a.n a.irreducibles.now) (product a.n (variable a.n a.i) (listed_at a.n a.irreducibles.now a.place)) c.in-Some.k
placed c = rw c.in-Some.is at (place (goal.at.In-Some c).After-place_after)

pub place_after-requires : goal.place_after-requires
place_after-requires c =
    let (_, ranked, of, _) = c.requires in
    let at = c.args.place in
    let greater = product-greater ranked.listing at of.inside c.args.i of.within in
    let ranks = c.args.ranks.now in
    let above : get_or ranks at 0 < c.args.wanted = omega (arith, greater, of.rank, ranked.ranks.rank at of.inside) in
    let inside : at < length ranks = omega (arith, of.inside, ranked.size) in (
      ranked.rising,
      omega (arith, inside),
      λ k h. by_cases (dec_lt k at)
          (λ u. omega (arith, ranked.rising k at u inside, above))
          (λ u. subst (λ j. get_or ranks j 0 < c.args.wanted) (omega (arith, h, u)) above),
    )

pub returns-in-Some : goal.returns-in-Some
returns-in-Some c =
    let (_, ranked, _, _) = c.requires in
    let at = placed (goal.at.returns-in-Some c).In-Some in
    let inside : c.in-Some.k < length c.args.irreducibles.now = omega (arith, at.within, rows-length c.args.n c.args.irreducibles.now) in
    record {
      below = (c.unit.ensures.represents _ c.args.field.prime.prime.above_one).below;
      made = by_unit c.in-Some.k inside at.found (c.unit.ensures.place (omega (arith, inside, ranked.listing.few)));
    }

pub returns : goal.returns
returns c = record { below = c.product_row.ensures.multiplied.below; made = by_product c.product_row.ensures }
