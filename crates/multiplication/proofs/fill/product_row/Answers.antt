-- `product_row` meets its contract.
use mathlib.Core.Path.{◌≡◌, sym}
use Prim.Native.Nat.{◌+◌, ◌<◌}
use lib.ListN.{get_or}
use native.Mathlib.Omega.{arith}
use Rattle.monomial.specs.Sizes.{most_variables}
use Rattle.monomial.specs.Quotients.{quotient, variable}
use Rattle.monomial.specs.Ranks.{rank_of}
use Rattle.lines.specs.Sizes.{most_standard}
use Rattle.staircase.specs.Listed.{listed, listed_at, PlaceAt, Place}
use Rattle.staircase.proofs.ArrayRows.{rows-length, rows_at}
use Rattle.multiplication.proofs.ListPlaces.{list-place, place-some}
use Rattle.multiplication.specs.Passes.{Detour}
use Rattle.multiplication.proofs.RankQuotients.{quotient-short, quotient-rank, passes-by, some-passes}
use Rattle.multiplication.proofs.fill.product_row.Goals.{After-rank_place, After-unwrap-at, After-variable_through-j}
use Rattle.multiplication.proofs.fill.product_row.Goals as goal

passes_at : (c : After-variable_through-j) → let a = c.args in Detour a.n a.irreducibles.now (listed_at a.n a.irreducibles.now a.place) a.i c.variable_through-j.result
passes_at c =
    let (_, ranked, of, _) = c.requires in
    let (hj, by) = c.variable_through-j.ensures in
    (passes-by ranked of _ hj).0 (rw (sym (rows_at c.args.n c.args.irreducibles.now c.args.place)) at by)

-- The rank of B_s / x_j.
rank-at : (c : After-variable_through-j) → let a = c.args in let j = c.variable_through-j.result in
    rank_of a.n (quotient a.n (listed_at a.n a.irreducibles.now a.place) (variable a.n j)) + get_or a.variables.now j 0 ≡ get_or a.ranks.now a.place 0
rank-at c =
    let (_, ranked, of, _) = c.requires in
    let q = quotient-rank ranked.listing c.args.place of.inside _ (passes_at c).divisor in
    omega (arith, q, ranked.ranks.rank c.args.place of.inside, ranked.variables.rank _ c.variable_through-j.ensures.0)

found : (c : After-rank_place) → let a = c.args in let l = a.irreducibles.now in
    Place a.n (listed a.n l) (quotient a.n (listed_at a.n l a.place) (variable a.n c.variable_through-j.result)) c.rank_place.result
found c =
    let (_, ranked, of, _) = c.requires in
    list-place _ _ ranked.size ranked.ranks (omega (arith, rank-at (goal.at.After-rank_place c).After-variable_through-j), quotient-short ranked.listing c.args.place of.inside c.variable_through-j.result) _ c.rank_place.ensures

pub unwrap-at-requires : goal.unwrap-at-requires
unwrap-at-requires c = let (_, _, _, through) = c.requires in
    place-some _ _ _ (found c) (through.inside _ (passes_at (goal.at.unwrap-at-requires c).After-variable_through-j))

place_at : (c : After-unwrap-at) → let a = c.args in let l = a.irreducibles.now in
    PlaceAt a.n (listed a.n l) (quotient a.n (listed_at a.n l a.place) (variable a.n c.variable_through-j.result)) c.unwrap-at.result
place_at c = rw c.unwrap-at.ensures at (found (goal.at.After-unwrap-at c).After-rank_place)

-- The row of x_i·B_s / x_j has its place among the rows.
inside : (c : After-unwrap-at) → let a = c.args in (a.i < most_variables) × (c.unwrap-at.result < most_standard)
inside c =
    let (_, ranked, of, _) = c.requires in
    (omega (arith, of.within, ranked.listing.variables), omega (arith, (place_at c).within, rows-length c.args.n c.args.irreducibles.now, ranked.listing.few))

pub variable_through-j-requires : goal.variable_through-j-requires
variable_through-j-requires c =
    let (_, ranked, of, through) = c.requires in
    (ranked.variables.many, ranked.rising, rw (rows_at c.args.n c.args.irreducibles.now c.args.place) at (some-passes ranked of through))

pub overflow_sub-ranks : goal.overflow_sub-ranks
overflow_sub-ranks c = omega (arith, rank-at (goal.at.overflow_sub-ranks c).After-variable_through-j)

pub offset_bounds-tables-at : goal.offset_bounds-tables-at
offset_bounds-tables-at c = omega (arith, inside (goal.at.offset_bounds-tables-at c).After-unwrap-at)

pub bounds-tables-at : goal.bounds-tables-at
bounds-tables-at c = omega (arith, inside (goal.at.bounds-tables-at c).After-unwrap-at)

pub returns : goal.returns
returns c =
    record {
      by = c.variable_through-j.result;
      at = c.unwrap-at.result;
      within = c.variable_through-j.ensures.0;
      passes = passes_at (goal.at.returns c).After-variable_through-j;
      place = place_at (goal.at.returns c).After-unwrap-at;
      multiplied = c.times_variable.ensures;
    }
