-- `image_of` meets its contract.
use mathlib.Core.Path.{◌≡◌, sym, ◌∙◌, ap}
use Prim.Native.Nat.{◌<◌}
use native.Mathlib.Omega.{arith}
use lib.ListN.{length}
use Rattle.lists.proofs.EachElement.{each_at}
use Rattle.lists.proofs.Elements.{element-in}
use Rattle.monomial.specs.Rows.{product}
use Rattle.monomial.specs.Quotients.{variable}
use Rattle.monomial.specs.Represented.{row}
use Rattle.monomial.specs.FirstVariable.{VariableAt}
use Rattle.monomial.proofs.Variables.{first-none, first_some}
use Rattle.monomial.proofs.RankPlaces.{first-front}
use Rattle.staircase.specs.Listed.{listed, PlaceAt, Place}
use Rattle.staircase.proofs.ArrayRows.{rows-length}
use Rattle.staircase.proofs.RankedLists.{rank-place}
use Rattle.coordinates.specs.Vectors.{Below}
use Rattle.fglm.specs.ImageRows.{no_image}
use Rattle.fglm.proofs.RowImages.{divisor-place, image-one, image-product}
use Rattle.fglm.proofs.image.image_of.Goals.{After-over_variable-b, After-rank_place, After-unwrap-s, In-Some}
use Rattle.fglm.proofs.image.image_of.Goals as goal

-- The first variable of m.
first : (c : In-Some) → VariableAt c.args.n (row c.args.n c.args.m) c.in-Some.i
first c = c.first_variable.ensures.some _ c.in-Some.is

-- m is the variable times the quotient.
split : (c : After-over_variable-b) → let a = c.args in
    row a.n a.m ≡ product a.n (variable a.n c.in-Some.i) (row a.n c.over_variable-b.result)
split c = let n = c.args.n in
    first_some (first (goal.at.After-over_variable-b c).In-Some)
    ∙ ap (product n (variable n c.in-Some.i)) (sym c.over_variable-b.ensures)

-- The place of the quotient among the standard monomials.
found : (c : After-rank_place) → let a = c.args in
    Place a.n (listed a.n a.standard.now) (row a.n c.over_variable-b.result) c.rank_place.result
found c = rank-place _ c.requires.ranked (rows-length _ c.args.standard.now) c.rank.ensures _ (first-front c.args.ranks.now c.requires.ranked.many c.rank_place.ensures)

pub unwrap-s-requires : goal.unwrap-s-requires
unwrap-s-requires c =
    let at = goal.at.unwrap-s-requires c in
    divisor-place c.args.standard.now _ _ (first at.In-Some).within (split at.After-over_variable-b) c.requires.divisors (found c)

place : (c : After-unwrap-s) → let a = c.args in PlaceAt a.n (listed a.n a.standard.now) (row a.n c.over_variable-b.result) c.unwrap-s.result
place c = rw c.unwrap-s.ensures at (found (goal.at.After-unwrap-s c).After-rank_place)

inside : (c : After-unwrap-s) → c.unwrap-s.result < length c.args.standard.now
inside c = omega (arith, (place c).within, rows-length c.args.n c.args.standard.now)

pub returns-in_default : goal.returns-in_default
returns-in_default c = image-one c.args.field.prime.prime.above_one (first-none (c.first_variable.ensures.none c.in_default.is)) c.one_row.ensures

pub prove-unreachable-requires : goal.prove-unreachable-requires
prove-unreachable-requires c = omega (arith, (first (goal.at.prove-unreachable-requires c).In-Some).within)

-- So it is a place of an image.
imaged : (c : After-unwrap-s) → c.unwrap-s.result < length c.args.images.now
imaged c = omega (arith, inside c, c.requires.images_size)

pub offset_bounds-images-s : goal.offset_bounds-images-s
offset_bounds-images-s c = omega (arith, inside c, c.requires.standard_few)

pub bounds-images-s : goal.bounds-images-s
bounds-images-s c = imaged c

pub times_variable-requires : goal.times_variable-requires
times_variable-requires c =
    let g = c.requires in
    let at = goal.at.times_variable-requires c in (
      g.below,
      omega (arith, first at.In-Some),
      g.few,
      each_at (Below c.args.field.p) c.args.images.now g.images_below (element-in no_image c.args.images.now _ (imaged at.After-unwrap-s)),
    )

pub returns : goal.returns
returns c =
    let n = c.args.n in
    let at = goal.at.returns c in
    image-product _ _ (first at.In-Some).within (inside at.After-unwrap-s)
    (split at.After-over_variable-b ∙ ap (product n (variable n c.in-Some.i)) (sym (place at.After-unwrap-s).found)) c.times_variable.ensures
