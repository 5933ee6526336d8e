-- `fill` meets its contract. The loop's invariant: the rows below the cursors are filled, and the ranks of the next products are held.
use mathlib.Core.Path.{refl, sym, subst}
use Prim.Native.Nat.{◌<◌}
use lib.ListN.{length, get_or, take, replicate}
use native.Mathlib.Omega.{arith}
use Rattle.lists.proofs.Storing.{zeros-at}
use Rattle.monomial.specs.Sizes.{most_variables}
use Rattle.monomial.specs.Ranks.{FirstRank, NextRank}
use Rattle.monomial.proofs.RankPlaces.{variables-bounded}
use Rattle.lines.specs.Sizes.{most_standard}
use Rattle.staircase.proofs.LineElements.{generator-read}
use Rattle.multiplication.proofs.NewRows.{RowFor}
use Rattle.multiplication.proofs.NextProducts.{cursor, Nexts, nexts-first}
use Rattle.multiplication.proofs.AllRows.{room-less}
use Rattle.multiplication.proofs.FillLoop.{Prepared, prepared, fill_start, fill-bounded, fill-inside, fill-place, fill-product, fill-line, fill-led, fill-distinct, all-bounded, fill-through, fill-made, fill-turn, fill_stop}
use Rattle.multiplication.proofs.fill.fill.Goals.{After-put_first_ranks, After-next_place, After-rank_place, After-put_variable_ranks, In-Some, In-Some-rank_place, Joined-rank_place, Start, in-None, in-Some-rank_place}
use Rattle.multiplication.proofs.fill.fill.Goals as goal

-- What is known when the loop begins.
known : (c : After-put_variable_ranks) → Prepared c.args.basis.now c.args.irreducibles.now c.ranks_of-ranks.result.items c.put_variable_ranks.new.ranks c.ranks_of-lead_ranks.result.items
known c = prepared c.requires.1 c.ranks_of-ranks.ensures c.put_variable_ranks.ensures (rw (c.deref.ensures.0, c.leads_of-leads.ensures) at c.ranks_of-lead_ranks.ensures)

pub put_first_ranks-requires : goal.put_first_ranks-requires
put_first_ranks-requires c =
    let ranked = (known (goal.at.put_first_ranks-requires c).After-put_variable_ranks).ranked in
    (refl, ranked.variables.many, variables-bounded _ ranked.listing.variables ranked.variables, rw c.deref-2.ensures.0 (all-bounded ranked))

-- The ranks of the first products.
firsts : (c : After-put_first_ranks) → let a = c.args in
    Nexts a.basis.now.n a.irreducibles.now (record { at = replicate most_variables 0 }) c.put_first_ranks.new.next
firsts c =
    let ranked = (known (goal.at.After-put_first_ranks c).After-put_variable_ranks).ranked in
    nexts-first _ _ ranked.size ranked.ranks ranked.variables (λ i. zeros-at most_variables i 0) (rw c.deref-2.ensures.0 at c.put_first_ranks.ensures)

pub loop-i-init : goal.loop-i-init
loop-i-init c = fill_start (known (goal.at.loop-i-init c).After-put_variable_ranks) c.requires.0 refl (firsts (goal.at.loop-i-init c).After-put_first_ranks)

pub next_place-requires : goal.next_place-requires
next_place-requires c = rw c.count.ensures.value (fill-bounded c.loop-i.invariant)

-- The place of the least of the ranks.
least : (c : After-next_place) → let front = take c.args.basis.now.n c.loop-i.next in NextRank front 1 c.next_place.result (length front)
least c = rw c.count.ensures.value at c.next_place.ensures

-- The variable and the place of the row that is filled.
bounds : (c : In-Some) → let i = c.in-Some.i in (i < c.args.basis.now.n) × (i < most_variables) × (cursor c.loop-i.c i < most_standard)
bounds c = fill-place c.loop-i.invariant (least (goal.at.In-Some c).After-next_place) c.in-Some.is

pub offset_bounds-c-i : goal.offset_bounds-c-i
offset_bounds-c-i c = omega (arith, bounds c)

pub bounds-c-i : goal.bounds-c-i
bounds-c-i c = (bounds c).1

pub offset_bounds-next-i : goal.offset_bounds-next-i
offset_bounds-next-i c = omega (arith, bounds (goal.at.offset_bounds-next-i c).In-Some)

pub bounds-next-i : goal.bounds-next-i
bounds-next-i c = omega (arith, bounds (goal.at.bounds-next-i c).In-Some, c.loop-i.invariant.nexts.size)

-- The place of the product's rank among those of the leading monomials.
found : (c : After-rank_place) → let gs = c.ranks_of-lead_ranks.result.items in FirstRank gs (length gs) (get_or c.loop-i.next c.in-Some.i 0) c.rank_place.result
found c = rw c.deref-in-Some.ensures.0 at c.rank_place.ensures

-- The line that leads with the product is one of the basis.
led : (c : In-Some-rank_place) → c.in-Some-rank_place.k < length c.args.basis.now.lines.items
led c = fill-line c.loop-i.invariant (least (goal.at.In-Some-rank_place c).After-next_place) c.in-Some.is (found (goal.at.In-Some-rank_place c).After-rank_place) c.in-Some-rank_place.is

pub offset_bounds-deref-k : goal.offset_bounds-deref-k
offset_bounds-deref-k c = omega (arith, led (goal.at.offset_bounds-deref-k c).In-Some-rank_place, c.loop-i.invariant.known.given.sound.few)

pub bounds-deref-k : goal.bounds-deref-k
bounds-deref-k c = rw c.deref-in-Some-rank_place.ensures.0 (led (goal.at.bounds-deref-k c).In-Some-rank_place)

pub tail_row-row-requires : goal.tail_row-row-requires
tail_row-row-requires c =
    let k = c.loop-i.invariant.known in
    let sound = k.given.sound in
    let at = led (goal.at.tail_row-row-requires c).In-Some-rank_place in
    let read = generator-read c.args.basis.now _ c.deref-in-Some-rank_place.ensures.0 (rw c.deref-in-Some-rank_place.ensures.0 at) c.index-deref-k.is c.deref-in-Some-rank_place-3.ensures.0 in
    (rw (read, c.new-field.ensures) (sound.lines _ at), rw c.deref-in-Some-rank_place-2.ensures.0 (omega (arith, k.ranked.size, k.given.irreducibles.few)))

pub row_for-row-requires : goal.row_for-row-requires
row_for-row-requires c =
    let inv = c.loop-i.invariant in
    let next = (least (goal.at.row_for-row-requires c).After-next_place) in
    let is = c.in-Some.is in (
      rw c.new-field.ensures inv.filling.below,
      rw c.deref-in-None.ensures.0 inv.known.ranked,
      fill-product inv next is,
      fill-through inv next is (found (goal.at.row_for-row-requires c).After-rank_place) c.in-None.is,
    )

-- The row that is stored.
row : (c : Joined-rank_place) → RowFor c.args.basis.now c.args.irreducibles.now c.loop-i.tables c.in-Some.i (cursor c.loop-i.c c.in-Some.i) c.match-rank_place.row
row c =
    let inv = c.loop-i.invariant in
    let next = (least (goal.at.Joined-rank_place c).After-next_place) in
    let some = c.in-Some.is in
    let place = found (goal.at.Joined-rank_place c).After-rank_place in
    let is = RowFor c.args.basis.now c.args.irreducibles.now c.loop-i.tables c.in-Some.i (cursor c.loop-i.c c.in-Some.i) in
    elim c.match-rank_place.branch [
      | in-Some-rank_place w ↦
          let s = w.in-Some-rank_place.is in
          let at = fill-line inv next some place s in
          let read = generator-read c.args.basis.now _ w.deref-in-Some-rank_place.ensures.0 (rw w.deref-in-Some-rank_place.ensures.0 at) w.index-deref-k.is w.deref-in-Some-rank_place-3.ensures.0 in
          subst is (sym w.row-is)
          (fill-led inv next some place s (rw (read, c.new-field.ensures) at ((rw w.deref-in-Some-rank_place-2.ensures.0 at w.tail_row-row.ensures) _ (fill-distinct inv))))
      | in-None w ↦ subst is (sym w.row-is) (fill-made inv next some place w.in-None.is (rw c.new-field.ensures at w.row_for-row.ensures))
    ]

pub put-requires : goal.put-requires
put-requires c = let (_, hi, hs) = bounds (goal.at.put-requires c).In-Some in (hi, hs)

pub overflow_add-c : goal.overflow_add-c
overflow_add-c c = omega (arith, bounds (goal.at.overflow_add-c c).In-Some)

pub offset_bounds-c-i-in-Some : goal.offset_bounds-c-i-in-Some
offset_bounds-c-i-in-Some c = omega (arith, bounds (goal.at.offset_bounds-c-i-in-Some c).In-Some)

pub bounds-c-i-in-Some : goal.bounds-c-i-in-Some
bounds-c-i-in-Some c = (bounds (goal.at.bounds-c-i-in-Some c).In-Some).1

pub offset_bounds-variables-i : goal.offset_bounds-variables-i
offset_bounds-variables-i c = omega (arith, bounds (goal.at.offset_bounds-variables-i c).In-Some)

pub bounds-variables-i : goal.bounds-variables-i
bounds-variables-i c = omega (arith, bounds (goal.at.bounds-variables-i c).In-Some)

pub overflow_add-s : goal.overflow_add-s
overflow_add-s c = omega (arith, bounds (goal.at.overflow_add-s c).In-Some)

pub product_rank-requires : goal.product_rank-requires
product_rank-requires c =
    let ranked = c.loop-i.invariant.known.ranked in
    let n = ranked.listing.variables in
    (rw c.deref-in-Some-2.ensures.0 (all-bounded ranked), variables-bounded _ n ranked.variables _ (bounds (goal.at.product_rank-requires c).In-Some).0)

pub offset_bounds-next-i-in-Some : goal.offset_bounds-next-i-in-Some
offset_bounds-next-i-in-Some c = omega (arith, bounds (goal.at.offset_bounds-next-i-in-Some c).In-Some)

pub bounds-next-i-in-Some : goal.bounds-next-i-in-Some
bounds-next-i-in-Some c = omega (arith, bounds (goal.at.bounds-next-i-in-Some c).In-Some, c.loop-i.invariant.nexts.size)

pub loop-i-smaller : goal.loop-i-smaller
loop-i-smaller c =
    let inv = c.loop-i.invariant in
    room-less _ _ _ (omega (arith, inv.filling.cursors, bounds (goal.at.loop-i-smaller c).In-Some)) (fill-inside inv (least (goal.at.loop-i-smaller c).After-next_place) c.in-Some.is)

pub loop-i-preserved : goal.loop-i-preserved
loop-i-preserved c =
    fill-turn c.loop-i.invariant (least (goal.at.loop-i-preserved c).After-next_place) c.in-Some.is (rw c.deref-in-Some-2.ensures.0 at c.product_rank.ensures) (row (goal.at.loop-i-preserved c).Joined-rank_place) c.put.ensures

pub returns : goal.returns
returns c = fill_stop c.loop-i.invariant (least (goal.at.returns c).After-next_place) c.in_default.is
