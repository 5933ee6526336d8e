-- `enumerate` meets its contract. The loop's invariant: the state stands for lines and standard monomials of the theory, and m is the next to visit.
use Prim.Native.Nat.{ℕ, ◌+◌, ◌<◌}
use mathlib.Core.Path.{◌≡◌, refl, subst, ◌∙◌}
use mathlib.Core.List.{List, [], ◌∷◌, ◌++◌}
use Rattle.std.specs.Prelude.{Option, Some, None}
use Rattle.arrayvec.specs.ArrayVec.{ArrayVec}
use Rattle.monomial.specs.declared.Monomial.{Monomial}
use native.Mathlib.Omega.{arith}
use borrow.Author.Rules.{rules}
use lib.ListN.{length, take}
use Rattle.lists.proofs.Elements.{length-mapped}
use Rattle.lines.specs.Sizes.{most_standard}
use Rattle.lines.specs.Stored.{LinePut}
use Rattle.lines.specs.declared.line.LineTerm.{LineTerm}
use Rattle.lines.proofs.Places.{put-behind}
use Rattle.lines.proofs.Stored.{line-appended}
use Rattle.staircase.specs.Listed.{listed}
use Rattle.staircase.proofs.ArrayRows.{rows-length}
use Rattle.coordinates.specs.Vectors.{FullLength, FirstPlace}
use Rattle.coordinates.specs.declared.Coordinates.{Coordinates}
use Rattle.fglm.specs.ImageRows.{ImageRow}
use Rattle.fglm.specs.declared.elimination.Rows.{Rows}
use Rattle.fglm.proofs.Adding.{row_scaled}
use Rattle.fglm.proofs.FirstMonomials.{FirstOf, first-none, first-count, first-more, first-kept, cut-to}
use Rattle.fglm.proofs.ToldNumbers.{next-asks, next-gives, rank-gives}
use Rattle.fglm.proofs.EnumerationLoop as loop
use Rattle.fglm.proofs.EnumerationLoop.{Enumerating, VisitedOnce}
use Rattle.fglm.proofs.enumeration.enumerate.Goals.{After-image_of-w, After-push, After-set, At-loop-m, In-Some, In-Some-found, In_default-found, Start}
use Rattle.fglm.proofs.enumeration.enumerate.Goals as goal

size : (c : Start) → length (listed c.args.n c.args.irreducibles.now) ≡ length c.args.irreducibles.now
size c = rows-length _ c.args.irreducibles.now

-- The state at the loop's head.
abbrev State : At-loop-m → Option Monomial → Type 0
State c m = let a = c.args in let x = c.loop-m in
    Enumerating a.reciprocals a.n (take a.n a.ranking.variables) a.irreducibles.now a.tables.now
    x.rows x.images.items x.ranks.items x.lex.lines.items (take x.count x.lex.standard.items) x.leads.items m

-- The monomial to visit.
head : (c : In-Some) → State (goal.at.In-Some c).At-loop-m (Some c.in-Some.v)
head c = subst (State (goal.at.In-Some c).At-loop-m) c.in-Some.is c.loop-m.invariant.0

-- What holds after the visit.
abbrev Visited : In-Some → Rows → List Coordinates → (ranks : List ℕ) → List (ArrayVec LineTerm) → (standard leads : List Monomial) → Type 0
Visited c rows images ranks lines standard leads = let a = c.args in let x = c.loop-m in
    VisitedOnce a.reciprocals a.n (take a.n a.ranking.variables) a.irreducibles.now a.tables.now
    (length x.leads.items + length (take x.count x.lex.standard.items)) rows images ranks lines standard leads c.in-Some.v

whole : (c : After-image_of-w) → FullLength c.image_of-w.result
whole c = search (c.image_of-w.type_inv, length-mapped, rules)

-- Its entries come from the monomials before.
image : (c : After-image_of-w) → let a = c.args in
    ImageRow a.reciprocals.field.p a.n c.in-Some.v c.loop-m.images.items (take c.loop-m.count c.loop-m.lex.standard.items) a.tables.now a.irreducibles.now c.image_of-w.result
image c = rw (c.deref.ensures.0, c.deref-in-Some-2.ensures.0) at c.image_of-w.ensures

-- The vector has a pivot.
pivot : (c : In-Some-found) → FirstPlace c.residual-x.result.vector (Some c.in-Some-found.pivot)
pivot c = subst (FirstPlace _) c.in-Some-found.is c.found.ensures

at-pivot : (c : In-Some-found) → State (goal.at.In-Some-found c).At-loop-m (Some c.in-Some.v)
at-pivot c = head (goal.at.In-Some-found c).In-Some

-- It has none.
none : (c : In_default-found) → FirstPlace c.residual-x.result.vector None
none c = subst (FirstPlace _) c.in_default-found.is c.found.ensures

-- A line is written.
line : (c : After-push) → let x = c.loop-m in
    Visited (goal.at.After-push c).In-Some x.rows x.images.items x.ranks.items c.put_line.new.lines.items (take x.count x.lex.standard.items) c.push.new.self.items
line c =
    let at = goal.at.After-push c in
    let place : c.len.result ≡ length c.loop-m.lex.lines.items = omega (arith, c.len.ensures.value, (head at.In-Some).kept.line_count) in
    let appended : c.put_line.new.lines.items ≡ c.loop-m.lex.lines.items ++ (c.line_of.result ∷ []) =
    line-appended _ _ _ (subst (λ k. LinePut c.loop-m.lex.lines.items k c.line_of.result c.put_line.new.lines.items) place c.put_line.ensures) in
    rw (appended, c.push.ensures.items)
    (loop.after_line (head at.In-Some) (whole at.After-image_of-w) (image at.After-image_of-w) c.residual-x.ensures (none at.In_default-found) c.dependence.ensures
    (rw c.deref-in_default-found.ensures.0 at c.line_of.ensures))

-- There is room for one row and one standard monomial more.
rows-room : (c : In-Some-found) → c.loop-m.rows.used < most_standard
rows-room c = loop.rows-room (at-pivot c) (whole (goal.at.In-Some-found c).After-image_of-w) (image (goal.at.In-Some-found c).After-image_of-w) c.residual-x.ensures (pivot c)

room : (c : In-Some-found) → c.loop-m.count < most_standard
room c = omega (arith, rows-room c, (at-pivot c).kept.used, first-count c.loop-m.invariant.1)

-- They have as many images and ranks.
images : (c : In-Some-found) → length c.loop-m.images.items ≡ c.loop-m.count
images c = (at-pivot c).kept.images_size ∙ first-count c.loop-m.invariant.1

ranks : (c : In-Some-found) → length c.loop-m.ranks.items ≡ c.loop-m.count
ranks c = (at-pivot c).kept.ranked.size ∙ first-count c.loop-m.invariant.1

-- There is one standard monomial more.
standard : (c : After-set) → let x = c.loop-m in
    Visited (goal.at.After-set c).In-Some c.insert-rows.result c.put.new.list.items c.put-in-Some.new.list.items x.lex.lines.items (take (x.count + 1) c.set.new.self.items) x.leads.items
standard c =
    let at = goal.at.After-set c in
    let found = at.In-Some-found in
    let more = first-more c.loop-m.invariant.1 (room found) c.in-Some.v in
    let images-more : c.put.new.list.items ≡ c.loop-m.images.items ++ (c.image_of-w.result ∷ []) = c.put.ensures ∙ put-behind _ _ _ (omega (arith, images found)) in
    let ranks-more : c.put-in-Some.new.list.items ≡ c.loop-m.ranks.items ++ (c.rank.result ∷ []) = c.put-in-Some.ensures ∙ put-behind _ _ _ (omega (arith, ranks found)) in
    rw (images-more, ranks-more, c.set.ensures, more)
    (loop.after-standard (at-pivot found) (whole at.After-image_of-w) (image at.After-image_of-w) c.residual-x.ensures (pivot found)
    c.scaled.ensures c.insert-rows.ensures (rank-gives _ c.rank.ensures (omega arith)))

kept : (c : After-set) → FirstOf (c.loop-m.count + 1) c.set.new.self.items
kept c = rw c.set.ensures (first-kept c.loop-m.invariant.1 (room (goal.at.After-set c).In-Some-found) c.in-Some.v)

pub loop-m-init : goal.loop-m-init
loop-m-init c =
    let rows = c.none-rows in (
      loop.enumerating-start c.requires (size (goal.at.loop-m-init c).Start)
          c.new-images.ensures c.new-ranks.ensures c.clear.ensures refl c.new-leads.ensures rows.ensures
          (search (rows.type_inv, length-mapped, rules)) c.one.ensures,
      first-none c.blanks-lex.ensures,
    )

pub image_of-w-requires : goal.image_of-w-requires
image_of-w-requires c = let e = head (goal.at.image_of-w-requires c).In-Some in rw (c.deref.ensures.0, c.deref-in-Some.ensures.0, c.deref-in-Some-2.ensures.0) (record {
  few = e.given.few;
  below = e.given.below;
  standard_few = loop.standard-fits e;
  images_size = e.kept.images_size;
  images_below = e.kept.images_below;
  ranked = e.kept.ranked.of;
  divisors = loop.next-found e;
})

pub put_line-requires : goal.put_line-requires
put_line-requires c =
    let e = head (goal.at.put_line-requires c).In-Some in
    omega (arith, c.len.ensures.value, loop.next-lines e, loop.standard-fits e, e.kept.images_size)

pub push-requires : goal.push-requires
push-requires c = (omega arith, loop.next-lines (head (goal.at.push-requires c).In-Some))

pub next-m-requires : goal.next-m-requires
next-m-requires c = let e = head (goal.at.next-m-requires c).In-Some in
    (e.given.ranking, e.held, loop.next-exponents e)

pub loop-m-smaller-in_default-found : goal.loop-m-smaller-in_default-found
loop-m-smaller-in_default-found c =
    let at = goal.at.loop-m-smaller-in_default-found c in
    omega (arith, (line at.After-push).count, loop.next-few (head at.In-Some), first-count c.loop-m.invariant.1)

pub loop-m-preserved-in_default-found : goal.loop-m-preserved-in_default-found
loop-m-preserved-in_default-found c =
    (loop.onward (line (goal.at.loop-m-preserved-in_default-found c).After-push) (rw c.deref-in_default-found-2.ensures.0 at c.next-m.ensures), c.loop-m.invariant.1)

pub insert-rows-requires : goal.insert-rows-requires
insert-rows-requires c =
    let found = (goal.at.insert-rows-requires c).In-Some-found in
    ((at-pivot found).kept.sound, row_scaled _ c.residual-x.ensures (pivot found) c.scaled.ensures, rows-room found)

pub put-requires : goal.put-requires
put-requires c = let found = (goal.at.put-requires c).In-Some-found in (omega arith, omega (arith, room found, (pivot found).0))

pub put-requires-in-Some : goal.put-requires-in-Some
put-requires-in-Some c = let found = (goal.at.put-requires-in-Some c).In-Some-found in (omega arith, omega (arith, room found))

pub next-m-requires-in-Some : goal.next-m-requires-in-Some
next-m-requires-in-Some c = let e = at-pivot (goal.at.next-m-requires-in-Some c).In-Some-found in
    next-asks _ _ (e.given.ranking, e.held, loop.next-exponents e) (omega arith)

pub loop-m-smaller : goal.loop-m-smaller
loop-m-smaller c =
    let at = goal.at.loop-m-smaller c in
    omega (arith, (standard at.After-set).count, loop.next-few (at-pivot at.In-Some-found), first-count c.loop-m.invariant.1, first-count (kept at.After-set))

pub loop-m-preserved : goal.loop-m-preserved
loop-m-preserved c =
    let at = goal.at.loop-m-preserved c in
    (loop.onward (standard at.After-set) (next-gives _ _ _ (rw c.deref-in-Some-3.ensures.0 at c.next-m-in-Some.ensures) (omega arith)), kept at.After-set)

pub returns : goal.returns
returns c =
    let e = rw c.in_default.is at c.loop-m.invariant.0 in
    let first = first-count c.loop-m.invariant.1 in
    loop.enumerating-stop (rw (← cut-to {k = c.loop-m.count} _ c.truncate.ensures.items (omega (arith, first, e.kept.images_size))) at e)
