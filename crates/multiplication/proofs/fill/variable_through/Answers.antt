-- `variable_through` meets its contract. The loop's invariant: none of the variables before x_j passes.
use Prim.Native.Nat.{◌<◌}
use mathlib.Core.Path.{◌≡◌, sym}
use borrow.Author.Count.{below_more}
use lib.ListN.{get_or}
use native.Mathlib.Omega.{arith}
use Rattle.monomial.specs.Rows.{exponent}
use Rattle.monomial.specs.Represented.{row}
use Rattle.monomial.proofs.Places.{exponent-row}
use Rattle.lists.proofs.Testing.{denied}
use Rattle.multiplication.proofs.fill.variable_through.Goals.{In-loop-j}
use Rattle.multiplication.proofs.fill.variable_through.Goals as goal

-- The exponent that is read.
is : (c : In-loop-j) → let a = c.args in (get_or a.m.e c.loop-j.j (record { 0 = 0 })).0 ≡ exponent a.n (row a.n a.m) c.loop-j.j
unfolding row
is c = let h : c.loop-j.j < c.args.n = omega arith in sym (exponent-row _ _ _ h)

pub is_detour-requires : goal.is_detour-requires
is_detour-requires c =
    let (_, rising, passes) = c.requires in
    (λ p. passes.least _ (omega arith) (rw (is (goal.at.is_detour-requires c).In-loop-j) at p), rising)

pub returns-then-is_detour : goal.returns-then-is_detour
returns-then-is_detour c =
    (omega arith, rw (is (goal.at.returns-then-is_detour c).In-loop-j) at (c.is_detour.ensures.0 c.if-is_detour.true))

pub loop-j-preserved : goal.loop-j-preserved
loop-j-preserved c =
    below_more _ _ c.loop-j.invariant (denied (rw (is (goal.at.loop-j-preserved c).In-loop-j) at c.is_detour.ensures) c.if-is_detour.false)
