-- `list_irreducibles` meets its contract. The loop's invariant: the monomials before m are listed, in rising order.
use mathlib.Core.Path.{◌≡◌}
use native.Mathlib.Omega.{arith}
use lib.ListN.{take}
use Rattle.monomial.specs.Orders.{variables}
use Rattle.groebner.proofs.Next.{variables-ranking}
use Rattle.std.specs.Prelude.{Some}
use Rattle.staircase.specs.Leads.{lead_monomials, multiple}
use Rattle.staircase.proofs.Collecting.{Collected, collected-none, collected-small, collected-more, collected-full, collected-all}
use Rattle.staircase.proofs.irreducible.list_irreducibles.Goals.{At-loop-m, In-Some}
use Rattle.staircase.proofs.irreducible.list_irreducibles.Goals as goal

ranking : (c : At-loop-m) → let n = c.args.n in take n c.x1_to_xn-ranking.result.variables ≡ variables n
ranking c = c.x1_to_xn-ranking.ensures _ c.requires.most

-- The next monomial is found.
so_far : (c : In-Some) → let a = c.args in Collected a.n (variables a.n) (multiple a.n (lead_monomials a.n a.leads.now)) c.loop-m.l.items (Some c.in-Some.v)
so_far c = rw c.in-Some.is at c.loop-m.invariant

pub loop-m-init : goal.loop-m-init
loop-m-init c = rw (c.new-l.ensures, c.then_some-m.ensures) (collected-none (omega arith) c.one-one.ensures _ c.multiple.ensures)

pub returns-then-full : goal.returns-then-full
returns-then-full c = (collected-full (so_far (goal.at.returns-then-full c).In-Some) (omega arith), tt)

pub next-m-requires : goal.next-m-requires
next-m-requires c =
    let s = so_far (goal.at.next-m-requires c).In-Some in
    (rw (ranking (goal.at.next-m-requires c).At-loop-m) (variables-ranking _), s.held, collected-small s)

pub loop-m-preserved : goal.loop-m-preserved
loop-m-preserved c =
    rw c.push.ensures.items (collected-more (so_far (goal.at.loop-m-preserved c).In-Some) _ (omega arith) (ranking (goal.at.loop-m-preserved c).At-loop-m) c.next-m.ensures)

pub returns : goal.returns
returns c = (collected-all (rw c.in_default.is at c.loop-m.invariant), c.loop-m.invariant.room)
