-- `list_irreducibles` meets its contract. The loop's invariant: the monomials before m are listed, in rising order.
use Prim.Native.Nat.{◌-◌}
use lib.ListN.{length}
use Rattle.monomial.specs.Orders.{variables}
use Rattle.lines.specs.Sizes.{most_standard}
use Rattle.staircase.specs.Leads.{lead_monomials, multiple}
use Rattle.staircase.proofs.Collecting.{Collected}
use Rattle.staircase.proofs.irreducible.list_irreducibles.Given as goal

abbrev pub invariant-loop-m : goal.invariant-loop-m
invariant-loop-m l = Collected l.n (variables l.n) (multiple l.n (lead_monomials l.n l.leads)) l.l.items l.m

abbrev pub decreases-loop-m : goal.decreases-loop-m
decreases-loop-m l = most_standard - length l.l.items
