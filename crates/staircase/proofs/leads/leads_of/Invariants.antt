-- `leads_of` meets its contract. The loop's invariant: the leading monomials of the first lines are listed.
use mathlib.Core.Path.{◌≡◌}
use lib.ListN.{take}
use Rattle.staircase.specs.Leads.{leads_in}
use Rattle.staircase.proofs.leads.leads_of.Given as goal

abbrev pub invariant-loop-i : goal.invariant-loop-i
invariant-loop-i l = l.l.items ≡ take l.i (leads_in l.basis)
