-- `next` meets its contract. The loop's invariant: the variables of the ranking from place i on are cleared, and give no next monomial.
use Rattle.monomial.specs.Represented.{row}
use Rattle.staircase.specs.Leads.{lead_monomials, multiple}
use Rattle.staircase.proofs.Carries.{Cleared}
use Rattle.staircase.proofs.next.next.Given as goal

abbrev pub invariant-loop-i : goal.invariant-loop-i
invariant-loop-i l = Cleared l.n l.ranking.variables (multiple l.n (lead_monomials l.n l.leads)) (row l.n l.initial.r) l.r l.i
