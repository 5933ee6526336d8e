-- `enumerate` meets its contract. The loop's invariant: the state stands for lines and standard monomials of the theory, and m is the next to visit.
use Prim.Native.Nat.{◌+◌, ◌*◌, ◌-◌}
use lib.ListN.{length, take}
use Rattle.lines.specs.Sizes.{most_standard}
use Rattle.fglm.proofs.FirstMonomials.{FirstOf}
use Rattle.fglm.proofs.EnumerationLoop.{Enumerating}
use Rattle.fglm.proofs.enumeration.enumerate.Given as goal

abbrev pub invariant-loop-m : goal.invariant-loop-m
invariant-loop-m l =
    Enumerating l.reciprocals l.n (take l.n l.ranking.variables) l.irreducibles l.tables l.rows l.images.items l.ranks.items l.lex.lines.items (take l.count l.lex.standard.items)
    l.leads.items l.m × FirstOf l.count l.lex.standard.items

abbrev pub decreases-loop-m : goal.decreases-loop-m
decreases-loop-m l =
    l.n * most_standard + 1 - (length l.leads.items + l.count)
