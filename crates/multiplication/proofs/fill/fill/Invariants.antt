-- `fill` meets its contract. The loop's invariant: the rows below the cursors are filled, and the ranks of the next products are held.
use lib.ListN.{length}
use Rattle.multiplication.proofs.AllRows.{cursor_room}
use Rattle.multiplication.proofs.FillLoop.{FillLoop}
use Rattle.multiplication.proofs.fill.fill.Given as goal

abbrev pub invariant-loop-i : goal.invariant-loop-i
invariant-loop-i l = FillLoop l.basis l.irreducibles l.ranks.items l.variables l.lead_ranks.items l.tables l.c l.next

abbrev pub decreases-loop-i : goal.decreases-loop-i
decreases-loop-i l = cursor_room l.c.at (length l.irreducibles)
