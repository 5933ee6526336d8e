-- `read_lines` meets its contract (proofs/LinesLoop.antt). The loop's invariant: the lines read so far are in the list, and the lines that are left decide.
use Prim.Native.Nat.{◌-◌}
use lib.ListN.{length}
use Rattle.checks.proofs.LinesLoop.{LinesInv}
use Rattle.checks.proofs.basis.read_lines.Given as goal

abbrev pub invariant-loop-g : goal.invariant-loop-g
invariant-loop-g l = LinesInv l.p l.n l.text l.start l.lines.items l.at

abbrev pub decreases-loop-g : goal.decreases-loop-g
decreases-loop-g l = length l.text - l.at
