-- `print::print_lines` meets its contract. The loop's invariant: the lines from place j on are left, and those before it are short.
use Prim.Native.Nat.{◌≤◌}
use native.Mathlib.Omega.{arith}
use lib.ListN.{length}
use Rattle.tabtext.specs.Printed.{generator_line}
use Rattle.tabtext.proofs.Separators.{StandsAt}
use Rattle.convert.specs.LexText.{generator_lines}
use Rattle.convert.proofs.LineSequence.{printing-lines-start, printing-lines-room, printing-lines-turn, printing-lines-end, counting-lines-start, counting-lines-turn, counting-lines-end}
use Rattle.convert.proofs.LinePlaces.{poly_lines-length, line-stands}
use Rattle.convert.proofs.print.print_lines.Goals.{After-deref, After-loop-j}
use Rattle.convert.proofs.print.print_lines.Goals as goal

-- The line that is read.
stands : (g : _) (c : After-deref g) → StandsAt (generator_lines c.args.n c.args.lines.now) c.loop-j.j (generator_line c.args.n c.deref.result.now)
stands g c = line-stands c.args.n c.args.lines.now c.loop-j.j c.loop-j-test.true c.index-lines-j.is c.deref.ensures.0

pub loop-j-init : goal.loop-j-init
loop-j-init g c = (printing-lines-start g.met.S.Sink.laws c.requires, counting-lines-start _ _)

pub print_generator-requires : goal.print_generator-requires
print_generator-requires g c = printing-lines-room g.met.S.Sink.laws c.loop-j.invariant.0 _ (stands g (goal.at.print_generator-requires g c).After-deref)

pub loop-j-preserved : goal.loop-j-preserved
loop-j-preserved g c =
    let v = c.loop-j.invariant in
    let here = stands g (goal.at.loop-j-preserved g c).After-deref in
    let printed = c.print_generator.ensures in
    (printing-lines-turn g.met.S.Sink.laws v.0 _ here printed.printed, counting-lines-turn v.1 _ here (omega (arith, printed.short, c.deref.ensures.1)))

-- The lines are as many as those of the text.
all : (g : _) (c : After-loop-j g) → length (generator_lines c.args.n c.args.lines.now) ≤ c.loop-j.j
all g c = omega (arith, poly_lines-length c.args.n c.args.lines.now)

pub returns-clause-printed : goal.returns-clause-printed
returns-clause-printed g c = printing-lines-end g.met.S.Sink.laws c.loop-j.invariant.0 (all g (goal.at.returns-clause-printed g c).After-loop-j)

pub returns-clause-short : goal.returns-clause-short
returns-clause-short g c = omega (arith, counting-lines-end c.loop-j.invariant.1 (all g (goal.at.returns-clause-short g c).After-loop-j))
