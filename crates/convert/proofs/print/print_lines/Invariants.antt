-- `print::print_lines` meets its contract. The loop's invariant: the lines from place j on are left, and those before it are short.
use Prim.Native.Nat.{◌+◌, ◌*◌}
use Rattle.lines.specs.Sizes.{most_terms}
use Rattle.convert.specs.LexText.{generator_lines}
use Rattle.convert.proofs.LineSequence.{PrintingLines, CountingLines}
use Rattle.convert.proofs.print.print_lines.Given as goal

abbrev pub invariant-loop-j : goal.invariant-loop-j
invariant-loop-j g l =
    let lines = generator_lines l.n l.lines in
    PrintingLines lines g.S.Sink.takes g.S.Sink.after l.fn.sink l.sink l.j × CountingLines lines (5 + 31 * most_terms) l.j
