-- `print::print_exponents` meets its contract. The loop's invariant: the exponents from place j on are left, each with a dot before it.
use mathlib.Core.List.{[]}
use Rattle.lines.specs.LineTerms.{exponents_of}
use Rattle.tabtext.specs.Text.{decimal, dotted}
use Rattle.tabtext.proofs.FieldPrinting.{PrintingFields}
use Rattle.tabtext.proofs.print.print_exponents.Given as goal

abbrev pub invariant-loop-j : goal.invariant-loop-j
invariant-loop-j g l =
    let e = exponents_of l.fn.n l.m in
    PrintingFields g.S.Sink.takes g.S.Sink.after decimal 46 e [] 6 l.fn.sink (dotted e) l.sink l.j
