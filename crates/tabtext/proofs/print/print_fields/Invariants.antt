-- `print::print_fields` meets its contract. The loop's invariant: the fields from place j on are left, each with a tab before it, and LF.
use mathlib.Core.List.{[], ◌∷◌}
use Prim.Native.Nat.{◌+◌}
use Rattle.tabtext.specs.Printed.{fields_line, Shown, PrintsFields}
use Rattle.tabtext.proofs.FieldPrinting.{PrintingFields}
use Rattle.tabtext.proofs.print.print_fields.Given as goal

abbrev pub invariant-loop-j : goal.invariant-loop-j
invariant-loop-j g l =
    let takes = g.S.Sink.takes in
    let after = g.S.Sink.after in
    (f : Shown g.row.T.Denot)
    → PrintsFields takes after (λ s x. goal.F-pre g l.field s x) (λ s x r. goal.F-post g l.field s x tt r) f l.fn.sink l.fn.word l.items
    → PrintingFields takes after f.bytes 9 l.items (10 ∷ []) (f.most + 1) l.fn.sink (fields_line f.bytes l.fn.word l.items) l.sink l.j
