-- `print::output_width` meets its contract: the count stays below its largest number.
use mathlib.Core.Path.{ap}
use native.Mathlib.Omega.{arith}
use Rattle.tabtext.specs.declared.sink.Count.{Count}
use Rattle.convert.proofs.print.output_width.Goals as goal

pub returns : goal.returns
returns c h =
    let w = c.requires.printable in
    let printed = c.print_output.ensures in
    omega (arith, ap (λ (s : Count). s.bytes) (printed.printed h), printed.short h, w.lines, w.count)
