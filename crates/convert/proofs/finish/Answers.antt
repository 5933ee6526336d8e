-- `finish` meets its contract.
use mathlib.Core.Path.{ap, ◌∙◌}
use borrow.Author.Rules.{rules}
use native.Mathlib.Omega.{arith}
use Rattle.tabtext.specs.declared.sink.Front.{Front}
use Rattle.convert.proofs.LastCheck.{finished-short, finished-enough}
use Rattle.convert.proofs.finish.Goals as goal

pub returns-then-output-width : goal.returns-then-output-width
returns-then-output-width c h = rw c.at.ensures (finished-short _ _ (omega (arith, c.output_width-width.ensures h)))

pub returns : goal.returns
returns c h =
    let written = c.print_output.ensures.printed h in
    finished-enough _ _ (omega (arith, c.output_width-width.ensures h)) (search rules) (ap (λ (f : Front). f.at) written ∙ search rules)
