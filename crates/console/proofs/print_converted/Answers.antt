-- `print_converted`: the length that is told is no more than that of the output.
use mathlib.Core.Path.{sym}
use lib.Seq.{length-take-le}
use Rattle.convert.proofs.Meets.{accepted-fits}
use Rattle.console.proofs.print_converted.Goals as goal

pub slice_bounds-output-end : goal.slice_bounds-output-end
slice_bounds-output-end g c = accepted-fits _ _ _ _ c.judge-answer.ensures.meets _ c.in-Ok.is

pub slice_bounds-write_all-end : goal.slice_bounds-write_all-end
slice_bounds-write_all-end g c = sym (length-take-le c.in-Ok.size c.judge-answer.new.output (accepted-fits _ _ _ _ c.judge-answer.ensures.meets _ c.in-Ok.is))
