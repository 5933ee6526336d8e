-- `LineTerm::blank` meets its contract.
use Rattle.std.proofs.Common.{rules}
use Rattle.lines.specs.LineTerms.{no_term}
use Rattle.lines.proofs.line.LineTermBlank.blank.Goals as goal

pub returns : goal.returns
unfolding no_term
returns c = search rules
