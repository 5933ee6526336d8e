-- `lead` meets its contract.
use Rattle.std.proofs.Common.{rules}
use Rattle.monomial.specs.Rows.{one}
use Rattle.monomial.specs.Represented.{monomial}
use Rattle.lines.specs.LineTerms.{no_term, monomial_at}
use Rattle.lines.proofs.line.lead.Goals as goal

pub returns : goal.returns
unfolding monomial_at no_term one monomial
returns c = search rules
