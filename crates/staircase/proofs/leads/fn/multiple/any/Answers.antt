-- The test of `multiple` meets its contract.
use Rattle.std.proofs.Common.{rules}
use Rattle.staircase.proofs.Multiples.{divides-lead}
use Rattle.staircase.proofs.leads.fn.multiple.any.Goals as goal

pub returns : goal.returns
returns c = search (rules, divides-lead)
