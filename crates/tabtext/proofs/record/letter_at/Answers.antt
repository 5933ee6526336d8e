-- `record::letter_at` meets its contract.
use Rattle.std.proofs.Common.{rules}
use Rattle.tabtext.proofs.Places.{letter-found}
use Rattle.tabtext.proofs.record.letter_at.Goals as goal

pub returns : goal.returns
returns c = letter-found _ _ _ c.get.ensures.lookup (search (rules, c.is_some_and.ensures))
