-- `terms::byte_is` meets its contract.
use Rattle.std.proofs.Common.{rules}
use Rattle.tabtext.proofs.Places.{starts-found}
use Rattle.tabtext.proofs.terms.byte_is.Goals as goal

pub returns : goal.returns
returns c = starts-found _ _ _ _ c.get.ensures.lookup (search (rules, c.map_or.ensures))
