-- `same_coordinates` meets its contract.
use borrow.Author.Rules.{rules}
use Rattle.lists.proofs.Elements.{length-mapped}
use Rattle.coordinates.proofs.SameVectors.{same-vectors}
use Rattle.coordinates.proofs.vectors.same_coordinates.Goals as goal

pub returns : goal.returns
returns c = same-vectors c.args.a c.args.other (search (length-mapped, rules)) (search (length-mapped, rules)) _ c.eq.ensures
