-- `Coordinates::unit` meets its contract.
use borrow.Author.Rules.{rules}
use Rattle.lists.proofs.Elements.{length-mapped}
use Rattle.coordinates.specs.Vectors.{FullLength}
use Rattle.coordinates.proofs.UnitRows.{unit-at}
use Rattle.coordinates.proofs.UnitVectors.{unit-represented, zero-represented}
use Rattle.coordinates.proofs.Coordinates.unit.Goals.{After-zero-r}
use Rattle.coordinates.proofs.Coordinates.unit.Goals as goal

size : (c : After-zero-r) → FullLength c.zero-r.result
size c = search (length-mapped, rules)

pub returns-then-k-lt-MAX_STANDARD : goal.returns-then-k-lt-MAX_STANDARD
returns-then-k-lt-MAX_STANDARD c =
    let place = unit-at c.zero-r.result.c _ (size (goal.at.returns-then-k-lt-MAX_STANDARD c).After-zero-r) c.zero-r.ensures c.if-k-lt-MAX_STANDARD.true in
    record {
      place = λ _. place;
      represents = λ p above. unit-represented p _ (search (length-mapped, rules)) above _ place;
    }

pub returns-else-k-lt-MAX_STANDARD-clause-represents : goal.returns-else-k-lt-MAX_STANDARD-clause-represents
returns-else-k-lt-MAX_STANDARD-clause-represents c =
    λ p above. zero-represented p _ (size (goal.at.returns-else-k-lt-MAX_STANDARD-clause-represents c).After-zero-r) above _ c.if-k-lt-MAX_STANDARD.false c.zero-r.ensures
