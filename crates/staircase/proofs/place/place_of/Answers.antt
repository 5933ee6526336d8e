-- `place_of` meets its contract.
use Rattle.std.proofs.Common.{rules, tests}
use Rattle.std.proofs.lemmas.Iterator.{YieldsList-from_slice, IsFirst-from_position}
use Rattle.staircase.proofs.PlacesInLists.{Is, Other, place-first}
use Rattle.staircase.proofs.place.place_of.Goals as goal

pub returns : goal.returns
returns c =
    let a = c.args in
    place-first a.n a.m a.list.now c.position.result
    (IsFirst-from_position _ _ c.position.result (Is a.n a.m) (Other a.n a.m) c.position.ensures.ran (YieldsList-from_slice _ c.iter.ensures.rest) (λ x q k. search (rules, tests)) (λ x q k. search (rules, tests)))
