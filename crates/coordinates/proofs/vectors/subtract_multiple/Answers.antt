-- `subtract_multiple` meets its contract.
use borrow.Author.Rules.{rules}
use native.Mathlib.Omega.{arith}
use Rattle.lists.proofs.Elements.{length-mapped}
use Rattle.coordinates.proofs.VectorEntries.{subtracted-entries}
use Rattle.coordinates.proofs.vectors.subtract_multiple.Goals as goal

pub returns : goal.returns
returns c =
    subtracted-entries _ _ (search (length-mapped, rules)) (omega arith) _ _ _ (search (length-mapped, rules)) (search (length-mapped, rules)) c.requires.1
    (λ k h. search (rules, c.tabulate.ensures k h))
