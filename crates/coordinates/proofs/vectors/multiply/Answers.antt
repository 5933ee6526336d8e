-- `multiply` meets its contract.
use borrow.Author.Rules.{rules}
use native.Mathlib.Omega.{arith}
use Rattle.lists.proofs.Elements.{length-mapped}
use Rattle.coordinates.proofs.VectorEntries.{multiplied-entries}
use Rattle.coordinates.proofs.vectors.multiply.Goals as goal

pub returns : goal.returns
returns c = multiplied-entries _ _ (search (length-mapped, rules)) (omega arith) _ _ (search (length-mapped, rules)) (λ k h. search (rules, c.tabulate.ensures k h))
