-- `add_multiple` meets its contract.
use borrow.Author.Rules.{rules}
use native.Mathlib.Omega.{arith}
use Rattle.lists.proofs.Elements.{length-mapped}
use Rattle.coordinates.proofs.VectorEntries.{below-of}
use Rattle.coordinates.proofs.vectors.add_multiple.Goals as goal

pub returns : goal.returns
returns c = record {
  below = below-of _ _ (search (length-mapped, rules)) (omega arith) (λ k h. search (rules, c.tabulate.ensures k h));
  sums = λ k h. search (rules, c.tabulate.ensures k h);
}
