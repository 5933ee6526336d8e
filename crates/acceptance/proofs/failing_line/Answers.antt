-- `failing_line` meets its contract.
use Prim.Native.Nat.{ℕ}
use native.Mathlib.Omega.{arith}
use borrow.Author.Rules.{rules}
use lib.ListN.{length-replicate}
use Rattle.std.specs.Prelude.{Option, Some, None, IsSome}
use Rattle.lines.specs.declared.StoredBasis.{StoredBasis}
use Rattle.division.specs.PairRemainders.{FirstFailing}
use Rattle.division.proofs.Binomials.{space-value}
use Rattle.acceptance.proofs.failing_line.Goals as goal

pub first_failing-requires : goal.first_failing-requires
first_failing-requires c = (c.requires.0, simp length-replicate (omega (arith, space-value)))

-- A line is found, since there is one.
found : (b : StoredBasis) (r : Option ℕ) → ¬ FirstFailing b None → FirstFailing b r → IsSome r
found b (Some k) some f = search rules
found b None some f = absurd (some f)

pub unwrap-requires : goal.unwrap-requires
unwrap-requires c = found _ _ c.requires.1 c.first_failing.ensures

pub returns : goal.returns
returns c = rw c.unwrap.ensures at c.first_failing.ensures
