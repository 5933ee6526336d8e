-- The loop of a search for the first place that has P.
--   Unseen P count k           no place below k has P
--   unseen-none, unseen-more   before the first turn, and after a turn
use Prim.Native.Nat.{ℕ, ◌+◌, ◌≤◌, ◌<◌}
use native.Mathlib.Omega.{arith}
use borrow.Author.Count.{below_more}

pub record Unseen (P : ℕ → Type 0) (count k : ℕ) : Type 0 where
  pub within : k ≤ count
  pub nowhere : (j : ℕ) → j < k → ¬ P j

pub unseen-none : {P : ℕ → Type 0} {count : ℕ} → Unseen P count 0
unseen-none = record { within = omega arith; nowhere = λ j h. absurd (omega arith) }

pub unseen-more : {P : ℕ → Type 0} {count k : ℕ} → Unseen P count k → k < count → ¬ P k → Unseen P count (k + 1)
unseen-more {k = k} so_far h q = record { within = omega arith; nowhere = below_more _ k so_far.nowhere q }
