-- Inner contracts. The smallest number that has a property (document 01: the smallest line that a check names).
--   Smallest Of r        r is the smallest number that has Of, if there is one
use Rattle.std.specs.Prelude.{ℕ, ◌<◌, Option, Some, None}

-- r is the smallest number that has Of, or no number has it.
abbrev pub Smallest : (ℕ → Type 0) → Option ℕ → Type 0
Smallest Of (Some r) = Of r × ((j : ℕ) → j < r → ¬ Of j)
Smallest Of None = (k : ℕ) → ¬ Of k
