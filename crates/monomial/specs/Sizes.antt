-- Believed. The sizes of a monomial (document 01, refusals 5 and 7).
--   most_variables    4
--   most_exponent     32
--   VariableCount n   n is 1 to 4
use Rattle.std.specs.Prelude.{ℕ, ◌≤◌}

-- n is 1 to 4 (document 01, refusal 5).
abbrev pub most_variables : ℕ
most_variables = 4

-- No exponent of a text is over 32 (document 01, refusal 7).
abbrev pub most_exponent : ℕ
most_exponent = 32

-- n is a number of variables of the format: 1 to 4 (document 01, refusal 5).
pub record VariableCount (n : ℕ) : Type 0 where
  pub some : 1 ≤ n
  pub most : n ≤ most_variables
