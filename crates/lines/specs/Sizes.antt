-- Believed. The sizes of a basis (document 01, refusals 10 and 14).
--   most_standard   32 standard monomials
--   most_terms      33 terms in a line: a leading one and at most one for each standard monomial
--   most_lines      97 poly lines
use Rattle.std.specs.Prelude.{ℕ, ◌+◌, ◌*◌, ◌-◌}
use Rattle.monomial.specs.Sizes.{most_variables}

-- Document 01, refusal 14.
abbrev pub most_standard : ℕ
most_standard = 32

-- Document 01, refusal 10.
abbrev pub most_terms : ℕ
most_terms = most_standard + 1

-- Document 01, refusal 10: 4 × 32 - 31.
abbrev pub most_lines : ℕ
most_lines = most_variables * most_standard - (most_standard - 1)
