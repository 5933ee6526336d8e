-- Believed. The size of a text (document 01, refusal 1).
--   most_bytes       65,536 bytes of input
use Rattle.std.specs.Prelude.{ℕ}

-- Document 01, refusal 1.
abbrev pub most_bytes : ℕ
most_bytes = 65536
