-- Inner contracts. Numbers of 16 bits.
--   word   one more than the largest
use Rattle.std.specs.Prelude.{ℕ}

-- One more than the largest number of 16 bits.
abbrev pub word : ℕ
word = 65536
