-- Believed. Answers as the pairs of document 01 ("Refused texts"), and the output bytes afterwards.
--   pair a                 document 01's number and value for an answer
--   returned o, after o    the pair that an outcome returns, and the output bytes afterwards
use Rattle.std.specs.Prelude.{ℕ, ◌++◌, length, drop, Result, Ok, Err}
use Rattle.lists.specs.Lists.{Bytes}
use Rattle.answer.specs.Outcomes.{Judged, refused, passed}
use Rattle.answer.specs.Refusals.{number}
use Rattle.answer.specs.declared.Refused.{Refused}

-- Document 01's pair: 0 and the length written, or the number of the refusal and its line.
abbrev pub pair : Result ℕ Refused → ℕ × ℕ
pair (Ok size) = (0, size)
pair (Err e) = (number e.refusal, e.line)

-- The pair of an outcome.
abbrev pub returned : Judged Bytes → ℕ × ℕ
returned (refused k line) = (k, line)
returned (passed out) = (0, length out)

-- The output bytes afterwards: the text and then what stood there; on a refusal what stood there.
abbrev pub after : Judged Bytes → Bytes → Bytes
after (refused k line) was = was
after (passed out) was = out ++ drop (length out) was
