-- Inner contracts. A refusal as it is printed.
--   refused_text e     the word, the number and the line, with a tab between
use Rattle.std.specs.Prelude.{List, ℕ, ◌++◌, codes}
use Rattle.std.specs.Fmt.{decimal}
use Rattle.answer.specs.Refusals.{number}
use Rattle.answer.specs.declared.Refused.{Refused}

-- The word, the number and the line, with a tab between.
abbrev pub refused_text : Refused → List ℕ
refused_text e = codes "refused\t" ++ (decimal (number e.refusal) ++ (codes "\t" ++ decimal e.line))
