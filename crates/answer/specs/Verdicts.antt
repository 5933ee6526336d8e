-- Inner contracts. The outcomes that the answers of the checks say.
--   outcome c    the number that a line is refused with, or none
--   judged v a   the outcome that a verdict says
use Rattle.std.specs.Prelude.{ℕ, Result, Ok, Err}
use Rattle.std.proofs.Math.Option.{Option, none, some}
use Rattle.answer.specs.Refusals.{number}
use Rattle.answer.specs.Outcomes.{Judged, refused, passed}
use Rattle.answer.specs.declared.Refusal.{Refusal}
use Rattle.answer.specs.declared.Refused.{Refused}

-- The number that a line is refused with, or none.
abbrev pub outcome : {T : Type 0} → Result T Refusal → Option ℕ
outcome (Ok x) = none
outcome (Err r) = some (number r)

-- The outcome that a verdict says; a is what the text comes to if it passes.
abbrev pub judged : {T A : Type 0} → Result T Refused → A → Judged A
judged (Ok x) a = passed a
judged (Err e) a = refused (number e.refusal) e.line
