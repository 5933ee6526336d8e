-- Inner contracts. What the last check comes to (document 01, refusal 16).
--   Finished out was left r     the output `out` and the bytes `was` before: the bytes afterwards, and the answer
use Rattle.std.specs.Prelude.{ℕ, ◌<◌, ◌≡◌, length, Result, Ok, Err}
use Rattle.lists.specs.Lists.{Bytes}
use Rattle.answer.specs.Outcomes.{passed}
use Rattle.answer.specs.Answers.{after}
use Rattle.answer.specs.declared.Refusal.TheVariants.{OutputTooShort}
use Rattle.answer.specs.declared.Refused.{Refused}

-- An output that is longer than the room is refused, and no byte is written; any other is written at the front.
pub record Finished (out was left : Bytes) (r : Result ℕ Refused) : Type 0 where
  pub short : length was < length out → (r ≡ Err (record { refusal = OutputTooShort; line = 0 })) × (left ≡ was)
  pub enough : ¬ (length was < length out) → (r ≡ Ok (length out)) × (left ≡ after (passed out) was)
