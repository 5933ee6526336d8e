-- The contract leaves no choice.
--   functional   two answers that meet it are one, and so are the bytes afterwards
use mathlib.Core.Path.{◌≡◌, sym, ◌∙◌, ap}
use lib.ListN.{length}
use Rattle.lists.specs.Lists.{Bytes}
use Rattle.answer.specs.Outcomes.{Judged}
use Rattle.answer.specs.Answers.{pair, returned, after}
use Rattle.answer.specs.declared.Refused.{Refused}
use Rattle.std.specs.Prelude.{ℕ, Result}
use Rattle.convert.specs.Contract.{Meets}
use Rattle.convert.proofs.OutcomeUnique.{outcome-unique}

pub functional : (input was left left' : Bytes) (a a' : Result ℕ Refused) → Meets input was left a → Meets input was left' a' → (pair a ≡ pair a') × (left ≡ left')
functional input was left left' a a' m m' =
    let (o, c, r, l) = m.outcome in
    let (o', c', r', l') = m'.outcome in
    let same : o ≡ o' = outcome-unique input (length was) o o' c c' in
    (r ∙ ap returned same ∙ sym r', l ∙ ap (λ (x : Judged Bytes). after x was) same ∙ sym l')
