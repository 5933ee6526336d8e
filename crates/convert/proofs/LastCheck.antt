-- The last check: the room for the output.
--   finished-short     the room is too short: nothing is written
--   finished-enough    it is not: the output is written from the first byte on
--   finished-outcome   the outcome of check 16, which the answer and the bytes are
use Prim.Native.Nat.{ℕ, ◌<◌}
use Rattle.std.specs.Prelude.{Result, Ok, Err}
use mathlib.Core.Path.{◌≡◌, refl, ap, ◌∙◌}
use mathlib.Core.List.{◌++◌}
use mathlib.Core.Logic.{inl, inr, by_cases}
use native.Mathlib.Decide.{dec_lt}
use native.Mathlib.Nat.{zero-add}
use native.Mathlib.Omega.{arith}
use lib.ListN.{length, drop}
use lib.Seq.{sets, sets-eq}
use Rattle.lists.specs.Lists.{Bytes}
use Rattle.answer.specs.Outcomes.{Judged, refused, passed}
use Rattle.answer.specs.Answers.{pair, returned, after}
use Rattle.answer.specs.Finished.{Finished}
use Rattle.answer.specs.declared.Refusal.TheVariants.{OutputTooShort}
use Rattle.answer.specs.declared.Refused.{Refused}
use Rattle.convert.specs.Outcome.{Fits}

module _ (out was : Bytes) where
  pub finished-short : length was < length out → Finished out was was (Err (record { refusal = OutputTooShort; line = 0 }))
  finished-short h = record { short = λ _. (refl, refl); enough = λ e. absurd (e h) }

  whole : ¬ (length was < length out) → sets was 0 out ≡ out ++ drop (length out) was
  whole e = sets-eq out was 0 (omega arith) ∙ rw zero-add

  pub finished-enough : {now : Bytes} {n : ℕ} → ¬ (length was < length out) → now ≡ sets was 0 out → n ≡ length out → Finished out was now (Ok n)
  finished-enough e w k = record { short = λ h. absurd (e h); enough = λ _. (ap Ok k, w ∙ whole e) }

  pub finished-outcome : {left : Bytes} {r : Result ℕ Refused} → Finished out was left r
      → (o : Judged Bytes) × Fits (length was) out o × (pair r ≡ returned o) × (left ≡ after o was)
  finished-outcome w = by_cases (dec_lt (length was) (length out))
      (λ h. (refused 16 0, inl (h, refl), ap pair (w.short h).0, (w.short h).1))
      (λ h. (passed out, inr (h, refl), ap pair (w.enough h).0, (w.enough h).1))
