-- The verdict on a line after k poly lines.
--   none-stands       no line of the form stands there
--   other-stands      a line of another kind stands there
--   poly-refused      a poly line stands there, and is refused
--   wrong-count       an end line stands there, and its count is wrong
--   more-stands       an end line stands there, and something after it
--   all_read          an end line stands there, and nothing after it
use Prim.Native.Nat.{ℕ, ◌+◌}
use mathlib.Core.Path.{◌≡◌, refl, ap, sym, subst, ◌∙◌}
use mathlib.Core.List.{List, []}
use mathlib.Core.Logic.{inl, inr}
use mathlib.Core.Option.{some}
use native.Mathlib.Numerals.{add-one}
use native.Mathlib.Omega.{arith}
use lib.ListN.{length}
use Rattle.lists.specs.Lists.{Bytes}
use Rattle.answer.specs.Outcomes.{Judged}
use Rattle.answer.specs.Outcomes as outcomes
use Rattle.answer.specs.Refusals.{number}
use Rattle.answer.specs.declared.Refusal.{Refusal}
use Rattle.answer.specs.declared.Refusal.TheVariants.{BadLine, EndNumberDiffers}
use Rattle.lines.specs.Terms.{Term}
use Rattle.tabtext.specs.Text.{TextLine, generator, end}
use Rattle.tabtext.specs.Readers.{got, bad, read_line}
use Rattle.checks.specs.Checks.{Front, Later, line_after, check_generator, malformed, generator_refused, end_refused, after_end, complete}
use Rattle.checks.specs.Checks as checks
use Rattle.checks.specs.Answers.{Stops}
use Rattle.checks.proofs.Fronts.{front-of-read, no_front, front_same}
use Rattle.std.specs.Prelude.{Ok, Err}

-- The number of the line after k poly lines.
this-line : (k : ℕ) (lines : List (List Term)) (r : ℕ) → length lines ≡ k →
    ◌≡◌ {A = Judged checks.Basis} (outcomes.refused r (k + 2)) (outcomes.refused r (line_after lines))
this-line k lines r h = ap (outcomes.refused r) (omega arith)

module _ (p n k : ℕ) (s : Bytes) where
  pub none-stands : read_line n s ≡ bad → Stops p n k s (Err (record { refusal = BadLine; line = k + 2 }))
  none-stands e lines h = malformed (λ l rest a f. no_front n s e f) (this-line k lines 2 h)

  pub other-stands : {l : TextLine} {rest : Bytes} → read_line n s ≡ got l rest → ¬ Later l → Stops p n k s (Err (record { refusal = BadLine; line = k + 2 }))
  other-stands e o lines h = malformed (λ l' rest' a f. o (subst Later (front_same n s e f) a)) (this-line k lines 2 h)

  pub poly-refused : (r : Refusal) {terms : List Term} {rest : Bytes} → read_line n s ≡ got (generator terms) rest →
      check_generator p n (k + 1) terms (some (number r)) → Stops p n k s (Err (record { refusal = r; line = k + 2 }))
  poly-refused r e c lines h = generator_refused {got = lines} (number r) (front-of-read n s e) (rw h (rw add-one at c)) (this-line k lines (number r) h)

  module _ {count : ℕ} {rest : Bytes} (front : Front n s (end count) rest) where
    pub wrong-count : ¬ (count ≡ k) → Stops p n k s (Err (record { refusal = EndNumberDiffers; line = k + 2 }))
    wrong-count c lines h = end_refused {got = lines} 11 front (inl (λ e. c (e ∙ h), refl)) (this-line k lines 11 h)

    pub more-stands : count ≡ k → ¬ (rest ≡ []) → Stops p n k s (Err (record { refusal = BadLine; line = k + 3 }))
    more-stands c r lines h = after_end {got = lines} front (inr (λ e. e (c ∙ sym h), refl)) r (ap (outcomes.refused 2) (omega arith))

    pub all_read : count ≡ k → rest ≡ [] → Stops p n k s (Ok tt)
    all_read c r lines h = complete {got = lines} (subst (Front n s (end count)) r front) (inr (λ e. e (c ∙ sym h), refl)) refl
