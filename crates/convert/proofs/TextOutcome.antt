-- The outcome of a text, from the answers to its checks.
--   says-passed      what is said of a text that passes checks 2 to 15
--   passed-basis     what is known of its basis
--   text-finished    its outcome, from what its basis comes to
--   too_long         that of a text that is refused by 1
--   refused-text     by 2 to 15
use Prim.Native.Nat.{ℕ, ◌<◌}
use mathlib.Core.Path.{◌≡◌, refl, subst}
use mathlib.Core.Logic.{inl, inr}
use native.Mathlib.Omega.{arith}
use lib.ListN.{length}
use Rattle.std.specs.Prelude.{Result, Ok, Err}
use Rattle.arrayvec.specs.ArrayVec.{ArrayVec}
use Rattle.lists.specs.Lists.{Bytes}
use Rattle.answer.specs.Outcomes.{Judged, refused, passed}
use Rattle.answer.specs.Refusals.{number}
use Rattle.answer.specs.declared.Refused.{Refused}
use Rattle.answer.specs.declared.Refusal.TheVariants.{InputTooLong}
use Rattle.monomial.specs.declared.Monomial.{Monomial}
use Rattle.lines.specs.declared.StoredBasis.{StoredBasis}
use Rattle.tabtext.specs.Sizes.{most_bytes}
use Rattle.checks.specs.Checks.{Checked}
use Rattle.checks.specs.Answers.{basis_of}
use Rattle.checks.proofs.Passes.{good-text-iff}
use Rattle.staircase.specs.TermLines.{lines_of}
use Rattle.staircase.specs.StoredLines.{stored_lines}
use Rattle.multiplication.specs.declared.rows.Tables.{Tables}
use Rattle.acceptance.specs.Answers.{WholeSays, TextSays, lines_refused, lines_passed}
use Rattle.acceptance.proofs.LaterChecks.{whole-refused, whole-later}
use Rattle.convert.specs.Outcome.{Outcome}
use Rattle.convert.specs.Contract.{Meets}
use Rattle.convert.specs.Finished.{PassedBasis, FinishedBasis}
use Rattle.convert.proofs.ConvertedChecks.{Output}
use Rattle.convert.proofs.LastCheck.{finished-outcome}
use Rattle.convert.proofs.Meets.{meets-of}

module _ (input : Bytes) (b : StoredBasis) (t : Tables) where
  -- The answer to checks 2 to 15.
  abbrev pub Says : Result (ArrayVec Monomial) Refused → Type 0
  Says r = TextSays input r b t

  module _ (l : ArrayVec Monomial) (says : Says (Ok l)) where
    pub says-passed : Checked input (passed (basis_of b)) × WholeSays b (Ok l) t
    says-passed = passes says
      where
        passes : Says (Ok l) → Checked input (passed (basis_of b)) × WholeSays b (Ok l) t
        passes (lines_refused q c) = let z : ◌≡◌ {A = ℕ} 0 1 = cc in absurd (omega arith)
        passes (lines_passed c w) = (c, w)

    pub passed-basis : PassedBasis l.items t b
    unfolding basis_of
    passed-basis =
        let (checked, whole) = says-passed in
        let w = (good-text-iff input (basis_of b)).0 checked in
        record { modulus = w.modulus; variables = w.variables; convertible = whole.convertible l refl }

  module _ (was : Bytes) (short : ¬ (most_bytes < length input)) where
    -- What comes after check 15.
    abbrev Later : (h : 1 < b.p) → Judged Bytes → Type 0
    Later h = Output b.p h b.n (stored_lines b h) (length was)

    pub refused-text : (e : Refused) → Says (Err e) → Meets input was was (Err e)
    unfolding basis_of lines_of stored_lines
    refused-text e says = meets-of input was was _ (refused (number e.refusal) e.line, refuses says, refl, refl)
      where
        Refuses : Refused → Type 0
        Refuses d = Outcome input (length was) (refused (number d.refusal) d.line)

        refuses : Says (Err e) → Refuses e
        refuses (lines_refused {e = d} q checked) =
            let same : d ≡ e = cc in
            subst Refuses same (inr (short, (refused (number d.refusal) d.line, checked, refl)))
        refuses (lines_passed checked whole) =
            let h = ((good-text-iff input (basis_of b)).0 checked).modulus.prime.above_one in
            inr (short, (passed (basis_of b), checked, (h, whole-refused b.p h b.n (stored_lines b h) (Later h) (number e.refusal) e.line (whole.verdict h))))

    pub text-finished : (l : ArrayVec Monomial) → Says (Ok l) → (left : Bytes) (a : Result ℕ Refused) → FinishedBasis b was left a → Meets input was left a
    unfolding basis_of lines_of stored_lines
    text-finished l says left a finished =
        let (checked, whole) = says-passed l says in
        let h = (passed-basis l says).modulus.prime.above_one in
        let (H, B, converts, f) = finished h in
        let (o, fits, same, bytes) = finished-outcome _ _ f in
        meets-of input was left a (o, inr (short, (passed (basis_of b), checked, (h, whole-later b.p h b.n (stored_lines b h) (Later h) (whole.verdict h) o (H, B, converts, fits)))), same, bytes)

pub too_long : (input was : Bytes) → most_bytes < length input → Meets input was was (Err (record { refusal = InputTooLong; line = 0 }))
too_long input was h = meets-of input was was _ (refused 1 0, inl (h, refl), refl, refl)
