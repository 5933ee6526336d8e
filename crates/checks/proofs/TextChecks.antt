-- Checks 2 to 11 are those of the model, and each text has one outcome.
--   checked-iff         the model's outcome is the one outcome
--   checked-exists      each text has an outcome
--   checked-unique      it has no other
use Prim.Native.Nat.{ℕ}
use mathlib.Core.List.{[]}
use mathlib.Core.Logic.{◌↔◌}
use mathlib.Core.Option.{Option, none, some}
use mathlib.Core.Path.{◌≡◌, refl, sym, ◌∙◌, subst}
use native.Mathlib.Omega.{arith}
use lib.ListN.{length}
use Rattle.lists.specs.Lists.{Bytes}
use Rattle.answer.specs.Outcomes.{Judged, refused}
use Rattle.tabtext.specs.Text.{TextLine, header, generator, standard, points, end}
use Rattle.tabtext.specs.Readers.{Got, got, bad, read_line}
use Rattle.checks.specs.Checks.{Basis, Front, Checked, malformed_header, header_refused, header_passed}
use Rattle.checks.proofs.Model.{judge_header, outcome_at, judge_lines, judge_first, judge}
use Rattle.checks.proofs.LineChecks.{header-iff}
use Rattle.checks.proofs.Fronts.{front-of-read, read-of-front, no_front, other-front, basis-front}
use Rattle.checks.proofs.RemainingChecks.{remaining-iff}

-- The line is a basis line.
abbrev Headed : TextLine → Type 0
Headed (header order p n) = Unit
Headed (generator terms) = ⊥
Headed (standard monomials) = ⊥
Headed (points count) = ⊥
Headed (end count) = ⊥

-- Each outcome is that of the model.
checked-to : (s : Bytes) (o : Judged Basis) → Checked s o → judge s ≡ o
unfolding judge judge_first
checked-to s o (malformed_header no_line e) = go (read_line 0 s) refl ∙ sym e
  where
    go : (g : Got TextLine) → read_line 0 s ≡ g → judge_first g ≡ refused 2 1
    go bad q = refl
    go (got (header order p n) rest) q = absurd (no_line order p n rest (basis-front (front-of-read _ _ q)))
    go (got (generator terms) rest) q = refl
    go (got (standard monomials) rest) q = refl
    go (got (points count) rest) q = refl
    go (got (end count) rest) q = refl
checked-to s o (header_refused {order} {p} {n} number f c e) =
    rw (read-of-front _ _ (basis-front {n = 0} f), (header-iff order p n (some number)).0 c) (sym e)
checked-to s o (header_passed {order} {p} {n} {rest} f c r) =
    rw (read-of-front _ _ (basis-front {n = 0} f), (header-iff order p n none).0 c)
    ((remaining-iff p n (length rest) [] rest o (omega arith)).0 r)

-- That of the model is an outcome.
checked-from : (s : Bytes) → Checked s (judge s)
unfolding judge judge_first
checked-from s = go (read_line 0 s) refl
  where
    header-step : {order : Bytes} {p n : ℕ} {rest : Bytes} → Front n s (header order p n) rest → (c : Option ℕ) → judge_header order p n ≡ c
        → Checked s (outcome_at 1 c (judge_lines (length rest) p n [] rest))
    header-step {order} {p} {n} f (some number) e = header_refused number f ((header-iff order p n (some number)).1 e) refl
    header-step {order} {p} {n} {rest} f none e = header_passed f ((header-iff order p n none).1 e)
        ((remaining-iff p n (length rest) [] rest _ (omega arith)).1 refl)

    wrong-kind : {l : TextLine} {rest : Bytes} → read_line 0 s ≡ got l rest → ¬ Headed l → Checked s (refused 2 1)
    wrong-kind q m = malformed_header (λ order p n rest f. other-front Headed q m tt (basis-front f)) refl

    go : (g : Got TextLine) → read_line 0 s ≡ g → Checked s (judge_first g)
    go bad q = malformed_header (λ order p n rest f. no_front _ _ q (basis-front f)) refl
    go (got (header order p n) rest) q = header-step (basis-front (front-of-read _ _ q)) (judge_header order p n) refl
    go (got (generator terms) rest) q = wrong-kind q (λ x. x)
    go (got (standard monomials) rest) q = wrong-kind q (λ x. x)
    go (got (points count) rest) q = wrong-kind q (λ x. x)
    go (got (end count) rest) q = wrong-kind q (λ x. x)

pub checked-iff : (s : Bytes) (o : Judged Basis) → Checked s o ↔ (judge s ≡ o)
checked-iff s o = (checked-to s o, λ e. subst (Checked s) e (checked-from s))

pub checked-exists : (s : Bytes) → (o : Judged Basis) × Checked s o
checked-exists s = (judge s, checked-from s)

pub checked-unique : (s : Bytes) (o o' : Judged Basis) → Checked s o → Checked s o' → o ≡ o'
checked-unique s o o' c d = sym (checked-to s o c) ∙ checked-to s o' d
