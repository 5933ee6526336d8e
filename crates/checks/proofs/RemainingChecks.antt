-- The checks of the lines after the basis line are those of the model.
--   remaining-iff     the model's outcome is the one outcome
use Prim.Native.Nat.{ℕ, zero, suc, pred, ◌≤◌}
use mathlib.Core.List.{List, [], ◌∷◌, ◌++◌, cons≢nil}
use mathlib.Core.Logic.{◌↔◌}
use mathlib.Core.Option.{Option, none, some}
use mathlib.Core.Path.{◌≡◌, refl, sym, ◌∙◌, subst}
use native.Mathlib.Omega.{arith}
use lib.ListN.{length}
use Rattle.lists.specs.Lists.{Bytes}
use Rattle.answer.specs.Outcomes.{Judged, refused}
use Rattle.lines.specs.Terms.{Term}
use Rattle.tabtext.specs.Text.{TextLine, header, generator, standard, points, end}
use Rattle.tabtext.specs.Readers.{Got, got, bad, read_line}
use Rattle.checks.specs.Checks.{Basis, Front, Later, line_after, Remaining, malformed, generator_refused, generator_passed, end_refused, after_end, complete}
use Rattle.checks.proofs.Model.{judge_generator, judge_end, outcome_at, judge_rest, judge_line, judge_lines}
use Rattle.checks.proofs.LineChecks.{generator-iff, end-iff}
use Rattle.checks.proofs.Fronts.{front-of-read, read-of-front, no_front, other-front, front-shorter, nothing-front}

-- The model refuses bytes after the end line.
some-rest : (b : Basis) (k : ℕ) (rest : Bytes) → ¬ (rest ≡ []) → judge_rest b k rest ≡ refused 2 k
some-rest b k [] m = absurd (m refl)
some-rest b k (x ∷ rest) m = refl

module _ (p n : ℕ) where
  -- The model judges by the line at the front. (Where `most` is 0 there is none.)
  lines_step : (most : ℕ) (found : List (List Term)) (s : Bytes) → length s ≤ most
      → judge_lines most p n found s ≡ judge_line p n (judge_lines (pred most) p n) found (read_line n s)
  unfolding judge_lines judge_line
  lines_step zero found s h = go (read_line n s) refl
    where
      go : (g : Got TextLine) → read_line n s ≡ g → refused 2 (line_after found) ≡ judge_line p n (judge_lines zero p n) found g
      go bad e = refl
      go (got l rest) e = absurd (nothing-front {s = s} h (front-of-read _ _ e))
  lines_step (suc most) found s h = refl

  -- Each outcome is that of the model.
  remaining-to : {o : Judged Basis} (most : ℕ) {found : List (List Term)} {s : Bytes} → length s ≤ most → Remaining p n o found s → judge_lines most p n found s ≡ o
  unfolding judge_line
  remaining-to most {s} h (malformed {got = found} no_line e) = lines_step most found s h ∙ go (read_line n s) refl ∙ sym e
    where
      go : (g : Got TextLine) → read_line n s ≡ g → judge_line p n (judge_lines (pred most) p n) found g ≡ refused 2 (line_after found)
      go bad q = refl
      go (got (header order p' n') rest) q = refl
      go (got (generator terms) rest) q = absurd (no_line (generator terms) rest tt (front-of-read _ _ q))
      go (got (standard monomials) rest) q = refl
      go (got (points count) rest) q = refl
      go (got (end count) rest) q = absurd (no_line (end count) rest tt (front-of-read _ _ q))
  remaining-to most {s} h (generator_refused {got = found} {terms} number f c e) =
      lines_step most found s h ∙ rw (read-of-front _ _ f, (generator-iff p n (suc (length found)) terms (some number)).0 c) (sym e)
  remaining-to most {s} h (generator_passed {got = found} {terms} f c r) =
      lines_step most found s h ∙ rw (read-of-front _ _ f, (generator-iff p n (suc (length found)) terms none).0 c)
      (remaining-to (pred most) (omega (arith, front-shorter f)) r)
  remaining-to most {s} h (end_refused {got = found} {count} number f c e) =
      lines_step most found s h ∙ rw (read-of-front _ _ f, (end-iff (length found) count (some number)).0 c) (sym e)
  remaining-to most {s} h (after_end {got = found} {count} {rest} f c m e) =
      lines_step most found s h ∙ rw (read-of-front _ _ f, (end-iff (length found) count none).0 c) (some-rest _ _ rest m ∙ sym e)
  remaining-to most {s} h (complete {got = found} {count} f c e) =
      lines_step most found s h ∙ rw (read-of-front _ _ f, (end-iff (length found) count none).0 c) (sym e)

  -- That of the model is an outcome.
  remaining-from : (most : ℕ) (found : List (List Term)) (s : Bytes) → length s ≤ most → Remaining p n (judge_lines most p n found s) found s
  unfolding judge_lines judge_line
  remaining-from zero found s h = malformed (λ l rest _. nothing-front h) refl
  remaining-from (suc most) found s h = go (read_line n s) refl (remaining-from most)
    where
      next : List (List Term) → Bytes → Judged Basis
      next = judge_lines most p n

      Sound : Type 0
      Sound = (more : List (List Term)) (rest : Bytes) → length rest ≤ most → Remaining p n (next more rest) more rest

      terms-step : {terms : List Term} {rest : Bytes} → Front n s (generator terms) rest → Sound → (c : Option ℕ) → judge_generator p n (suc (length found)) terms ≡ c
          → Remaining p n (outcome_at (line_after found) c (next (found ++ (terms ∷ [])) rest)) found s
      terms-step {terms} f r (some number) e = generator_refused number f ((generator-iff p n (suc (length found)) terms (some number)).1 e) refl
      terms-step {terms} {rest} f r none e = generator_passed f ((generator-iff p n (suc (length found)) terms none).1 e)
          (r _ rest (omega (arith, front-shorter f)))

      rest-step : {count : ℕ} (rest : Bytes) → Front n s (end count) rest → judge_end (length found) count ≡ none
          → Remaining p n (judge_rest (record { p = p; n = n; generators = found }) (suc (line_after found)) rest) found s
      rest-step {count} [] f e = complete f ((end-iff (length found) count none).1 e) refl
      rest-step {count} (x ∷ rest) f e = after_end f ((end-iff (length found) count none).1 e) cons≢nil refl

      end_step : {count : ℕ} {rest : Bytes} → Front n s (end count) rest → (c : Option ℕ) → judge_end (length found) count ≡ c
          → Remaining p n (outcome_at (line_after found) c (judge_rest (record { p = p; n = n; generators = found }) (suc (line_after found)) rest)) found s
      end_step {count} f (some number) e = end_refused number f ((end-iff (length found) count (some number)).1 e) refl
      end_step {rest} f none e = rest-step rest f e

      wrong-kind : {l : TextLine} {rest : Bytes} → read_line n s ≡ got l rest → ¬ Later l → Remaining p n (refused 2 (line_after found)) found s
      wrong-kind q m = malformed (λ l rest. other-front Later q m) refl

      go : (g : Got TextLine) → read_line n s ≡ g → Sound → Remaining p n (judge_line p n next found g) found s
      go bad q r = malformed (λ l rest _. no_front _ _ q) refl
      go (got (generator terms) rest) q r = terms-step (front-of-read _ _ q) r (judge_generator p n (suc (length found)) terms) refl
      go (got (end count) rest) q r = end_step (front-of-read _ _ q) (judge_end (length found) count) refl
      go (got (header order p' n') rest) q r = wrong-kind q (λ x. x)
      go (got (standard monomials) rest) q r = wrong-kind q (λ x. x)
      go (got (points count) rest) q r = wrong-kind q (λ x. x)

  pub remaining-iff : (most : ℕ) (found : List (List Term)) (s : Bytes) (o : Judged Basis) → length s ≤ most → Remaining p n o found s ↔ (judge_lines most p n found s ≡ o)
  remaining-iff most found s o h = (remaining-to most h, λ e. subst (λ (x : Judged Basis). Remaining p n x found s) e (remaining-from most found s h))
