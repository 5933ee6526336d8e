-- A poly line of one or more terms, by its first term.
--   too_many       the line is one too many
--   tab            a tab stands before the first term
--   no-first       a term stands first
--   line_refused   the first term is refused
--   good-first     it passes, and is good
--   padded-first   its monomial is 0 from place n on
--   later          the first term passes, and the later ones decide
use Prim.Native.Nat.{ℕ, ◌+◌, ◌≤◌, ◌<◌}
use mathlib.Core.Path.{◌≡◌, refl, ap, sym, ◌∙◌}
use mathlib.Core.List.{List, [], ◌∷◌}
use mathlib.Core.Logic.{inl, inr}
use mathlib.Core.Bool.{true}
use mathlib.Core.Option.{none, some}
use native.Mathlib.Omega.{arith}
use lib.ListN.{length, take, drop}
use lib.Seq.{length-take-le}
use Rattle.arrayvec.specs.ArrayVec.{ArrayVec}
use Rattle.lists.specs.Lists.{Bytes}
use Rattle.monomial.specs.Represented.{row}
use Rattle.monomial.proofs.Places.{row-monomial}
use Rattle.answer.specs.Outcomes.{pass}
use Rattle.answer.specs.Refusals.{number}
use Rattle.answer.specs.declared.Refusal.{Refusal}
use Rattle.lines.specs.Sizes.{most_lines}
use Rattle.lines.specs.Terms.{Term, as_row}
use Rattle.lines.specs.LineTerms.{term_of}
use Rattle.lines.specs.Bases.{Padded}
use Rattle.lines.specs.declared.line.LineTerm.{LineTerm}
use Rattle.lines.proofs.AsRow.{padded-monomial}
use Rattle.tabtext.specs.Readers.{bad, starts_with, read_term}
use Rattle.tabtext.specs.Answers as answers
use Rattle.tabtext.specs.declared.terms.RawTerm.{RawTerm}
use Rattle.checks.specs.Checks.{check_first, check_generator}
use Rattle.checks.specs.Answers.{Ahead, LaterSays, GeneratorSays}
use Rattle.checks.proofs.GoodLines.{GoodTerm, passes-term}
use Rattle.checks.proofs.KeptTerm.{KeepsTerm, kept}
use Rattle.checks.proofs.Sequence.{first-refused, first-passed}
use Rattle.checks.proofs.LaterTerms.{next-term, no-later-term}
use Rattle.std.specs.Prelude.{Result, Ok, Err, Some}

pub too_many : (p n k : ℕ) (terms : List Term) → 1 ≤ length terms → most_lines < k → check_generator p n k terms (some 10)
too_many p n k [] h g = absurd (omega arith)
too_many p n k (t ∷ terms) h g = inl (g, refl)

pub tab : (n : ℕ) (s : Bytes) (terms : List Term) → Ahead n s terms → 1 ≤ length terms → starts_with 9 s ≡ true
tab n s [] a h = absurd (omega arith)
tab n s (t ∷ terms) a h = a.1

pub no-first : (n : ℕ) (text : Bytes) (start : ℕ) (terms : List Term) → Ahead n (drop start text) terms → 1 ≤ length terms →
    read_term n (drop (start + 1) text) ≡ bad → ⊥
no-first n text start terms a h = no-later-term n text start terms a (tab n (drop start text) terms a h)

-- The first term stands at the place.
module _ (p n : ℕ) (text : Bytes) (start i : ℕ) (term : RawTerm) (reads : answers.TermSays n text (start + 1) (Some (term, i))) where
  abbrev t : Term
  t = (term.coefficient, take n term.row)

  pub line_refused : (k : ℕ) (r : Refusal) → check_first p t pass (some (number r)) → k ≤ most_lines → (terms : List Term) → Ahead n (drop start text) terms →
      1 ≤ length terms → check_generator p n k terms (some (number r))
  line_refused k r says b terms a h =
      let q = next-term n text start terms a (tab n (drop start text) terms a h) reads.reads in
      rw q.cons (inr (λ g. omega arith, first-refused p t says))

  -- It passes.
  module _ (passes : check_first p t pass none) where
    pub good-first : GoodTerm p t
    good-first = (passes-term p t passes).0

    -- The term `first` of the code is made of it.
    module _ (first : LineTerm) (keeps : KeepsTerm p n t first) where
      pub padded-first : Padded n first.monomial
      padded-first = padded-monomial n _ keeps.monomial

      line-says : (k : ℕ) (left : List Term) (r : Result (ArrayVec LineTerm) Refusal) → k ≤ most_lines → n ≤ length term.row → LaterSays p n first t left r →
          GeneratorSays p n k (t ∷ left) r
      line-says k left (Ok g) b h l =
          let same : term_of n first ≡ t = kept p n t keeps good-first (length-take-le n term.row h) in
          (inr (λ g. omega arith, first-passed p t passes l.0), l.1 ∙ ap (λ x. x ∷ left) same, l.2)
      line-says k left (Err x) b h l = inr (λ g. omega arith, first-passed p t passes l)

      pub later : (k : ℕ) (r : Result (ArrayVec LineTerm) Refusal) → k ≤ most_lines → n ≤ length term.row →
          ((left : List Term) (before : Term) → Ahead n (drop i text) left → as_row n before.1 ≡ row n first.monomial → LaterSays p n first before left r) →
          (terms : List Term) → Ahead n (drop start text) terms → 1 ≤ length terms → GeneratorSays p n k terms r
      later k r b h rest terms a g =
          let q = next-term n text start terms a (tab n (drop start text) terms a g) reads.reads in
          rw q.cons (line-says k q.later r b h (rest q.later t q.ahead (sym (rw keeps.monomial (row-monomial n _)))))
