-- The loop of `read_later`, over plain lists: the terms of a poly line after the first.
--   Split           a term, and those ahead of it
--   next-term       the term that stands next is the first of those ahead
--   no-later-term   a tab stands there, so a term does
--   no_more         no tab stands there, so no term is ahead
--   NextTerm        a term that stands next, and the outcome of its checks
--   Rest            what is left to read and to check
--   Inv             what holds at the loop's head
--   start, turn     it holds where the loop begins, and again after a term that passes
--   room            a term that passes has room
--   good            and is good
--   stop            no tab stands there: all terms pass
--   refused         a term is refused
use Prim.Native.Nat.{ℕ, suc, ◌+◌, ◌≤◌, ◌<◌}
use mathlib.Core.Path.{◌≡◌, refl, ap, sym, ◌∙◌}
use mathlib.Core.List.{List, [], ◌∷◌, ◌++◌, append_assoc, append-nil}
use mathlib.Core.Bool.{true, false, false≢true}
use mathlib.Core.Option.{Option, none, some}
use native.Mathlib.Numerals.{add-one}
use native.Mathlib.Omega.{arith}
use lib.ListN.{length, take, drop, length-append}
use lib.Seq.{drop-drop, length-take-le}
use Rattle.arrayvec.specs.ArrayVec.{ArrayVec}
use Rattle.lists.specs.Lists.{Bytes}
use Rattle.monomial.specs.Represented.{row}
use Rattle.monomial.specs.declared.Monomial.{Monomial}
use Rattle.monomial.proofs.Places.{row-monomial}
use Rattle.answer.specs.Outcomes.{pass}
use Rattle.answer.specs.Refusals.{number}
use Rattle.answer.specs.declared.Refusal.{Refusal}
use Rattle.lines.specs.Sizes.{most_terms}
use Rattle.lines.specs.Terms.{Term, as_row}
use Rattle.lines.specs.LineTerms.{exponents_of, term_of, terms_in}
use Rattle.lines.specs.Bases.{Padded, PaddedLine}
use Rattle.lines.specs.declared.line.LineTerm.{LineTerm}
use Rattle.lines.proofs.AsRow.{as_row-exponents, padded-monomial}
use Rattle.lines.proofs.OneMoreTerm.{terms-append, held-longer}
use Rattle.tabtext.specs.Readers.{got, bad, starts_with, read_term}
use Rattle.tabtext.specs.Answers as answers
use Rattle.tabtext.specs.declared.terms.RawTerm.{RawTerm}
use Rattle.tabtext.proofs.Steps.{got-value, got-rest, got-not-bad}
use Rattle.checks.specs.Checks.{check_next, check_terms}
use Rattle.checks.specs.Answers.{Ahead, LaterSays}
use Rattle.checks.proofs.GoodLines.{GoodTerm, skipped, passes-term}
use Rattle.checks.proofs.KeptTerm.{KeepsTerm, kept}
use Rattle.checks.proofs.Sequence.{next-refused, next-passed}
use Rattle.std.specs.Prelude.{Ok, Err, Some}

-- A term stands next: it is the first of those ahead.
pub record Split (n : ℕ) (t : Term) (rest : Bytes) (left : List Term) : Type 0 where
  pub later : List Term
  pub cons : left ≡ t ∷ later
  pub ahead : Ahead n rest later

module _ (n : ℕ) (text : Bytes) (at : ℕ) where
  pub next-term : (left : List Term) {t : Term} {rest : Bytes} → Ahead n (drop at text) left → starts_with 9 (drop at text) ≡ true →
      read_term n (drop (at + 1) text) ≡ got t rest → Split n t rest left
  next-term [] a e q = absurd (false≢true (sym a ∙ e))
  next-term (u ∷ left) a e q =
      let r = sym q ∙ (rw (drop-drop 1 at text) at a.2) in
      record { later = left; cons = ap (λ x. x ∷ left) (sym (got-value r)); ahead = rw (got-rest r) a.3 }

  pub no-later-term : (left : List Term) → Ahead n (drop at text) left → starts_with 9 (drop at text) ≡ true → read_term n (drop (at + 1) text) ≡ bad → ⊥
  no-later-term [] a e q = false≢true (sym a ∙ e)
  no-later-term (u ∷ left) a e q = got-not-bad (sym (rw (drop-drop 1 at text) at a.2) ∙ q)

  pub no_more : (left : List Term) → Ahead n (drop at text) left → starts_with 9 (drop at text) ≡ false → left ≡ []
  no_more [] a e = refl
  no_more (t ∷ left) a e = absurd (false≢true (sym e ∙ a.1))

-- A term stands at the place `at`, up to i, after the first j of a line, the last of which has the monomial `last`; o is the outcome of its checks.
pub record NextTerm (p n : ℕ) (text : Bytes) (j : ℕ) (last : Monomial) (at i : ℕ) (term : RawTerm) (o : Option ℕ) : Type 0 where
  pub tab : starts_with 9 (drop at text) ≡ true
  pub reads : answers.TermSays n text (at + 1) (Some (term, i))
  pub says : (b : Term) → as_row n b.1 ≡ row n last → check_next p n (j + 1) b (term.coefficient, take n term.row) pass o

module _ (p n : ℕ) (text : Bytes) (first : LineTerm) where
  -- The terms `all` after the first, which was read as before₀: what is left of them at the place `at`, after those of g.
  pub record Rest (g : List LineTerm) (last : Monomial) (at : ℕ) (all : List Term) (before₀ : Term) : Type 0 where
    pub left : List Term
    pub before : Term
    pub ahead : Ahead n (drop at text) left
    pub holds : as_row n before.1 ≡ row n last
    pub terms : terms_in n g ++ left ≡ term_of n first ∷ all
    pub checks : (o : Option ℕ) → check_terms p n (suc (length g)) before left o → check_terms p n 2 before₀ all o

  module _ (begin : ℕ) where
    pub record Inv (g : List LineTerm) (last : Monomial) (at : ℕ) : Type 0 where
      pub held : PaddedLine n g
      pub rest : (all : List Term) (before : Term) → Ahead n (drop begin text) all → as_row n before.1 ≡ row n first.monomial → Rest g last at all before

    pub start : Padded n first.monomial → Inv (first ∷ []) first.monomial begin
    unfolding terms_in
    start h = record {
      held = (omega arith, (h, tt));
      rest = λ all before a e. record { left = all; before = before; ahead = a; holds = e; terms = refl; checks = λ o c. c };
    }

    module _ (g : List LineTerm) (last : Monomial) (at : ℕ) (inv : Inv g last at) where
      pub stop : {r : ArrayVec LineTerm} → g ≡ r.items → starts_with 9 (drop at text) ≡ false → (all : List Term) (before : Term) → Ahead n (drop begin text) all →
          as_row n before.1 ≡ row n first.monomial → LaterSays p n first before all (Ok r)
      stop is e all before a h =
          let r = inv.rest all before a h in
          let q = no_more n text at r.left r.ahead e in
          rw (← is) (r.checks none (rw q refl), sym (append-nil _) ∙ (rw q at r.terms), inv.held)

      module _ (i : ℕ) (term : RawTerm) where
        abbrev t : Term
        t = (term.coefficient, take n term.row)

        pub refused : (k : Refusal) → NextTerm p n text (length g) last at i term (some (number k)) → (all : List Term) (before : Term) →
            Ahead n (drop begin text) all → as_row n before.1 ≡ row n first.monomial → LaterSays p n first before all (Err k)
        refused k next all before a h =
            let r = inv.rest all before a h in
            let q = next-term n text at r.left r.ahead next.tab next.reads.reads in
            r.checks (some (number k)) (rw q.cons (next-refused p n (suc (length g)) r.before t (rw add-one at (next.says r.before r.holds))))

        module _ (next : NextTerm p n text (length g) last at i term none) where
          -- It passes after the last term, whatever the coefficient of that one.
          own : check_next p n (length g + 1) (0, exponents_of n last) t pass none
          own = next.says (0, exponents_of n last) (as_row-exponents n last)

          pub room : length g < most_terms
          room = omega (arith, (skipped own).0)

          pub good : GoodTerm p t
          good = (passes-term p t (skipped own).1).0

          pub turn : {u : LineTerm} → n ≤ length term.row → KeepsTerm p n t u → Inv (g ++ (u ∷ [])) u.monomial i
          turn {u} h k =
              let count : length (g ++ (u ∷ [])) ≡ suc (length g) = length-append g (u ∷ []) ∙ add-one _ in
              record {
                held = held-longer n g u room inv.held (padded-monomial n _ k.monomial);
                rest = λ all before a b.
                    let r = inv.rest all before a b in
                    let q = next-term n text at r.left r.ahead next.tab next.reads.reads in
                    record {
                      left = q.later;
                      before = t;
                      ahead = q.ahead;
                      holds = sym (rw k.monomial (row-monomial n _));
                      terms = rw (terms-append, append_assoc, kept p n t k good (length-take-le n term.row h)) (rw q.cons at r.terms);
                      checks = λ o d. r.checks o (rw q.cons (next-passed p n (suc (length g)) r.before t (rw add-one at (next.says r.before r.holds)) (rw count at d)));
                    };
              }
