-- `check_generator` meets its contract (proofs/FirstTerm.antt).
use Prim.Native.Nat.{◌+◌}
use mathlib.Core.Path.{◌≡◌}
use native.Mathlib.Omega.{arith}
use lib.ListN.{length, take}
use borrow.Author.Rules.{rules}
use Rattle.std.proofs.lemmas.Result.{err_from_is_err_and}
use Rattle.std.specs.Prelude.{Some}
use Rattle.monomial.specs.Sizes.{most_variables}
use Rattle.tabtext.specs.Answers as answers
use Rattle.checks.proofs.KeptTerm.{KeepsTerm}
use Rattle.checks.proofs.FirstTerm.{too_many, no-first, line_refused, good-first, padded-first, later}
use Rattle.checks.proofs.generator.check_generator.Goals.{After-monomial_of, In-Some}
use Rattle.checks.proofs.generator.check_generator.Goals as goal

-- What was read is the term.
reads : (c : In-Some) → let a = c.args in answers.TermSays a.n a.text.now (a.start + 1) (Some (c.in-Some.term, c.in-Some.next))
reads c = c.in-Some.ensures

full : (c : In-Some) → length c.in-Some.term.row ≡ most_variables
full c = search (c.type_inv, rules)

keeps : (c : After-monomial_of) → let a = c.args in
    KeepsTerm a.p a.n (c.in-Some.term.coefficient, take a.n c.in-Some.term.row) (record { coefficient = c.of.result; monomial = c.monomial_of.result })
keeps c = record { coefficient = c.of.ensures.0; monomial = c.monomial_of.ensures }

pub returns-then-k-gt-MAX_LINES : goal.returns-then-k-gt-MAX_LINES
returns-then-k-gt-MAX_LINES c terms a h = too_many _ _ _ terms h (omega arith)

pub returns-in_default : goal.returns-in_default
returns-in_default c terms a h =
    let s = c.args in
    absurd (no-first _ s.text.now s.start terms a h c.in_default.ensures)

pub returns-in_err-check_first : goal.returns-in_err-check_first
returns-in_err-check_first c =
    let e = err_from_is_err_and c.from_residual.result c.from_residual.ensures.1 in
    rw (e.1, e.2) (λ terms a h. line_refused _ _ _ _ _ c.in-Some.term (reads (goal.at.returns-in_err-check_first c).In-Some) _ _ c.in_err-check_first.ensures (omega arith) terms a h)

pub monomial_of-requires : goal.monomial_of-requires
monomial_of-requires c =
    (good-first _ _ _ _ _ c.in-Some.term (reads (goal.at.monomial_of-requires c).In-Some) c.in_ok-check_first.ensures).2

pub of-requires : goal.of-requires
of-requires c =
    omega (arith, (good-first _ _ _ _ _ c.in-Some.term (reads (goal.at.of-requires c).In-Some) c.in_ok-check_first.ensures).1)

pub read_later-requires : goal.read_later-requires
read_later-requires c =
    let r = reads (goal.at.read_later-requires c).In-Some in
    padded-first _ _ _ _ _ c.in-Some.term r c.in_ok-check_first.ensures _ (keeps (goal.at.read_later-requires c).After-monomial_of)

pub returns : goal.returns
returns c =
    let l = c.read_later in
    later _ _ _ _ _ c.in-Some.term (reads (goal.at.returns c).In-Some) c.in_ok-check_first.ensures _ (keeps (goal.at.returns c).After-monomial_of)
    c.args.k l.result (omega (arith, c.if-k-gt-MAX_LINES.false)) (omega (arith, full (goal.at.returns c).In-Some)) l.ensures
