-- `read_later` meets its contract (proofs/LaterTerms.antt).
use Prim.Native.Nat.{◌+◌}
use mathlib.Core.Path.{◌≡◌, refl, sym, ◌∙◌}
use mathlib.Core.Bool.{true}
use mathlib.Core.Option.{none, some}
use native.Mathlib.Omega.{arith}
use borrow.Author.Rules.{rules}
use lib.ListN.{length, take, drop}
use Rattle.std.proofs.lemmas.Result.{err_from_is_err_and}
use Rattle.answer.specs.Refusals.{number}
use Rattle.std.specs.Prelude.{Some}
use Rattle.monomial.specs.Sizes.{most_variables}
use Rattle.tabtext.specs.Readers.{starts_with}
use Rattle.tabtext.specs.Answers as answers
use Rattle.tabtext.proofs.Places.{starts-within}
use Rattle.checks.proofs.KeptTerm.{KeepsTerm}
use Rattle.checks.proofs.LaterTerms.{NextTerm, start, stop, no-later-term, refused, room, good, turn}
use Rattle.checks.proofs.generator.read_later.Goals.{After-of, In-loop-n, In-Some, In_err-check_next, In_ok-check_next}
use Rattle.checks.proofs.generator.read_later.Goals as goal

-- A tab stands before the term, and what was read is the term.
tab : (c : In-loop-n) → starts_with 9 (drop c.loop-n.at c.args.text.now) ≡ true
tab c = sym c.byte_is.ensures ∙ c.loop-n-test.true

reads : (c : In-Some) → let a = c.args in answers.TermSays a.n a.text.now (c.loop-n.at + 1) (Some (c.in-Some.term, c.in-Some.next))
reads c = c.in-Some.ensures

full : (c : In-Some) → length c.in-Some.term.row ≡ most_variables
full c = search (c.type_inv, rules)

-- The term that stands next, and that its checks pass.
term : (c : In_ok-check_next) → let a = c.args in let l = c.loop-n in
    NextTerm a.p a.n a.text.now (length l.g.items) l.last l.at c.in-Some.next c.in-Some.term none
term c = record { tab = tab (goal.at.In_ok-check_next c).In-loop-n; reads = reads (goal.at.In_ok-check_next c).In-Some; says = rw c.len.ensures.value at c.in_ok-check_next.ensures }

-- The term that stands next, and the refusal.
refusal : (c : In_err-check_next) → let a = c.args in let l = c.loop-n in
    NextTerm a.p a.n a.text.now (length l.g.items) l.last l.at c.in-Some.next c.in-Some.term (some (number c.in_err-check_next.field-0.0))
refusal c = record { tab = tab (goal.at.In_err-check_next c).In-loop-n; reads = reads (goal.at.In_err-check_next c).In-Some; says = rw c.len.ensures.value at c.in_err-check_next.ensures }

keeps : (c : After-of) → let a = c.args in let r = c.in-Some.term in
    KeepsTerm a.p a.n (r.coefficient, take a.n r.row) (record { coefficient = c.of.result; monomial = c.monomial_of-last.result })
keeps c = record { coefficient = c.of.ensures.0; monomial = c.monomial_of-last.ensures }

pub loop-n-init : goal.loop-n-init
loop-n-init c = rw (c.push.ensures.items, c.new-g.ensures) (start _ _ _ _ _ c.requires)

pub overflow_add-at : goal.overflow_add-at
overflow_add-at c = let a = c.args in omega (arith, starts-within 9 a.text.now c.loop-n.at (tab c))

pub returns-in_default : goal.returns-in_default
returns-in_default c =
    let i = c.loop-n.invariant in
    λ left before a h. let rest = i.rest left before a h in absurd (no-later-term _ _ c.loop-n.at rest.left rest.ahead (tab (goal.at.returns-in_default c).In-loop-n) c.in_default.ensures)

pub returns-in_err-check_next : goal.returns-in_err-check_next
returns-in_err-check_next c =
    let e = err_from_is_err_and c.from_residual.result c.from_residual.ensures.1 in
    rw (e.1, e.2) (refused _ _ _ _ _ _ _ _ c.loop-n.invariant _ _ _ (refusal (goal.at.returns-in_err-check_next c).In_err-check_next))

pub monomial_of-last-requires : goal.monomial_of-last-requires
monomial_of-last-requires c =
    (good _ _ _ _ _ _ _ _ c.loop-n.invariant _ _ (term (goal.at.monomial_of-last-requires c).In_ok-check_next)).2

pub of-requires : goal.of-requires
of-requires c =
    omega (arith, (good _ _ _ _ _ _ _ _ c.loop-n.invariant _ _ (term (goal.at.of-requires c).In_ok-check_next)).1)

pub push-requires-in-loop-n : goal.push-requires-in-loop-n
push-requires-in-loop-n c =
    omega (arith, room _ _ _ _ _ _ _ _ c.loop-n.invariant _ _ (term (goal.at.push-requires-in-loop-n c).In_ok-check_next))

pub loop-n-smaller : goal.loop-n-smaller
loop-n-smaller c = let t = (term (goal.at.loop-n-smaller c).In_ok-check_next).reads in omega (arith, t.after, t.inside)

pub loop-n-preserved : goal.loop-n-preserved
loop-n-preserved c =
    rw c.push-in-loop-n.ensures.items
    (turn _ _ _ _ _ _ _ _ c.loop-n.invariant _ _ (term (goal.at.loop-n-preserved c).In_ok-check_next)
    (omega (arith, full (goal.at.loop-n-preserved c).In-Some)) (keeps (goal.at.loop-n-preserved c).After-of))

pub returns : goal.returns
returns c = stop _ _ _ _ _ _ _ _ c.loop-n.invariant refl (sym c.byte_is.ensures ∙ c.loop-n-test.false)
