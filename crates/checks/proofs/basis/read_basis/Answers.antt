-- `read_basis` meets its contract (proofs/BasisLine.antt).
use Prim.Native.Nat.{ℕ}
use mathlib.Core.Path.{◌≡◌, sym, ◌∙◌}
use mathlib.Core.Option.{none}
use borrow.Author.Rules.{rules}
use Rattle.std.proofs.lemmas.Result.{err_from_is_err_and}
use Rattle.lists.specs.Lists.{Bytes}
use Rattle.tabtext.specs.declared.record.Header.{Header}
use Rattle.tabtext.proofs.Records.{RecordLine, record-found, record-none}
use Rattle.checks.specs.Checks.{check_header}
use Rattle.checks.proofs.BasisLine.{BasisLine, basis-of-found, no-basis-line, other-line, basis-refused, lines-decide}
use Rattle.checks.proofs.OtherErrors.{kept-value, old-error}
use Rattle.checks.proofs.basis.read_basis.Goals.{In-Some, In-Header, In_ok-map_err}
use Rattle.checks.proofs.basis.read_basis.Goals as goal

-- The text, and the place after the first line.
abbrev text : In-Some → Bytes
text c = c.args.text.now

abbrev next : In-Some → ℕ
next c = c.in-Some.next

-- The record of the first line.
first : (c : In-Some) → RecordLine 0 1 (text c) 0 c.in-Some.record (next c)
first c = record-found 0 1 (text c) 0 c.in-Some.record (next c) (sym (rw c.new.ensures at c.read_record.ensures) ∙ c.in-Some.is)

-- It is a basis line, and passes.
abbrev head : In-Header → Header
head c = c.in-Header.h

line : (c : In-Header) → BasisLine (text (goal.at.In-Header c).In-Some) (head c) (next (goal.at.In-Header c).In-Some)
line c = basis-of-found _ _ _ (first (goal.at.In-Header c).In-Some) c.in-Header.is

passes : (c : In_ok-map_err) → check_header (line (goal.at.In_ok-map_err c).In-Header).order (head (goal.at.In_ok-map_err c).In-Header).p (head (goal.at.In_ok-map_err c).In-Header).n none
passes c =
    let e = kept-value c.check_header.result c.map_err.result _ c.map_err.ensures.cases c.in_ok-map_err.was in
    rw (e, (line (goal.at.In_ok-map_err c).In-Header).word) at c.check_header.ensures

pub returns-in_default : goal.returns-in_default
returns-in_default c =
    rw c.at.ensures (no-basis-line _ (record-none 0 1 _ 0 (sym (rw c.new.ensures at c.read_record.ensures) ∙ c.in_default.is)))

pub returns-in_default-kind : goal.returns-in_default-kind
returns-in_default-kind c =
    let f = first (goal.at.returns-in_default-kind c).In-Some in
    rw c.at-in_default-kind.ensures (other-line _ (next (goal.at.returns-in_default-kind c).In-Some) f.reads (λ h q. c.in_default-kind.not-Header _ (f.kind ∙ q)))

pub check_header-requires : goal.check_header-requires
check_header-requires c = let l = line c in (l.begins, l.ends)

pub returns-in_err-map_err : goal.returns-in_err-map_err
returns-in_err-map_err c =
    let e = err_from_is_err_and c.from_residual.result c.from_residual.ensures.1 in
    let old = old-error c.check_header.result c.map_err.result _ c.map_err.ensures.cases c.in_err-map_err.was in
    let same : c.in_err-map_err.field-0.0 ≡ record { refusal = old.0; line = 1 } = search (old.2, rules) in
    let l = line (goal.at.returns-in_err-map_err c).In-Header in
    let refused = rw (old.1, l.word) at c.check_header.ensures in
    rw (e.1, e.2, same) (basis-refused _ _ _ _ l refused)

pub returns : goal.returns
returns c =
    rw c.new-basis.ensures
    (lines-decide _ _ _ _ _ (line (goal.at.returns c).In-Header) (passes (goal.at.returns c).In_ok-map_err) (rw c.new-basis.ensures at c.read_lines.ensures))
