-- `read_line` meets its contract.
use Prim.Native.Nat.{ℕ, ◌+◌}
use mathlib.Core.Path.{◌≡◌, sym, ◌∙◌}
use borrow.Author.Rules.{rules}
use Rattle.std.proofs.lemmas.Result.{err_from_is_err_and}
use Rattle.lists.specs.Lists.{Bytes}
use Rattle.tabtext.proofs.Records.{RecordLine, record-found, record-none}
use Rattle.checks.proofs.OtherErrors.{kept-value, old-error}
use Rattle.checks.proofs.LineVerdicts.{none-stands, other-stands, poly-refused}
use Rattle.checks.proofs.FoundKinds.{GeneratorKind, poly-of-found, poly-passed, end-of-found, other-kind}
use Rattle.checks.proofs.basis.read_line.Goals.{In-End, In-Some, In-Generator}
use Rattle.checks.proofs.basis.read_line.Goals as goal

-- The text, and the place after the line.
abbrev text : In-Some → Bytes
text c = c.args.text.now

abbrev next : In-Some → ℕ
next c = c.in-Some.next

-- The record of the line.
line : (c : In-Some) → let a = c.args in RecordLine a.n (a.k + 2) (text c) a.at c.in-Some.record (next c)
line c = record-found _ _ (text c) c.args.at c.in-Some.record (next c) (sym c.read_record.ensures ∙ c.in-Some.is)

-- It is a poly line.
poly : (c : In-Generator) → let a = c.args in GeneratorKind a.n (text (goal.at.In-Generator c).In-Some) a.at c.in-Generator.span.start (next (goal.at.In-Generator c).In-Some)
poly c = poly-of-found _ _ _ _ _ _ (line (goal.at.In-Generator c).In-Some) c.in-Generator.is

pub returns-in_default : goal.returns-in_default
returns-in_default c =
    rw c.at.ensures (none-stands _ _ _ _ (record-none _ _ _ c.args.at (sym c.read_record.ensures ∙ c.in_default.is)))

pub check_generator-requires : goal.check_generator-requires
check_generator-requires c = (poly c).begins

pub returns-in_err-generator-in-Generator : goal.returns-in_err-generator-in-Generator
returns-in_err-generator-in-Generator c =
    let e = err_from_is_err_and c.from_residual.result c.from_residual.ensures.1 in
    let old = old-error c.check_generator.result c.map_err.result _ c.map_err.ensures.cases c.in_err-generator-in-Generator.was in
    let g = poly (goal.at.returns-in_err-generator-in-Generator c).In-Generator in
    let says = rw old.1 at (c.check_generator.ensures g.terms g.ahead g.some) in
    let same : c.in_err-generator-in-Generator.field-0.0 ≡ record { refusal = old.0; line = c.args.k + 2 } = search (old.2, rules) in
    rw (e.1, e.2, same) (poly-refused _ _ _ _ old.0 g.reads says)

pub returns-in_ok-generator-in-Generator : goal.returns-in_ok-generator-in-Generator
returns-in_ok-generator-in-Generator c =
    let g = poly (goal.at.returns-in_ok-generator-in-Generator c).In-Generator in
    let e = kept-value c.check_generator.result c.map_err.result _ c.map_err.ensures.cases c.in_ok-generator-in-Generator.was in
    poly-passed _ _ _ _ _ _ _ _ g (rw e at (c.check_generator.ensures g.terms g.ahead g.some))

-- What the answer to the end line says.
pub returns-in_err-check_end-in-End : goal.returns-in_err-check_end-in-End
returns-in_err-check_end-in-End c =
    let r = c.from_residual-in_err-check_end-in-End in
    let e = err_from_is_err_and r.result r.ensures.1 in
    rw (e.1, e.2) (c.in_err-check_end-in-End.ensures _ _ _ (end-of-found _ _ _ _ _ _ (line (goal.at.returns-in_err-check_end-in-End c).In-Some) c.in-End.is))

pub returns-in_ok-check_end-in-End : goal.returns-in_ok-check_end-in-End
returns-in_ok-check_end-in-End c =
    c.in_ok-check_end-in-End.ensures _ _ _ (end-of-found _ _ _ _ _ _ (line (goal.at.returns-in_ok-check_end-in-End c).In-Some) c.in-End.is)

pub returns-in_default-kind : goal.returns-in_default-kind
returns-in_default-kind c =
    let f = line (goal.at.returns-in_default-kind c).In-Some in
    rw c.at-in_default-kind.ensures (other-stands _ _ _ _ f.reads (other-kind c.args.at (next (goal.at.returns-in_default-kind c).In-Some) f.text
    (λ span q. c.in_default-kind.not-Generator _ (f.kind ∙ q))
    (λ count q. c.in_default-kind.not-End _ (f.kind ∙ q))))
