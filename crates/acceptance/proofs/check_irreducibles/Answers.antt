-- `check_irreducibles` meets its contract (proofs/WholeChecks.antt).
use mathlib.Core.Path.{◌≡◌}
use native.Mathlib.Omega.{arith}
use Rattle.std.specs.Prelude.{Some, None}
use Rattle.std.proofs.lemmas.Result.{err_from_is_err_and}
use Rattle.staircase.specs.Listed.{ListsIrreducibles}
use Rattle.staircase.proofs.SoundLines.{sound-lines}
use Rattle.staircase.proofs.IrreducibleLists.{sorted-irreducibles}
use Rattle.acceptance.proofs.WholeChecks.{says-refused, whole-large, lines_clear, whole-failing, failing, whole-passes}
use Rattle.acceptance.proofs.check_irreducibles.Goals.{After-by_grevlex-s, In_ok-l}
use Rattle.acceptance.proofs.check_irreducibles.Goals as goal

-- The list of the irreducible monomials.
counted : (c : In_ok-l) → c.list_irreducibles.result ≡ Some c.in_ok-l.l
counted c = grind arith

irreducible : (c : After-by_grevlex-s) → ListsIrreducibles c.args.basis.now c.by_grevlex-s.result.items
irreducible c =
    let b = c.requires.1 in
    let (all, few) = rw (counted (goal.at.After-by_grevlex-s c).In_ok-l) at c.list_irreducibles.ensures in
    sorted-irreducibles _ b.sound _ b.leading _ _ all few (rw c.deref.ensures.0 at c.by_grevlex-s.ensures)

pub returns-in_err-l : goal.returns-in_err-l
returns-in_err-l c =
    let e = err_from_is_err_and c.from_residual.result c.from_residual.ensures.1 in
    let many : c.list_irreducibles.result ≡ None = grind arith in
    let same : c.in_err-l.field-0.0 ≡ c.at.result = grind arith in
    let b = c.requires.1 in
    let counted = rw many at c.list_irreducibles.ensures in
    rw (e.1, e.2, same, c.at.ensures) (says-refused _ _ _ (whole-large _ _ b.leading b.pass counted.0))

pub is_groebner-requires : goal.is_groebner-requires
is_groebner-requires c =
    let (none, b) = c.requires in (
      none,
      record {
        sound = b.sound;
        irreducibles = rw c.deref-2.ensures.0 (irreducible (goal.at.is_groebner-requires c).After-by_grevlex-s);
        lines = sound-lines _ b.sound;
        clear = lines_clear _ b.pass;
        zero_dimensional = λ h. (b.pass h).1;
      },
    )

pub failing_line-line-requires : goal.failing_line-line-requires
failing_line-line-requires c =
    let b = c.requires.1 in
    let accepted = rw c.deref-2.ensures.0 at c.is_groebner.ensures in
    failing _ b.sound b.pass _ (irreducible (goal.at.failing_line-line-requires c).After-by_grevlex-s) _ _ accepted c.if-not-is_groebner.true

pub returns-then-not-is_groebner : goal.returns-then-not-is_groebner
returns-then-not-is_groebner c =
    let b = c.requires.1 in
    let l = irreducible (goal.at.returns-then-not-is_groebner c).After-by_grevlex-s in
    rw c.at-then-not-is_groebner.ensures
    (says-refused _ _ _ (whole-failing _ b.sound b.pass _ l _ c.failing_line-line.ensures))

pub returns : goal.returns
returns c =
    let b = c.requires.1 in
    let accepted = rw c.deref-2.ensures.0 at c.is_groebner.ensures in
    whole-passes _ b.sound b.pass _ (irreducible (goal.at.returns c).After-by_grevlex-s) _ _ accepted c.if-not-is_groebner.false
