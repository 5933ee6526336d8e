-- `convert` meets its contract (proofs/TextOutcome.antt).
use native.Mathlib.Omega.{arith}
use Rattle.std.proofs.lemmas.Result.{err_from_is_err_and}
use Rattle.convert.proofs.TextOutcome.{passed-basis, too_long, refused-text, text-finished}
use Rattle.convert.proofs.convert.Goals as goal

pub returns-then-input-gt-MAX_BYTES : goal.returns-then-input-gt-MAX_BYTES
returns-then-input-gt-MAX_BYTES c = rw c.at.ensures (too_long _ _ (omega (arith, c.if-input-gt-MAX_BYTES.true)))

pub returns-in_err-irreducibles : goal.returns-in_err-irreducibles
returns-in_err-irreducibles c =
    let e = err_from_is_err_and c.from_residual.result c.from_residual.ensures.1 in
    rw (e.1, e.2) (refused-text _ _ _ _ (omega (arith, c.if-input-gt-MAX_BYTES.false)) _ c.in_err-irreducibles.ensures)

pub convert_basis-requires : goal.convert_basis-requires
convert_basis-requires c = rw c.deref.ensures.0 (passed-basis _ _ _ _ c.in_ok-irreducibles.ensures)

pub returns : goal.returns
returns c = text-finished _ _ _ _ (omega (arith, c.if-input-gt-MAX_BYTES.false)) _ c.in_ok-irreducibles.ensures _ _ c.convert_basis.ensures
