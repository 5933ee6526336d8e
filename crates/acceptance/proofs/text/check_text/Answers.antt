-- `check_text` meets its contract (proofs/CheckedSound.antt).
use mathlib.Core.Path.{refl}
use Rattle.std.proofs.lemmas.Result.{err_from_is_err_and}
use Rattle.acceptance.specs.Answers.{lines_refused, lines_passed}
use Rattle.acceptance.proofs.CheckedSound.{checked-sound}
use Rattle.acceptance.proofs.text.check_text.Goals as goal

pub returns-in_err-read_basis : goal.returns-in_err-read_basis
returns-in_err-read_basis c =
    let e = err_from_is_err_and c.from_residual.result c.from_residual.ensures.1 in
    rw (e.1, e.2) (lines_refused refl c.in_err-read_basis.ensures)

pub check_whole-requires : goal.check_whole-requires
check_whole-requires c = (c.requires, checked-sound _ _ c.in_ok-read_basis.ensures.0)

pub returns : goal.returns
returns c = lines_passed c.in_ok-read_basis.ensures.0 c.check_whole.ensures
