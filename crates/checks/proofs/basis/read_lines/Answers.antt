-- `read_lines` meets its contract (proofs/LinesLoop.antt).
use mathlib.Core.Path.{◌≡◌}
use mathlib.Core.List.{List}
use Prim.Native.Nat.{ℕ}
use native.Mathlib.Omega.{arith}
use lib.ListN.{length}
use Rattle.std.proofs.Common.{rules, Some}
use Rattle.std.proofs.lemmas.Result.{err_from_is_err_and}
use Rattle.arrayvec.specs.ArrayVec.{ArrayVec}
use Rattle.lines.specs.Stored.{LinePut}
use Rattle.lines.specs.declared.line.LineTerm.{LineTerm}
use Rattle.checks.proofs.LinesLoop.{LinesInv, stored-behind, start, turn, stop, stop-refused}
use Rattle.checks.proofs.basis.read_lines.Goals.{In-Some}
use Rattle.checks.proofs.basis.read_lines.Goals as goal

-- What holds after a line that passes and is stored.
passed : (c : In-Some) → let a = c.args in let l = c.loop-g in
    (g : ArrayVec LineTerm) (next : ℕ) → c.in_ok-g.field-0 ≡ Some (g, next)
    → (ls : List (ArrayVec LineTerm)) → LinePut l.lines.items (length l.lines.items) g ls → LinesInv a.p a.n a.text.now a.start ls next
passed c g next e ls put = turn _ _ _ _ _ _ c.loop-g.invariant ls next g put (rw (e, c.len.ensures.value) at c.in_ok-g.ensures)

pub loop-g-init : goal.loop-g-init
loop-g-init c = rw c.requires (start _ _ _ _)

pub returns-in_err-g : goal.returns-in_err-g
returns-in_err-g c =
    let e = err_from_is_err_and c.from_residual.result c.from_residual.ensures.1 in
    rw (e.1, e.2) (stop-refused _ _ _ _ _ _ c.loop-g.invariant _ (rw c.len.ensures.value at c.in_err-g.ensures))

pub loop-g-preserved : goal.loop-g-preserved
loop-g-preserved c =
    let put = stored-behind c.put_line.ensures (omega (arith, c.len-in-Some.ensures.value)) in
    search (rules, put, passed (goal.at.loop-g-preserved c).In-Some)

pub returns : goal.returns
returns c = stop _ _ _ _ _ _ c.loop-g.invariant (rw (c.in_default.is, c.len.ensures.value) at c.in_ok-g.ensures)
