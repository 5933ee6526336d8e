-- `put_line` meets its contract.
use Rattle.std.proofs.Common.{arith, refl, length, ◌≤◌}
use Rattle.lines.proofs.StoredTerms.{storing-start, storing-turn, storing-stop}
use Rattle.lines.proofs.store.put_line.Goals.{After-min-at}
use Rattle.lines.proofs.store.put_line.Goals as goal

-- The place is one of the lines' or the next.
place : (c : After-min-at) → c.min-at.result ≤ length c.args.lines.now.items
place c = omega (arith, c.min-at.ensures, c.len.ensures.value)

pub loop-j-init : goal.loop-j-init
loop-j-init c = storing-start _ _ _ _ _ _ _ c.blanks.ensures c.put.ensures (omega (arith, c.len-2.ensures.value)) (omega arith)

pub loop-j-preserved : goal.loop-j-preserved
loop-j-preserved c =
    storing-turn _ _ _ (place (goal.at.loop-j-preserved c).After-min-at) c.loop-j.j (omega (arith, c.len-j-end.ensures.value, c.loop-j-test.true)) _ _ _ _ _ _ _ refl c.loop-j.invariant
    (rw c.deref.ensures.0 at c.put_coefficient.ensures) (rw c.deref.ensures.0 at c.put_monomial.ensures) (omega arith) (omega arith)

pub returns : goal.returns
returns c =
    storing-stop _ _ _ (place (goal.at.returns c).After-min-at) c.loop-j.j _ (omega (arith, c.len-j-end.ensures.value, c.loop-j-test.false)) c.loop-j.invariant
    c.args.k (omega (arith, c.min-at.ensures, c.len.ensures.value))
