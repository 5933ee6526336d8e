-- `Monomial::compare_backwards` meets its contract. The loop's invariant: the variables below i decide.
use mathlib.Core.Path.{◌≡◌}
use native.Mathlib.Omega.{arith}
use Rattle.monomial.specs.Orders.{lex, backwards}
use Rattle.monomial.proofs.LexSteps.{lex-tie, lex-decided, backwards-cons}
use Rattle.monomial.proofs.Monomial.compare_backwards.Goals as goal

pub loop-i-preserved : goal.loop-i-preserved
loop-i-preserved c =
    lex-tie _ _ _ (backwards-cons c.loop-i.i (omega arith)) c.loop-i.invariant (c.compare_at-c.ensures _ (omega arith)) c.in-Equal.is

pub returns-in_default : goal.returns-in_default
returns-in_default c =
    lex-decided _ _ _ (backwards-cons c.loop-i.i (omega arith)) c.loop-i.invariant
    (c.compare_at-c.ensures _ (omega arith))
    c.in_default.not-Equal

pub returns : goal.returns
unfolding lex backwards
returns c =
    let z : c.loop-i.i ≡ 0 = omega arith in
    rw z at c.loop-i.invariant
