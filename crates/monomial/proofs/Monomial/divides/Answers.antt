-- `Monomial::divides` meets its contract. The loop's invariant: no exponent below place i is larger.
use Prim.Native.Nat.{◌<◌}
use native.Mathlib.Omega.{arith}
use borrow.Author.Count.{below_more}
use Rattle.lists.proofs.Testing.{tested-failed, tested-all, same_answer}
use Rattle.monomial.proofs.Products.{divides-at}
use Rattle.monomial.proofs.Monomial.divides.Goals as goal

pub returns-then-exponent : goal.returns-then-exponent
returns-then-exponent c =
    let h : c.loop-i.i < c.args.n = omega arith in
    same_answer (tested-failed _ h (λ l. omega (arith, c.exponent.ensures _ h, c.exponent-in-loop-i.ensures _ h))) (divides-at _ _ _)

pub loop-i-preserved : goal.loop-i-preserved
loop-i-preserved c =
    let h : c.loop-i.i < c.args.n = omega arith in
    below_more _ _ c.loop-i.invariant (omega (arith, c.exponent.ensures _ h, c.exponent-in-loop-i.ensures _ h))

pub returns : goal.returns
returns c = same_answer (tested-all c.loop-i.i (omega arith) c.loop-i.invariant) (divides-at _ _ _)
