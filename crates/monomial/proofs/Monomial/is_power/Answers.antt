-- `Monomial::is_power` meets its contract. The loop's invariant: every exponent below place i but that of v is 0.
use Prim.Native.Nat.{◌<◌}
use native.Mathlib.Omega.{arith}
use borrow.Author.Count.{below_more}
use Rattle.lists.proofs.Testing.{tested-failed, tested-all, same_answer}
use Rattle.monomial.proofs.Products.{power_at}
use Rattle.monomial.proofs.Monomial.is_power.Goals.{else-i-v-via-then-i-v+else-exponent-ne0, else-i-v-via-else-i-v}
use Rattle.monomial.proofs.Monomial.is_power.Goals as goal

pub returns-then-exponent-ne0 : goal.returns-then-exponent-ne0
returns-then-exponent-ne0 c =
    let h : c.loop-i.i < c.args.n = omega arith in
    same_answer (tested-failed _ h (λ e. omega (arith, c.exponent.ensures _ h, c.if-exponent-ne0.true, e (λ q. c.if-i-v.true (omega arith))))) (power_at _ _ _)

pub loop-i-preserved : goal.loop-i-preserved
loop-i-preserved c =
    let h : c.loop-i.i < c.args.n = omega arith in
    below_more _ _ c.loop-i.invariant (λ d. elim c.else-i-v.branch [
      | else-i-v-via-then-i-v+else-exponent-ne0 w ↦ omega (arith, w.exponent.ensures _ h, w.if-exponent-ne0.false)
      | else-i-v-via-else-i-v w ↦ absurd (d (omega arith))
    ])

pub returns : goal.returns
returns c = same_answer (tested-all c.loop-i.i (omega arith) c.loop-i.invariant) (power_at _ _ _)
