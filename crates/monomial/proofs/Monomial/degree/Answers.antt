-- `Monomial::degree` meets its contract. The loop's invariant: d is the degree of the first i exponents.
use Prim.Native.Nat.{◌+◌}
use mathlib.Core.Path.{◌≡◌}
use native.Mathlib.Omega.{arith}
use Rattle.monomial.specs.Rows.{degree}
use Rattle.monomial.proofs.Places.{degree-more}
use Rattle.monomial.proofs.Monomial.degree.Goals as goal

pub loop-i-init : goal.loop-i-init
unfolding degree
loop-i-init c = omega arith

pub loop-i-preserved : goal.loop-i-preserved
loop-i-preserved c =
    let i = c.loop-i.i in
    let p = c.exponent.ensures (i + 1) (omega arith) in
    omega (arith, p, degree-more i c.args.self)

pub returns : goal.returns
returns c =
    let e : c.loop-i.i ≡ c.args.n = omega arith in
    rw e at c.loop-i.invariant.1
