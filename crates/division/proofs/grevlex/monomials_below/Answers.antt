-- `monomials_below` meets its contract. The loop's invariant: the count is that of j variables.
use mathlib.Core.Path.{refl}
use native.Mathlib.Omega.{arith}
use native.Mathlib.Numerals.{add-one}
use Rattle.division.specs.GrevlexPlace.{monomials_below}
use Rattle.division.proofs.Binomials.{below-divided, space-value, below-product}
use Rattle.division.proofs.grevlex.monomials_below.Goals as goal

pub loop-j-init : goal.loop-j-init
unfolding monomials_below
loop-j-init c = refl

pub overflow_mul-count : goal.overflow_mul-count
overflow_mul-count c =
    let s = c.loop-j in
    omega (arith, space-value, below-product s.j c.args.d s.count (omega arith) (omega arith) s.invariant)

pub loop-j-preserved : goal.loop-j-preserved
loop-j-preserved c = rw (c.loop-j.invariant, add-one) (below-divided c.loop-j.j c.args.d)
