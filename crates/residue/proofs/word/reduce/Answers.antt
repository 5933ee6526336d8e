-- `reduce` meets its contract: what the quotient leaves is below 2p.
use mathlib.Core.Path.{refl}
use native.Mathlib.Omega.{arith}
use Rattle.residue.proofs.WordQuotients.{product-fits, quotient-below, remainder-near, remainder_is, remainder-less}
use Rattle.residue.proofs.word.reduce.Goals as goal

pub overflow_mul-quotient : goal.overflow_mul-quotient
overflow_mul-quotient c = omega (arith, product-fits c.args.x c.args.over (omega arith) (omega arith))

pub overflow_cast-quotient-3 : goal.overflow_cast-quotient-3
overflow_cast-quotient-3 c = omega (arith, product-fits c.args.x c.args.over (omega arith) (omega arith))

pub overflow_sub-r : goal.overflow_sub-r
overflow_sub-r c = quotient-below c.args.p c.args.x c.args.over _ c.requires.0 c.requires.1 refl

pub overflow_mul-r : goal.overflow_mul-r
overflow_mul-r c = omega (arith, overflow_sub-r c)

pub returns-then-r-p : goal.returns-then-r-p
returns-then-r-p c =
    (remainder_is c.args.p c.args.x c.args.over _ c.requires.0 c.requires.1 refl c.if-r-p.true, c.if-r-p.true)

pub returns-else-r-p : goal.returns-else-r-p
returns-else-r-p c =
    let n = remainder-near c.args.p c.args.x c.args.over _ c.requires.0 c.requires.1 refl (omega arith) in
    (remainder-less c.args.p c.args.x c.args.over _ c.requires.0 c.requires.1 refl (omega arith) (omega arith), omega (arith, n))
