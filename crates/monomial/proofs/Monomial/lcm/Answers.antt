-- `Monomial::lcm` meets its contract.
use native.Mathlib.Omega.{arith}
use Rattle.monomial.proofs.Products.{exponent-lcm}
use Rattle.monomial.proofs.Monomial.lcm.Goals as goal

pub returns : goal.returns
returns c = c.combined.ensures _ (λ i h x y z p q e. omega (arith, p, q, e, exponent-lcm))
