-- `Monomial::quotient` meets its contract.
use native.Mathlib.Omega.{arith}
use Rattle.monomial.proofs.Products.{exponent-quotient}
use Rattle.monomial.proofs.Monomial.quotient.Goals as goal

pub returns : goal.returns
returns c = c.combined.ensures _ (λ i h x y z p q e. omega (arith, p, q, e, exponent-quotient))
