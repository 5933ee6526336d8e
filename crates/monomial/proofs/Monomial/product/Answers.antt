-- `Monomial::product` meets its contract.
use native.Mathlib.Omega.{arith}
use Rattle.monomial.proofs.Products.{exponent-product}
use Rattle.monomial.proofs.Monomial.product.Goals as goal

pub returns : goal.returns
returns c = c.combined.ensures _ (λ i h x y z p q e. omega (arith, p, q, e, exponent-product))
