-- `Residue::mul` meets its contract: the product is at most 62,500 before it is reduced.
use mathlib.Core.Path.{refl}
use native.Mathlib.Nat.{mod-lt}
use native.Mathlib.Omega.{arith}
use Rattle.residue.specs.Modular.{product_mod}
use Rattle.residue.proofs.Bounds.{product-bound}
use Rattle.residue.proofs.Residue.mul.Goals as goal

pub overflow_mul-result : goal.overflow_mul-result
overflow_mul-result c =
    omega (arith, product-bound _ _ _ c.requires.2 c.requires.0 c.requires.1)

pub returns : goal.returns
unfolding product_mod
returns c = (refl, mod-lt _ (omega arith))
