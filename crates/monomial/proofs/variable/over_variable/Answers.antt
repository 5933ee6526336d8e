-- `over_variable` meets its contract.
use mathlib.Core.Path.{refl}
use native.Mathlib.Omega.{arith}
use Rattle.monomial.proofs.Products.{divisible-at}
use Rattle.monomial.proofs.Powers.{power_divides}
use Rattle.monomial.proofs.Variables.{quotient-row}
use Rattle.monomial.proofs.variable.over_variable.Goals as goal

pub quotient-requires : goal.quotient-requires
quotient-requires c =
    let (h, d) = c.requires in
    λ j k. rw (c.variable.ensures _ (omega arith) h) ((divisible-at _ _ _).0 ((power_divides _ _ h 1 _).1 d) j k)

pub returns : goal.returns
returns c =
    quotient-row _ _ _ _ _ refl (c.variable.ensures _ (omega arith) c.requires.0) c.quotient.ensures
