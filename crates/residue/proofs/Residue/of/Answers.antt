-- `Residue::of` meets its contract: a remainder by p is below p.
use mathlib.Core.Path.{refl}
use native.Mathlib.Nat.{mod-lt}
use native.Mathlib.Omega.{arith}
use Rattle.residue.proofs.Residue.of.Goals as goal

pub overflow_cast-result-2 : goal.overflow_cast-result-2
overflow_cast-result-2 c = omega (arith, mod-lt c.args.number c.requires)

pub returns : goal.returns
returns c = (refl, mod-lt _ c.requires)
