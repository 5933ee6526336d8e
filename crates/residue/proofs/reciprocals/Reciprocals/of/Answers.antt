-- `Reciprocals::of` meets its contract: the table has the reciprocal of a at a.
use mathlib.Core.Path.{◌≡◌, subst}
use Prim.Native.Nat.{◌<◌}
use native.Mathlib.Omega.{arith}
use Rattle.residue.specs.Modular.{product_mod}
use Rattle.residue.specs.Reciprocals.{entry}
use Rattle.residue.proofs.reciprocals.Reciprocals.of.Goals as goal

pub returns : goal.returns
returns c =
    let f = c.args.self in
    let (h, k) = c.requires in
    subst (λ i. (product_mod f.field.p c.args.a.0 (entry f.table i) ≡ 1) × (entry f.table i < f.field.p)) (omega arith) (f.serves.inverse _ h k, f.serves.residue _ h k)
