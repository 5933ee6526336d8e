-- Whether two vectors of the code are the same.
--   same-residue    two residues are compared by their numbers
--   same-vectors    the comparison of two vectors tells whether all coefficients are equal
use mathlib.Core.Path.{◌≡◌, sym, ◌∙◌, ap}
use mathlib.Core.Bool.{Bool, true}
use mathlib.Core.List.{List}
use mathlib.Core.Logic.{◌↔◌}
use Prim.Native.Nat.{ℕ, ◌<◌}
use native.Mathlib.Omega.{arith}
use lib.ListN.{get_or}
use lib.Pointwise.{pointwise, pointwise_decides}
use lib.Seq.{ext_get_or}
use lib.Dec.{eqb}
use borrow.Author.Tests.{eq-eqb, eqb-true}
use Rattle.residue.specs.declared.Residue.{Residue}
use Rattle.lines.specs.Sizes.{most_standard}
use Rattle.coordinates.specs.Vectors.{coordinate, FullLength}
use Rattle.coordinates.specs.declared.Coordinates.{Coordinates}

same-residue : (x y : Residue) → (eqb x.0 y.0 ≡ true → x ≡ y) × (x ≡ y → eqb x.0 y.0 ≡ true)
same-residue x y = (λ e. ap (λ k. record { 0 = k }) (eqb-true x.0 y.0 e), λ e. eq-eqb x.0 y.0 (ap (λ (z : Residue). z.0) e))

pub same-vectors : (a b : Coordinates) → FullLength a → FullLength b → (t : Bool) → t ≡ pointwise (λ (x y : Residue). eqb x.0 y.0) a.c b.c →
    (t ≡ true) ↔ ((k : ℕ) → k < most_standard → coordinate a k ≡ coordinate b k)
same-vectors a b u v t e =
    let (same, back) = pointwise_decides same-residue a.c b.c in (
      λ q k h. ap (λ (l : List Residue). (get_or l k (record { 0 = 0 })).0) (same (sym e ∙ q)),
      λ q. e ∙ back (ext_get_or (record { 0 = 0 }) a.c b.c (u ∙ sym v) (λ k h. ap (λ k. record { 0 = k }) (q k (omega arith)))),
    )
