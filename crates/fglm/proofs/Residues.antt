-- The residues that numbers of the code stand for.
--   table_inverse t h   the reciprocals of the table t as residues
--   inverse-law         the table's reciprocals are reciprocals of residues
--   reciprocal-entry    a reciprocal is the one that the table has
use mathlib.Core.Path.{◌≡◌, ◌∙◌}
use mathlib.Core.Logic.{◌≢◌}
use Prim.Native.Nat.{ℕ, ◌<◌}
use native.Mathlib.Omega.{arith}
use Rattle.residue.specs.Modular.{product_mod}
use Rattle.residue.specs.Field.{ZMod, modulo, residue}
use Rattle.residue.specs.Reciprocals.{entry}
use Rattle.residue.specs.declared.reciprocals.Reciprocals.{Reciprocals}
use Rattle.residue.proofs.Residues.{residue-same}
use Rattle.residue.proofs.ModularLaws.{product_mod-comm}
use Rattle.residue.proofs.Remainders.{mod-mul}
use Rattle.residue.proofs.Inverses.{reciprocal-unique}

-- The reciprocals of a table.
unfoldable pub table_inverse : (t : Reciprocals) → 1 < t.field.p → ZMod t.field.p → ZMod t.field.p
table_inverse t h c = residue t.field.p h (entry t.table c.0)

module _ (t : Reciprocals) (h : 1 < t.field.p) where
  pub inverse-law : (c : ZMod t.field.p) → ¬ (c ≡ (modulo t.field.p h).zero) → (modulo t.field.p h).mul (table_inverse t h c) c ≡ (modulo t.field.p h).one
  unfolding table_inverse residue modulo product_mod
  inverse-law c n =
      let m : c.0 ≢ 0 = λ e. n (residue-same e) in
      residue-same (mod-mul _ c.0 t.field.p ∙ product_mod-comm t.field.p _ c.0 ∙ t.serves.inverse c.0 (omega arith) c.1)

  pub reciprocal-entry : (a b : ℕ) → 0 < a → a < t.field.p → product_mod t.field.p a b ≡ 1 → b < t.field.p → b ≡ entry t.table a
  reciprocal-entry a b l m e k = reciprocal-unique t.field.p a b (entry t.table a) (record { below = k; inverse = e }) (record { below = t.serves.residue a l m; inverse = t.serves.inverse a l m })
