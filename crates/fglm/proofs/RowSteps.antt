-- Steps of the elimination on one row, by the multiplier that the code has.
--   sound-vector              vectors that represent lists of residues are sound
--   less-sound, times-sound   so are a difference and a multiple
--   less_none                 less zero times a vector it is as it was
--   cleared_by                a row less a multiple of another, by its entry at the other's pivot
--   cleared-none              a row that is zero at the other's pivot is cleared as it is
--   scaled-by                 a vector times a number, by the reciprocal of its entry at a place
use mathlib.Core.Path.{◌≡◌, refl, subst}
use mathlib.Core.List.{List}
use Prim.Native.Nat.{ℕ, ◌<◌}
use native.Mathlib.Omega.{arith}
use Rattle.residue.specs.Field.{ZMod}
use Rattle.residue.specs.Reciprocals.{entry}
use Rattle.residue.specs.declared.reciprocals.Reciprocals.{Reciprocals}
use Rattle.coordinates.specs.Vectors.{coordinate, Represents}
use Rattle.coordinates.proofs.VectorEntries.{subtracted-none}
use Rattle.fglm.specs.RowState.{SoundVector, SoundRow}
use Rattle.fglm.specs.Steps.{LessMultiple, TimesNumber, Scaled, ClearedRow}
use Rattle.fglm.specs.declared.elimination.AugmentedVector.{AugmentedVector}
use Rattle.fglm.specs.declared.elimination.Reduced.{Reduced}

pub sound-vector : {p : ℕ} {x : AugmentedVector} {a b : 1 < p → List (ZMod p)} → Represents p x.vector a → Represents p x.combination b → SoundVector p x
sound-vector a b = record { vector_whole = a.whole; combination_whole = b.whole; vector_below = a.below; combination_below = b.below }

pub less-sound : {p : ℕ} {x w y : AugmentedVector} {c : ℕ} → LessMultiple p x c w y → SoundVector p y
less-sound l = sound-vector l.vector l.combination

pub times-sound : {p : ℕ} {x y : AugmentedVector} {c : ℕ} → TimesNumber p x c y → SoundVector p y
times-sound m = sound-vector m.vector m.combination

pub less_none : {p : ℕ} {x w : AugmentedVector} {c : ℕ} → 1 < p → SoundVector p x → SoundVector p w → c ≡ 0 → LessMultiple p x c w x
less_none {p} {c = c} h s t e = record {
  vector = subtracted-none p _ _ c s.vector_whole t.vector_whole s.vector_below (omega arith) e;
  combination = subtracted-none p _ _ c s.combination_whole t.combination_whole s.combination_below (omega arith) e;
}

pub cleared_by : {p : ℕ} {q r : Reduced} {y : AugmentedVector} {c : ℕ} → c ≡ coordinate r.row.vector q.pivot → LessMultiple p r.row c q.row y
    → ClearedRow p q r (record { pivot = r.pivot; row = y })
cleared_by {p} {q} {r} {y} e l = record { pivot = refl; row = subst (λ x. LessMultiple p r.row x q.row y) e l }

pub cleared-none : {p : ℕ} {q r : Reduced} → 1 < p → SoundRow p q → SoundRow p r → coordinate r.row.vector q.pivot ≡ 0 → ClearedRow p q r r
cleared-none h s t e = cleared_by refl (less_none h t.row s.row e)

pub scaled-by : {t : Reciprocals} {x y : AugmentedVector} {k c : ℕ} → c ≡ entry t.table (coordinate x.vector k) → TimesNumber t.field.p x c y
    → Scaled t x k (record { pivot = k; row = y })
scaled-by {t} {x} {y} e m = record { pivot = refl; row = subst (λ c. TimesNumber t.field.p x c y) e m }
