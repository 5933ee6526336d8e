-- Inner contracts. Row elimination over the code's rows: what they leave of a vector.
--   reduced p h field L rs x v   x less each of the rows rs times v's entry at its pivot
--   nothing p                    the combinations of the code are of no images
--   LeftOf p s v x               x is what the rows s leave of v
use Rattle.std.specs.Prelude.{◌≡◌, List, ℕ, ◌<◌}
use Rattle.residue.specs.Field.{ZMod, modulo}
use Rattle.residue.specs.RingLaws.{Field}
use Rattle.groebner.proofs.CoefficientElimination.{coefficient_vectors, array_combinations}
use Rattle.groebner.proofs.Coordinates.{sequences}
use Rattle.groebner.proofs.RowElimination.{reduce_row}
use Rattle.lines.specs.Sizes.{most_standard}
use Rattle.coordinates.specs.Vectors.{vector, unit_vector}
use Rattle.coordinates.specs.declared.Coordinates.{Coordinates}
use Rattle.fglm.specs.RowState.{AugmentedRow, State, augmented_row, state_of, SoundVector}
use Rattle.fglm.specs.declared.elimination.AugmentedVector.{AugmentedVector}
use Rattle.fglm.specs.declared.elimination.Rows.{Rows}

-- Row elimination over lists of residues; L is what the combinations are of.
module _ (p : ℕ) (h : 1 < p) (field : Field (modulo p h)) {M : Type 0} (L : M → ℕ → ZMod p) where
  -- What the rows leave of v.
  unfoldable pub reduced : State p → AugmentedRow p → List (ZMod p) → AugmentedRow p
  unfolding coefficient_vectors array_combinations reduce_row
  reduced rs x v =
      reduce_row (coefficient_vectors field.ring most_standard (λ c. field.decide c (modulo p h).zero)) (array_combinations (sequences field.ring) L most_standard) rs v x

-- What the combinations are of does not enter their computation.
abbrev pub nothing : (p : ℕ) → ⊥ → ℕ → ZMod p
nothing p e k = absurd e

-- x is what the rows s leave of v, and the combination that this is.
pub record LeftOf (p : ℕ) (s : Rows) (v : Coordinates) (x : AugmentedVector) : Type 0 where
  pub sound : SoundVector p x
  pub left : (h : 1 < p) (field : Field (modulo p h))
      → augmented_row p h x ≡ reduced p h field (nothing p) (state_of p h s) (record { vector = vector p h v; combination = unit_vector p s.used h }) (vector p h v)
