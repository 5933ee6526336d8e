-- Inner contracts. The rows that the code holds, as lists of residues.
--   AugmentedRow p          a vector with its combination
--   ReducedRow p, State p   such a row with its pivot, and a list of such rows
--   augmented_row p h x     a vector of the code with its combination
--   reduced_row p h r       a row of the code
--   no_row, row_at s k      row k; no_row stands past the end
--   state_of p h s          the rows of the code that are used
--   SoundVector p x         the vector and the combination x are whole, and their entries below p
--   SoundRow p r            those of the row r are so, and its pivot is one of their places
--   SoundRows p s           each row that is used is so, and there is room for them
use Rattle.std.specs.Prelude.{List, [], map, ℕ, ◌<◌, ◌≤◌, get_or, take}
use Rattle.residue.specs.Field.{ZMod}
use Rattle.groebner.specs.CoefficientRows.{Pivoted, Augmented}
use Rattle.lines.specs.Sizes.{most_standard}
use Rattle.coordinates.specs.Vectors.{Below, vector, FullLength}
use Rattle.fglm.specs.declared.elimination.AugmentedVector.{AugmentedVector}
use Rattle.fglm.specs.declared.elimination.Reduced.{Reduced}
use Rattle.fglm.specs.declared.elimination.Rows.{Rows}

-- A vector with its combination.
abbrev pub AugmentedRow : ℕ → Type 0
AugmentedRow p = Augmented (List (ZMod p)) (List (ZMod p))

-- With its pivot.
abbrev pub ReducedRow : ℕ → Type 0
ReducedRow p = Pivoted (AugmentedRow p)

-- The rows of an elimination.
abbrev pub State : ℕ → Type 0
State p = List (ReducedRow p)

-- A vector of the code with its combination.
abbrev pub augmented_row : (p : ℕ) → 1 < p → AugmentedVector → AugmentedRow p
augmented_row p h x = record { vector = vector p h x.vector; combination = vector p h x.combination }

-- A row of the code.
abbrev pub reduced_row : (p : ℕ) → 1 < p → Reduced → ReducedRow p
reduced_row p h r = record { row = augmented_row p h r.row; pivot = r.pivot }

-- What stands past the end of an array of rows.
abbrev pub no_row : Reduced
no_row = record { pivot = 0; row = record { vector = record { c = [] }; combination = record { c = [] } } }

-- Row k.
abbrev pub row_at : Rows → ℕ → Reduced
row_at s k = get_or s.rows k no_row

-- The rows that are used.
unfoldable pub state_of : (p : ℕ) → 1 < p → Rows → State p
state_of p h s = map (reduced_row p h) (take s.used s.rows)

-- The vector and the combination are whole, and their entries are below p.
pub record SoundVector (p : ℕ) (x : AugmentedVector) : Type 0 where
  pub vector_whole : FullLength x.vector
  pub combination_whole : FullLength x.combination
  pub vector_below : Below p x.vector
  pub combination_below : Below p x.combination

-- Those of the row are so, and the pivot is one of their places.
pub record SoundRow (p : ℕ) (r : Reduced) : Type 0 where
  pub place : r.pivot < most_standard
  pub row : SoundVector p r.row

-- There is room for the rows that are used, and each is sound.
pub record SoundRows (p : ℕ) (s : Rows) : Type 0 where
  pub size : s.used ≤ most_standard
  pub rows : (k : ℕ) → k < s.used → SoundRow p (row_at s k)
