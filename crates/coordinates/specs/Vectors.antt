-- Inner contracts. Vectors of residues that the code holds, and as lists of residues.
--   residue_at w k         coefficient k
--   coordinate w k         coefficient k, as a number
--   Below p w              all coefficients are below p
--   indicator j k          1 where j is k, and 0 elsewhere
--   Cut d r a              a has the first d coefficients of r, and zeros after them
--   coordinates_of p h w   the coefficients as residues, a function of the place
--   vector p h w           the coefficients as residues, a list
--   FullLength w           w has most_standard entries, as each vector of the code has
--   Represents p w l       so it is, the coefficients of w are below p, and as residues they are l
--   subtracted p a c b     a - c·b
--   multiplied p c a       c·a
--   unit_vector p k        one at place k, zero elsewhere; all zero if there is no place k
--   AddedMultiple p r c w a  a is r + c·w
--   FirstPlace a o         o is the first place of a that is not zero, or says that there is none
use Rattle.std.specs.Prelude.{◌≡◌, true, false, List, map, ℕ, ◌+◌, ◌*◌, ◌%◌, ◌<◌, ◌≤◌, length, get_or, eqb, Option, Some, None}
use Rattle.residue.specs.Field.{ZMod, modulo, residue}
use Rattle.residue.specs.declared.Residue.{Residue}
use Rattle.groebner.specs.CoefficientRows.{subtract_multiple, multiply, unit_array}
use Rattle.lines.specs.Sizes.{most_standard}
use Rattle.coordinates.specs.declared.Coordinates.{Coordinates}

-- Coefficient k.
abbrev pub residue_at : Coordinates → ℕ → Residue
residue_at w k = get_or w.c k (record { 0 = 0 })

-- Coefficient k, as a number.
abbrev pub coordinate : Coordinates → ℕ → ℕ
coordinate w k = (residue_at w k).0

-- All coefficients are below p.
pub record Below (p : ℕ) (w : Coordinates) : Type 0 where
  pub below : (k : ℕ) → coordinate w k < p

-- 1 where j is k, and 0 elsewhere.
unfoldable pub indicator : ℕ → ℕ → ℕ
indicator j k = elim (eqb j k) [ true ↦ 1 | false ↦ 0 ]

-- a has the first d coefficients of r, and zeros after them.
pub record Cut (d : ℕ) (r a : Coordinates) : Type 0 where
  pub front : (k : ℕ) → k < d → coordinate a k ≡ coordinate r k
  pub zeros : (k : ℕ) → d ≤ k → coordinate a k ≡ 0

-- The coefficients as residues, by their places.
unfoldable pub coordinates_of : (p : ℕ) → 1 < p → Coordinates → ℕ → ZMod p
unfolding residue
coordinates_of p h w k = residue p h (coordinate w k)

-- The coefficients as residues, as a list.
unfoldable pub vector : (p : ℕ) → 1 < p → Coordinates → List (ZMod p)
vector p h w = map (λ x. residue p h x.0) w.c

-- The vector has most_standard entries, as each of the code has.
abbrev pub FullLength : Coordinates → Type 0
FullLength w = length w.c ≡ most_standard

-- The coefficients of w are below p, and as residues they are l.
pub record Represents (p : ℕ) (w : Coordinates) (l : 1 < p → List (ZMod p)) : Type 0 where
  pub whole : FullLength w
  pub below : Below p w
  pub residues : (h : 1 < p) → vector p h w ≡ l h

-- a - c·b
abbrev pub subtracted : (p : ℕ) → Coordinates → ℕ → Coordinates → 1 < p → List (ZMod p)
subtracted p a c b h = subtract_multiple (modulo p h) (vector p h a) (residue p h c) (vector p h b)

-- c·a
abbrev pub multiplied : (p : ℕ) → ℕ → Coordinates → 1 < p → List (ZMod p)
multiplied p c a h = multiply (modulo p h) (residue p h c) (vector p h a)

-- One at place k, zero elsewhere; all zero if there is no place k.
abbrev pub unit_vector : (p : ℕ) → ℕ → 1 < p → List (ZMod p)
unit_vector p k h = unit_array (modulo p h) most_standard k

-- a is r + c·w.
pub record AddedMultiple (p : ℕ) (r : Coordinates) (c : ℕ) (w a : Coordinates) : Type 0 where
  pub below : Below p a
  pub sums : (k : ℕ) → k < most_standard → coordinate a k ≡ (coordinate r k + c * coordinate w k) % p

-- The first place that is not zero.
abbrev pub FirstPlace : Coordinates → Option ℕ → Type 0
FirstPlace a (Some k) = (k < most_standard) × ¬ (coordinate a k ≡ 0) × ((j : ℕ) → j < k → coordinate a j ≡ 0)
FirstPlace a None = (j : ℕ) → coordinate a j ≡ 0
