-- Inner contracts. What the steps of the elimination give.
--   LessMultiple p x c w y             y is x less c times w
--   TimesNumber p x c y              y is c times x
--   Dependence p x c           c is the opposite of the combination of x
--   Scaled t x k q             q is x made one at place k, with the pivot k
--   ClearedRow p q r r'        r' is the row r cleared at q's pivot
--   ClearedRows p q s s'       the rows of s' are those of s cleared at q's pivot
--   Inserted p q s r           the rows of r are those of s cleared at q's pivot, and then q
use Rattle.std.specs.Prelude.{◌≡◌, ℕ, ◌+◌, ◌<◌, length, set}
use Rattle.residue.specs.Modular.{negation_mod}
use Rattle.residue.specs.Reciprocals.{entry}
use Rattle.residue.specs.declared.reciprocals.Reciprocals.{Reciprocals}
use Rattle.coordinates.specs.Vectors.{coordinate, Represents, subtracted, multiplied}
use Rattle.coordinates.specs.declared.Coordinates.{Coordinates}
use Rattle.fglm.specs.RowState.{row_at}
use Rattle.fglm.specs.declared.elimination.AugmentedVector.{AugmentedVector}
use Rattle.fglm.specs.declared.elimination.Reduced.{Reduced}
use Rattle.fglm.specs.declared.elimination.Rows.{Rows}

-- y is x less c times w.
pub record LessMultiple (p : ℕ) (x : AugmentedVector) (c : ℕ) (w y : AugmentedVector) : Type 0 where
  pub vector : Represents p y.vector (subtracted p x.vector c w.vector)
  pub combination : Represents p y.combination (subtracted p x.combination c w.combination)

-- y is c times x.
pub record TimesNumber (p : ℕ) (x : AugmentedVector) (c : ℕ) (y : AugmentedVector) : Type 0 where
  pub vector : Represents p y.vector (multiplied p c x.vector)
  pub combination : Represents p y.combination (multiplied p c x.combination)

-- c is the opposite of the combination of x.
abbrev pub Dependence : (p : ℕ) → AugmentedVector → Coordinates → Type 0
Dependence p x c = Represents p c (multiplied p (negation_mod p 1) x.combination)

-- q is x times the reciprocal of its entry at place k, with the pivot k.
pub record Scaled (t : Reciprocals) (x : AugmentedVector) (k : ℕ) (q : Reduced) : Type 0 where
  pub pivot : q.pivot ≡ k
  pub row : TimesNumber t.field.p x (entry t.table (coordinate x.vector k)) q.row

-- r' is the row r less the multiple of q that makes it zero at q's pivot.
pub record ClearedRow (p : ℕ) (q r r' : Reduced) : Type 0 where
  pub pivot : r'.pivot ≡ r.pivot
  pub row : LessMultiple p r.row (coordinate r.row.vector q.pivot) q.row r'.row

-- The rows of s' are those of s, cleared at q's pivot.
pub record ClearedRows (p : ℕ) (q : Reduced) (s s' : Rows) : Type 0 where
  pub used : s'.used ≡ s.used
  pub size : length s'.rows ≡ length s.rows
  pub rows : (k : ℕ) → k < s.used → ClearedRow p q (row_at s k) (row_at s' k)

-- The rows of r are those of s cleared at q's pivot, and then q.
pub record Inserted (p : ℕ) (q : Reduced) (s r : Rows) : Type 0 where
  pub others : Rows
  pub cleared : ClearedRows p q s others
  pub is : r ≡ record { used = s.used + 1; rows = set others.rows s.used q }
