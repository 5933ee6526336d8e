-- Inner contracts. The row of minus the tail of a line.
--   Subtracted              coordinates from which c is subtracted at a place
--   TailRow p n g l r       r has the coordinates of minus the tail of the line g
--   DistinctRanks n l rs    rs are the ranks of the list l, in which no monomial stands twice
use Rattle.std.specs.Prelude.{ℕ, ◌<◌, ◌≡◌, List, length, Option, Some}
use Rattle.residue.specs.Differences.{difference_mod}
use Rattle.residue.specs.Field.{modulo}
use Rattle.monomial.specs.Ordering.{monomials}
use Rattle.monomial.specs.Ranks.{RanksOf}
use Rattle.groebner.specs.Polynomials.{coef}
use Rattle.lines.specs.LineTerms.{terms_in}
use Rattle.lines.specs.declared.line.LineTerm.{LineTerm}
use Rattle.staircase.specs.TermLines.{line_of}
use Rattle.staircase.specs.Listed.{listed, listed_at, Distinct}
use Rattle.monomial.specs.declared.Monomial.{Monomial}
use Rattle.coordinates.specs.Vectors.{coordinate, Below, coordinates_of}
use Rattle.coordinates.specs.declared.Coordinates.{Coordinates}

-- a has the coefficients of r, but c is subtracted at the place `at`, if it is one.
pub record Subtracted (p : ℕ) (r : Coordinates) (c : ℕ) (at : Option ℕ) (a : Coordinates) : Type 0 where
  pub below : Below p a
  pub there : (k : ℕ) → at ≡ Some k → coordinate a k ≡ difference_mod p (coordinate r k) c
  pub elsewhere : (k : ℕ) → ¬ (at ≡ Some k) → coordinate a k ≡ coordinate r k

-- r has the coordinates of minus the tail of the line g.
pub record TailRow (p n : ℕ) (g : List LineTerm) (l : List Monomial) (r : Coordinates) : Type 0 where
  pub below : Below p r
  pub coefficients : (h : 1 < p) (k : ℕ) → k < length l → coordinates_of p h r k ≡ (modulo p h).neg (coef (modulo p h) (monomials n) (line_of p h n (terms_in n g)).1 (listed_at n l k))

-- rs are the ranks of the list l, in which no monomial stands twice.
pub record DistinctRanks (n : ℕ) (l : List Monomial) (rs : List ℕ) : Type 0 where
  pub size : length rs ≡ length l
  pub ranks : RanksOf n (listed n l) (length l) rs
  pub once : Distinct n l
