-- Inner contracts. Rows of coefficients as lists; what is past the end of a list counts as zero (document 01, "The walk").
--   subtract_multiple R a c b   a - c·b
--   multiply R c a              c·a
--   unit_array R D k            one at place k of D places, zero elsewhere
--   polynomial_of B c           the polynomial with the coefficients c at the monomials B
--   Pivoted A                   a row with its pivot
--   Augmented A C               a vector with a combination beside it
use Rattle.std.specs.Prelude.{List, [], ◌∷◌, map, ℕ, set, replicate}
use Rattle.residue.specs.Field.{Arithmetic}
use Rattle.groebner.specs.Polynomials.{Poly}

module _ {F : Type 0} (R : Arithmetic F) where
  -- a - c·b
  unfoldable pub subtract_multiple : List F → F → List F → List F
  subtract_multiple [] c [] = []
  subtract_multiple [] c (y ∷ b) = R.neg (R.mul c y) ∷ subtract_multiple [] c b
  subtract_multiple (x ∷ a) c [] = x ∷ subtract_multiple a c []
  subtract_multiple (x ∷ a) c (y ∷ b) = R.add x (R.neg (R.mul c y)) ∷ subtract_multiple a c b

  -- c·a
  unfoldable pub multiply : F → List F → List F
  multiply c a = map (R.mul c) a

  -- One at place k of D places, zero elsewhere; all zero if there is no place k.
  unfoldable pub unit_array : ℕ → ℕ → List F
  unit_array D k = set (replicate D R.zero) k R.one

-- The polynomial with the coefficients c at the monomials B.
unfoldable pub polynomial_of : {F M : Type 0} → List M → List F → Poly F M
polynomial_of [] c = []
polynomial_of (b ∷ B) [] = []
polynomial_of (b ∷ B) (x ∷ c) = (x, b) ∷ polynomial_of B c

-- A row with its pivot.
pub record Pivoted (A : Type 0) : Type 0 where
  pub row : A
  pub pivot : ℕ

-- A vector with a combination beside it.
pub record Augmented (A C : Type 0) : Type 0 where
  pub vector : A
  pub combination : C
