-- The three rules for the row of x_i·B_s, by which the rows of the theory (`Filled` of MultiplicationRows) are filled one after another.
--   multiple_at   x_i·B_s
--   NewRow        w is the row of x_i·B_s by one of the rules: x_i·B_s is irreducible, or a leading monomial, or comes through B_t with B_s = x_j·B_t
--   RowFor        the coordinates r are such a row, over the rows of the tables
use Prim.Native.Nat.{ℕ, ◌<◌}
use mathlib.Core.Path.{◌≡◌}
use mathlib.Core.List.{List}
use lib.ListN.{length, get_or}
use Rattle.lists.specs.Lists.{◌∈◌}
use Rattle.residue.specs.Field.{Arithmetic, modulo}
use Rattle.monomial.specs.Rows.{Row, one, product}
use Rattle.monomial.specs.Quotients.{variable}
use Rattle.monomial.specs.Ordering.{monomials}
use Rattle.groebner.specs.Polynomials.{δ, coef}
use Rattle.groebner.specs.Lines.{Line, Reducible}
use Rattle.groebner.specs.MultiplicationRows.{times_variable}
use Rattle.lines.specs.declared.StoredBasis.{StoredBasis}
use Rattle.staircase.specs.StoredLines.{stored_lines}
use Rattle.staircase.specs.Listed.{listed}
use Rattle.monomial.specs.declared.Monomial.{Monomial}
use Rattle.coordinates.specs.Vectors.{Below, coordinates_of}
use Rattle.coordinates.specs.declared.Coordinates.{Coordinates}
use Rattle.multiplication.specs.Rows.{cell_of}
use Rattle.multiplication.specs.declared.rows.Tables.{Tables}

module _ {F : Type 0} (R : Arithmetic F) (n : ℕ) (G : List (Line F (Row n))) (B : List (Row n)) (d : Row n) where
  -- x_i·B_s
  abbrev pub multiple_at : ℕ → ℕ → Row n
  multiple_at i s = product n (variable n i) (get_or B s d)

  -- w is the row of x_i·B_s by one of the rules, over the rows of `cell`.
  pub data NewRow (cell : ℕ → ℕ → ℕ → F) (i s : ℕ) (w : ℕ → F) : Type 0 where
    new_unit : ¬ Reducible (monomials n) G (multiple_at i s) → ((k : ℕ) → k < length B → w k ≡ δ R (monomials n) (get_or B k d) (multiple_at i s)) → NewRow cell i s w
    new_tail : (g : Line F (Row n)) → g ∈ G → multiple_at i s ≡ g.0 → ((k : ℕ) → k < length B → w k ≡ R.neg (coef R (monomials n) g.1 (get_or B k d))) → NewRow cell i s w
    new_product : (j : ℕ) → j < n → (t : ℕ) → t < length B → get_or B s d ≡ multiple_at j t → Reducible (monomials n) G (multiple_at i t)
        → ((k : ℕ) → k < length B → w k ≡ times_variable R (length B) cell j (cell i t) k) → NewRow cell i s w

-- r is the row of x_i·B_s by one of the rules, over the rows of the tables t.
pub record RowFor (b : StoredBasis) (l : List Monomial) (t : Tables) (i s : ℕ) (r : Coordinates) : Type 0 where
  pub below : Below b.p r
  pub rule : (h : 1 < b.p) → NewRow (modulo b.p h) b.n (stored_lines b h) (listed b.n l) (one b.n) (cell_of b.p h t) i s (coordinates_of b.p h r)
