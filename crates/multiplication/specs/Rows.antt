-- Inner contracts. The rows of the products x_i·B_s, and what they make of coordinates in the irreducible monomials B.
--   table_row t i s           the row of x_i·B_s
--   cell_at t i s k           coefficient k of that row, as a number
--   NoRows t                  all coefficients of all rows are 0
--   RowPut t i s w t'         t' has the row w of x_i·B_s, and the other rows of t
--   AllBelow p t              all coefficients of all rows are below p
--   cell_of p h t             coefficient k of the row of x_i·B_s as a residue, a function of i, s and k
--   Multiplied p t i w d r    r has the coordinates of x_i times what has the coordinates w
--   CommuteAt p h t d i j s   x_i·(x_j·B_s) and x_j·(x_i·B_s) have the same coordinates
use Rattle.std.specs.Prelude.{ℕ, ◌<◌, ◌≤◌, ◌≡◌, [], get_or}
use Rattle.residue.specs.Field.{ZMod, modulo, residue}
use Rattle.groebner.specs.MultiplicationRows.{times_variable}
use Rattle.coordinates.specs.Vectors.{coordinate, Below, coordinates_of}
use Rattle.coordinates.specs.declared.Coordinates.{Coordinates}
use Rattle.multiplication.specs.declared.rows.Tables.{Tables}

-- The row of x_i·B_s.
abbrev pub table_row : Tables → ℕ → ℕ → Coordinates
table_row t i s = get_or (get_or t.rows i []) s (record { c = [] })

-- Coefficient k of that row.
abbrev pub cell_at : Tables → ℕ → ℕ → ℕ → ℕ
cell_at t i s k = coordinate (table_row t i s) k

-- All coefficients of all rows are 0.
abbrev pub NoRows : Tables → Type 0
NoRows t = (i s k : ℕ) → cell_at t i s k ≡ 0

-- t' has the row w of x_i·B_s, and the other rows of t.
pub record RowPut (t : Tables) (i s : ℕ) (w : Coordinates) (t' : Tables) : Type 0 where
  pub own : table_row t' i s ≡ w
  pub others : (j r : ℕ) → ¬ ((j ≡ i) × (r ≡ s)) → table_row t' j r ≡ table_row t j r

-- All coefficients of all rows are below p.
pub record AllBelow (p : ℕ) (t : Tables) : Type 0 where
  pub cell : (i s k : ℕ) → cell_at t i s k < p

-- Coefficient k of the row of x_i·B_s as a residue.
unfoldable pub cell_of : (p : ℕ) → 1 < p → Tables → ℕ → ℕ → ℕ → ZMod p
unfolding residue
cell_of p h t i s k = residue p h (cell_at t i s k)

-- r has the coordinates of x_i times what has the coordinates w, by the first d rows of x_i, and zeros after them.
pub record Multiplied (p : ℕ) (t : Tables) (i : ℕ) (w : Coordinates) (d : ℕ) (r : Coordinates) : Type 0 where
  pub below : Below p r
  pub zeros : (k : ℕ) → d ≤ k → coordinate r k ≡ 0
  pub coordinates : (h : 1 < p) (k : ℕ) → k < d → coordinates_of p h r k ≡ times_variable (modulo p h) d (cell_of p h t) i (coordinates_of p h w) k

-- x_i·(x_j·B_s) and x_j·(x_i·B_s) have the same coordinates, by the first d rows of each variable.
abbrev pub CommuteAt : (p : ℕ) → 1 < p → Tables → ℕ → ℕ → ℕ → ℕ → Type 0
CommuteAt p h t d i j s = (k : ℕ) → k < d → times_variable (modulo p h) d (cell_of p h t) i (cell_of p h t j s) k ≡ times_variable (modulo p h) d (cell_of p h t) j (cell_of p h t i s) k
