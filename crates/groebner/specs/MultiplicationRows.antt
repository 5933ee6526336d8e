-- Inner contracts. Multiplication rows, by numbers (document 01, refusal 15).
-- B lists the irreducible monomials, B_s is the one at place s (d stands past the end), and cell i s k is the coordinate at B_k of the row of x_i·B_s.
--   dot R d v w                   Σ v(k)·w(k) over k < d
--   times_variable R D cell i w   Σ w(r)·cell i r k over the places r below D: the coordinates of x_i times what has the coordinates w
--   RowsCommute R n D cell        the rows commute: M_i M_j B_s = M_j M_i B_s for i < j
--   product_at n B d i s          x_i·B_s
--   Filled R n G B d cell i s     how the row of x_i·B_s is filled: a unit row, minus the tail of a line, or the product of rows filled before
use Rattle.std.specs.Prelude.{◌≡◌, List, ℕ, zero, suc, ◌<◌, length, get_or}
use Rattle.lists.specs.Lists.{◌∈◌}
use Rattle.residue.specs.Field.{Arithmetic}
use Rattle.monomial.specs.Rows.{Row, product}
use Rattle.monomial.specs.Quotients.{variable}
use Rattle.monomial.specs.Ordering.{monomials}
use Rattle.groebner.specs.Polynomials.{δ, coef}
use Rattle.groebner.specs.Lines.{Line, Reducible}

-- Σ v(k)·w(k) over k < d
unfoldable pub dot : {F : Type 0} → Arithmetic F → ℕ → (ℕ → F) → (ℕ → F) → F
dot R zero v w = R.zero
dot R (suc d) v w = R.add (R.mul (v d) (w d)) (dot R d v w)

module _ {F : Type 0} (R : Arithmetic F) where
  -- The coordinates of x_i times what has the coordinates w.
  abbrev pub times_variable : ℕ → (ℕ → ℕ → ℕ → F) → ℕ → (ℕ → F) → ℕ → F
  times_variable D cell i w k = dot R D w (λ r. cell i r k)

  -- The rows commute.
  abbrev pub RowsCommute : ℕ → ℕ → (ℕ → ℕ → ℕ → F) → Type 0
  RowsCommute n D cell = (i j : ℕ) → i < j → j < n → (s : ℕ) → s < D → (k : ℕ) → k < D → times_variable D cell i (cell j s) k ≡ times_variable D cell j (cell i s) k

  module _ (n : ℕ) (G : List (Line F (Row n))) (B : List (Row n)) (d : Row n) (cell : ℕ → ℕ → ℕ → F) where
    -- x_i·B_s
    abbrev pub product_at : ℕ → ℕ → Row n
    product_at i s = product n (variable n i) (get_or B s d)

    -- How the row of x_i·B_s is filled.
    pub data Filled (i s : ℕ) : Type 0 where
      as_unit : ¬ Reducible (monomials n) G (product_at i s) → ((k : ℕ) → k < length B → cell i s k ≡ δ R (monomials n) (get_or B k d) (product_at i s)) → Filled i s
      as_tail : (g : Line F (Row n)) → g ∈ G → product_at i s ≡ g.0 → ((k : ℕ) → k < length B → cell i s k ≡ R.neg (coef R (monomials n) g.1 (get_or B k d))) → Filled i s
      as_product : (j : ℕ) → j < n → (t : ℕ) → t < length B → get_or B s d ≡ product_at j t → Reducible (monomials n) G (product_at i t)
          → ((k : ℕ) → k < length B → cell i s k ≡ times_variable (length B) cell j (cell i t) k) → Filled i s
