-- Believed. The lines of a basis that was read, as lines of polynomials.
--   line_of p h n terms   the line that terms make
--   lines_of p h n ls     the lines of a text
use Rattle.std.specs.Prelude.{ℕ, ◌<◌, List, [], ◌∷◌, map}
use Rattle.residue.specs.Field.{residue, ZMod}
use Rattle.monomial.specs.Rows.{Row, one}
use Rattle.groebner.specs.Lines.{Line}
use Rattle.lines.specs.Terms.{Term, as_row}

-- The line that terms make; the coefficient of the first is 1 (check 9).
unfoldable pub line_of : (p : ℕ) → 1 < p → (n : ℕ) → List Term → Line (ZMod p) (Row n)
unfolding residue as_row one
line_of p h n [] = (one n, [])
line_of p h n (t ∷ ts) = (as_row n t.1, map (λ u. (residue p h u.0, as_row n u.1)) ts)

-- The lines of a text.
unfoldable pub lines_of : (p : ℕ) → 1 < p → (n : ℕ) → List (List Term) → List (Line (ZMod p) (Row n))
unfolding line_of
lines_of p h n ls = map (line_of p h n) ls
