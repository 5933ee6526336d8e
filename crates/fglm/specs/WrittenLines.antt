-- Inner contracts. The line of a monomial that depends on standard monomials, as the code writes it.
--   combined p h n l c       Σ c_k·l_k, the combination c of the monomials l
--   LineInput p n m c l      what the line asks: coefficients below p, and monomials padded to n variables
--   WrittenLine p n m c l r  r is the line m - Σ c_k·l_k, its tail in the order of the monomials l
use Rattle.std.specs.Prelude.{◌≡◌, ℕ, ◌≤◌, ◌<◌, List, length}
use Rattle.lists.specs.Lists.{Each, Once}
use Rattle.residue.specs.Field.{ZMod, modulo}
use Rattle.residue.specs.RingLaws.{Field}
use Rattle.monomial.specs.Rows.{Row}
use Rattle.monomial.specs.Ordering.{monomials}
use Rattle.monomial.specs.Represented.{row}
use Rattle.monomial.specs.declared.Monomial.{Monomial}
use Rattle.groebner.specs.Polynomials.{Poly, negate}
use Rattle.groebner.specs.CoefficientRows.{polynomial_of}
use Rattle.groebner.specs.OrderedTails.{ordered_line}
use Rattle.lines.specs.Sizes.{most_standard}
use Rattle.lines.specs.LineTerms.{terms_in}
use Rattle.lines.specs.Bases.{Padded}
use Rattle.lines.specs.declared.line.LineTerm.{LineTerm}
use Rattle.staircase.specs.TermLines.{line_of}
use Rattle.staircase.specs.Listed.{listed}
use Rattle.coordinates.specs.Vectors.{Below, vector}
use Rattle.coordinates.specs.declared.Coordinates.{Coordinates}
use Rattle.fglm.specs.Found.{PrintableLine}

-- The combination c of the monomials l.
abbrev pub combined : (p : ℕ) → 1 < p → (n : ℕ) → List Monomial → Coordinates → Poly (ZMod p) (Row n)
combined p h n l c = polynomial_of (listed n l) (vector p h c)

-- The coefficients are below p, and the exponents of m and of the monomials l from place n on are 0.
pub record LineInput (p n : ℕ) (m : Monomial) (c : Coordinates) (l : List Monomial) : Type 0 where
  pub above_one : 1 < p
  pub few : length l ≤ most_standard
  pub below : Below p c
  pub padded : Padded n m
  pub all_padded : Each (Padded n) l

-- r is the line m - Σ c_k·l_k, its tail in the order of the monomials l.
pub record WrittenLine (p n : ℕ) (m : Monomial) (c : Coordinates) (l : List Monomial) (r : List LineTerm) : Type 0 where
  pub printable : PrintableLine p n r
  pub line : (h : 1 < p) (field : Field (modulo p h)) → Once (listed n l)
      → line_of p h n (terms_in n r) ≡ ordered_line field (monomials n) (listed n l) (row n m, negate (modulo p h) (combined p h n l c))
