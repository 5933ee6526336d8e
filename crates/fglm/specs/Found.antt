-- Inner contracts. The lines and the standard monomials that a lex basis of the code holds.
--   found_lines p h n b   its lines, as lines of polynomials
--   found_standard n b    its standard monomials
--   PrintableLine p n g   the line g is padded, and monic modulo p
--   Printable p n b       its lines are so, and it is not too large
use Rattle.std.specs.Prelude.{ℕ, ◌≤◌, ◌<◌, List, length, map}
use Rattle.arrayvec.specs.ArrayVec.{ArrayVec}
use Rattle.lists.specs.Lists.{Each}
use Rattle.residue.specs.Field.{ZMod}
use Rattle.monomial.specs.Rows.{Row}
use Rattle.monomial.specs.Represented.{row}
use Rattle.groebner.specs.Lines.{Line}
use Rattle.lines.specs.Sizes.{most_lines, most_standard}
use Rattle.lines.specs.LineTerms.{terms_in, terms_of_lines, Monic}
use Rattle.lines.specs.Bases.{Padded, PaddedLine}
use Rattle.lines.specs.declared.line.LineTerm.{LineTerm}
use Rattle.staircase.specs.TermLines.{lines_of}
use Rattle.fglm.specs.declared.lex_basis.LexBasis.{LexBasis}

-- Its lines.
unfoldable pub found_lines : (p : ℕ) → 1 < p → (n : ℕ) → LexBasis → List (Line (ZMod p) (Row n))
unfolding lines_of terms_of_lines
found_lines p h n b = lines_of p h n (terms_of_lines n b.lines.items)

-- Its standard monomials.
unfoldable pub found_standard : (n : ℕ) → LexBasis → List (Row n)
unfolding row
found_standard n b = map (row n) b.standard.items

-- The coefficients of a line are 1 to p - 1, the first of them 1, and the exponents from place n on are 0.
pub record PrintableLine (p n : ℕ) (g : List LineTerm) : Type 0 where
  pub held : PaddedLine n g
  pub coefficients : Each (λ (t : LineTerm). (0 < t.coefficient.0) × (t.coefficient.0 < p)) g
  pub monic : Monic (terms_in n g)

-- At most most_lines such lines, and at most most_standard standard monomials, whose exponents from place n on are 0.
pub record Printable (p n : ℕ) (b : LexBasis) : Type 0 where
  pub lines : length b.lines.items ≤ most_lines
  pub each : Each (λ (g : ArrayVec LineTerm). PrintableLine p n g.items) b.lines.items
  pub count : length b.standard.items ≤ most_standard
  pub standard : Each (Padded n) b.standard.items
