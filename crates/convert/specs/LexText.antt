-- Inner contracts. The text of a lex basis of the code.
--   generator_lines n ls  lines, as lines of the text
--   ToPrint p n b         it can be printed, for a number p over 1 and n variables
--   written_of p h n b    the whole text
use Rattle.std.specs.Prelude.{ℕ, ◌<◌, List, map}
use Rattle.arrayvec.specs.ArrayVec.{ArrayVec}
use Rattle.lists.specs.Lists.{Bytes}
use Rattle.lines.specs.declared.line.LineTerm.{LineTerm}
use Rattle.tabtext.specs.Text.{TextLine}
use Rattle.tabtext.specs.Printed.{generator_line}
use Rattle.fglm.specs.declared.lex_basis.LexBasis.{LexBasis}
use Rattle.fglm.specs.Found.{found_lines, found_standard, Printable}
use Rattle.convert.specs.Written.{written}

-- Lines, as lines of the text.
unfoldable pub generator_lines : ℕ → List (ArrayVec LineTerm) → List TextLine
unfolding generator_line
generator_lines n ls = map (λ (g : ArrayVec LineTerm). generator_line n g.items) ls

-- What the printing of the whole text asks.
pub record ToPrint (p n : ℕ) (b : LexBasis) : Type 0 where
  pub above_one : 1 < p
  pub printable : Printable p n b

-- The whole text: the lines and the standard monomials of the basis, as document 01 writes them.
abbrev pub written_of : (p : ℕ) → 1 < p → ℕ → LexBasis → Bytes
written_of p h n b = written p h n (found_lines p h n b) (found_standard n b)
