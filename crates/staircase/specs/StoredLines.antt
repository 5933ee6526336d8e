-- Inner contracts. The lines of a basis of the code, as lines of polynomials.
--   stored_lines b h   the lines that it holds
use Rattle.std.specs.Prelude.{◌<◌, List}
use Rattle.residue.specs.Field.{ZMod}
use Rattle.monomial.specs.Rows.{Row}
use Rattle.groebner.specs.Lines.{Line}
use Rattle.lines.specs.Bases.{generators_in}
use Rattle.lines.specs.declared.StoredBasis.{StoredBasis}
use Rattle.staircase.specs.TermLines.{lines_of}

-- The lines that a basis of the code holds.
unfoldable pub stored_lines : (b : StoredBasis) → 1 < b.p → List (Line (ZMod b.p) (Row b.n))
unfolding lines_of generators_in
stored_lines b h = lines_of b.p h b.n (generators_in b)
