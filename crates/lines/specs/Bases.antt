-- Inner contracts. A basis of the code.
--   Padded n m        the monomial m is 0 from place n on
--   PaddedLine n g    the monomials of the line g are, and it has at most most_terms terms
--   PaddedBasis b     the lines of b are so, and at most most_lines
--   generators_in b   the terms of its lines
use Rattle.std.specs.Prelude.{ℕ, ◌≤◌, ◌≡◌, List, length}
use Rattle.arrayvec.specs.ArrayVec.{ArrayVec}
use Rattle.lists.specs.Lists.{Each}
use Rattle.monomial.specs.Represented.{row, monomial}
use Rattle.monomial.specs.declared.Monomial.{Monomial}
use Rattle.lines.specs.Sizes.{most_terms, most_lines}
use Rattle.lines.specs.Terms.{Term}
use Rattle.lines.specs.LineTerms.{terms_of_lines}
use Rattle.lines.specs.declared.line.LineTerm.{LineTerm}
use Rattle.lines.specs.declared.StoredBasis.{StoredBasis}

-- The exponents from place n on are 0.
abbrev pub Padded : ℕ → Monomial → Type 0
Padded n m = m ≡ monomial n (row n m)

-- A line has at most most_terms terms, and their exponents from place n on are 0.
abbrev pub PaddedLine : ℕ → List LineTerm → Type 0
PaddedLine n g = (length g ≤ most_terms) × Each (λ (t : LineTerm). Padded n t.monomial) g

-- A basis has at most most_lines lines, and each is padded.
abbrev pub PaddedBasis : StoredBasis → Type 0
PaddedBasis b = (length b.lines.items ≤ most_lines) × Each (λ (g : ArrayVec LineTerm). PaddedLine b.n g.items) b.lines.items

-- The terms of its lines.
unfoldable pub generators_in : StoredBasis → List (List Term)
unfolding terms_of_lines
generators_in b = terms_of_lines b.n b.lines.items
