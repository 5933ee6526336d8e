-- Inner contracts. Check 12 by the places of the lines and terms: places count from 0, and line k of the text stands at place k - 2.
--   DividesTerm n d g          d divides a monomial of the line g
--   DividedByAnother n i L g   a monomial of the line g is divisible by a monomial of L at another place than i
--   FirstDivided b r           r is the smallest line of b of which check 12 speaks, if there is one
use Rattle.std.specs.Prelude.{ℕ, ◌<◌, ◌≡◌, List, get_or, length, Option}
use Rattle.residue.specs.Field.{modulo}
use Rattle.monomial.specs.Rows.{Row, one}
use Rattle.monomial.specs.Ordering.{Divides, monomials}
use Rattle.monomial.specs.Represented.{row}
use Rattle.lines.specs.LineTerms.{monomial_at}
use Rattle.lines.specs.declared.line.LineTerm.{LineTerm}
use Rattle.lines.specs.declared.StoredBasis.{StoredBasis}
use Rattle.staircase.specs.StoredLines.{stored_lines}
use Rattle.staircase.specs.Conditions.{Divided}
use Rattle.staircase.specs.LeastNumber.{Smallest}

-- d divides a monomial of the line.
abbrev pub DividesTerm : (n : ℕ) → Row n → List LineTerm → Type 0
DividesTerm n d g = (k : ℕ) × (k < length g) × Divides (monomials n) d (row n (monomial_at g k))

-- So does a monomial of the list at another place than i.
abbrev pub DividedByAnother : (n i : ℕ) → List (Row n) → List LineTerm → Type 0
DividedByAnother n i L g = (j : ℕ) × (j < length L) × (¬ (j ≡ i)) × DividesTerm n (get_or L j (one n)) g

-- The smallest line of a basis that has such a monomial, if there is one.
abbrev pub FirstDivided : StoredBasis → Option ℕ → Type 0
FirstDivided b r = (h : 1 < b.p) → Smallest (Divided (modulo b.p h) (monomials b.n) (stored_lines b h)) r
