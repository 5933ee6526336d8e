-- Inner contracts. What the enumeration asks of the lines that it converts.
--   Enumerable p prime n l t G        the lines G are a Groebner basis in grevlex with the irreducible monomials l, and t has the rows of their products with variables
--   EnumerationInput t n s l tables   what the enumeration asks: such lines over the field of t, and a ranking s of n variables
--   Enumerated t n s l tables r       what it gives: the lex basis over s, and its standard monomials
use Rattle.std.specs.Prelude.{ℕ, ◌≤◌, ◌<◌, List, length}
use Rattle.residue.specs.Prime.{Prime}
use Rattle.residue.specs.Field.{ZMod, modulo}
use Rattle.residue.specs.declared.reciprocals.Reciprocals.{Reciprocals}
use Rattle.monomial.specs.Sizes.{VariableCount}
use Rattle.monomial.specs.Rows.{Row, one}
use Rattle.monomial.specs.Ordering.{Lex, Grevlex, monomials}
use Rattle.monomial.specs.declared.Monomial.{Monomial}
use Rattle.groebner.specs.Lines.{Line, Reducible}
use Rattle.groebner.specs.Bases.{Groebner}
use Rattle.groebner.specs.Criteria.{Clear, Low}
use Rattle.groebner.specs.Conversions.{Lists}
use Rattle.groebner.specs.MultiplicationRows.{Filled}
use Rattle.groebner.specs.Next.{RanksOnce}
use Rattle.groebner.specs.Enumeration.{Enumerates}
use Rattle.lines.specs.Sizes.{most_standard}
use Rattle.staircase.specs.Listed.{listed}
use Rattle.multiplication.specs.Rows.{cell_of, AllBelow}
use Rattle.multiplication.specs.declared.rows.Tables.{Tables}
use Rattle.fglm.specs.Found.{found_lines, found_standard, Printable}
use Rattle.fglm.specs.declared.lex_basis.LexBasis.{LexBasis}

-- The lines G are a Groebner basis in grevlex, no term of one a multiple of another's leading monomial; l lists its irreducible monomials.
pub record Enumerable (p : ℕ) (prime : Prime p) (n : ℕ) (l : List Monomial) (t : Tables) (G : List (Line (ZMod p) (Row n))) : Type 0 where
  pub low : Low (Grevlex n) G
  pub clear : Clear (modulo p prime.above_one) (monomials n) G
  pub groebner : Groebner (modulo p prime.above_one) (monomials n) (Grevlex n) G
  pub lists : Lists (λ m. ¬ Reducible (monomials n) G m) (listed n l)
  pub filled : (i : ℕ) → i < n → (s : ℕ) → s < length l → Filled (modulo p prime.above_one) n G (listed n l) (one n) (cell_of p prime.above_one t) i s

-- What the enumeration asks.
pub record EnumerationInput (t : Reciprocals) (n : ℕ) (s : List ℕ) (l : List Monomial) (tables : Tables) : Type 0 where
  pub variables : VariableCount n
  pub ranking : RanksOnce n s
  pub few : length l ≤ most_standard
  pub below : AllBelow t.field.p tables
  pub lines : (prime : Prime t.field.p) → (G : List (Line (ZMod t.field.p) (Row n))) × Enumerable t.field.p prime n l tables G

-- What the enumeration gives, whatever such lines there are: the outcome of the theory, in r.
pub record Enumerated (t : Reciprocals) (n : ℕ) (s : List ℕ) (l : List Monomial) (tables : Tables) (r : LexBasis) : Type 0 where
  pub printable : Printable t.field.p n r
  pub outcome : (prime : Prime t.field.p) (G : List (Line (ZMod t.field.p) (Row n))) → Enumerable t.field.p prime n l tables G
      → Enumerates (modulo t.field.p prime.above_one) n (Grevlex n) (Lex n s) G (length l) (found_lines t.field.p prime.above_one n r) (found_standard n r)
