-- Inner contracts. Lists of leading monomials, their multiples, and what is next in lex among the others.
--   rows_of n ms             the monomials of a list of the code, as rows of n exponents
--   lead_monomials n leads   the leading monomials that a list of the code has
--   leads_in b               the leading monomials of the lines of a basis
--   LeadsOf b ms             the list has the leading monomials of a basis
--   multiple n L m           whether a monomial of L divides m
--   PowerIn n v L            a monomial of L is a power of variable v
--   Powers n L               L has a power of each variable
--   NextIs                   the next monomial in lex that is not excluded, or that there is none
--   FoundNext                so it is, as the code answers: no exponent is raised by more than one
--   CountIs                  all monomials that are not excluded, in rising lex order, or that there are more than `most`
use Rattle.std.specs.Prelude.{ℕ, suc, ◌≤◌, ◌<◌, ◌≡◌, Bool, true, false, List, [], ◌∷◌, map, length, Option, Some, None, option_map, IfSome}
use Rattle.std.proofs.Math.Option.{none, some}
use Rattle.arrayvec.specs.ArrayVec.{ArrayVec}
use Rattle.lists.specs.Lists.{◌∈◌}
use Rattle.monomial.specs.Rows.{Row, exponent}
use Rattle.monomial.specs.Quotients.{divides, is_power}
use Rattle.monomial.specs.Represented.{row}
use Rattle.monomial.specs.declared.Monomial.{Monomial}
use Rattle.groebner.specs.Next.{next, irreducibles}
use Rattle.lines.specs.LineTerms.{monomial_at}
use Rattle.lines.specs.Bases.{Padded}
use Rattle.lines.specs.declared.line.LineTerm.{LineTerm}
use Rattle.lines.specs.declared.StoredBasis.{StoredBasis}
use Rattle.staircase.specs.StoredLines.{stored_lines}

-- The monomials of a list of the code, as rows of n exponents.
unfoldable pub rows_of : (n : ℕ) → List Monomial → List (Row n)
unfolding row
rows_of n ms = map (row n) ms

-- The leading monomials that a list of the code has.
abbrev pub lead_monomials : (n : ℕ) → List Monomial → List (Row n)
lead_monomials n leads = rows_of n leads

-- The leading monomials of the lines of a basis.
unfoldable pub leads_in : StoredBasis → List Monomial
unfolding monomial_at
leads_in b = map (λ (g : ArrayVec LineTerm). monomial_at g.items 0) b.lines.items

-- The list has the leading monomials of a basis, line by line.
abbrev pub LeadsOf : StoredBasis → List Monomial → Type 0
LeadsOf b ms = (length ms ≡ length b.lines.items) × ((h : 1 < b.p) → rows_of b.n ms ≡ map (λ g. g.0) (stored_lines b h))

-- Whether a monomial of L divides m.
unfoldable pub multiple : (n : ℕ) → List (Row n) → Row n → Bool
unfolding divides
multiple n [] m = false
multiple n (d ∷ L) m = elim (divides n d m) [ true ↦ true | false ↦ multiple n L m ]

-- A monomial of L is a power of variable v, exponent 0 allowed.
abbrev pub PowerIn : (n v : ℕ) → List (Row n) → Type 0
PowerIn n v L = (m : Row n) × (m ∈ L) × (is_power n v m ≡ true)

-- L has a power of each variable (document 01, "Zero-dimensional").
abbrev pub Powers : (n : ℕ) → List (Row n) → Type 0
Powers n L = (v : ℕ) → v < n → PowerIn n v L

-- The answer of the search for the next monomial that is not excluded: what `next` of the theory says.
abbrev pub NextIs : (n : ℕ) → List ℕ → (Row n → Bool) → Row n → Option (Row n) → Type 0
NextIs n s excluded m (Some r) = next n s excluded m ≡ some r
NextIs n s excluded m None = next n s excluded m ≡ none

-- The same of the code's answer.
pub record FoundNext (n : ℕ) (s : List ℕ) (excluded : Row n → Bool) (m : Row n) (r : Option Monomial) : Type 0 where
  pub is_next : NextIs n s excluded m (option_map (row n) r)
  pub padded : IfSome r (Padded n)
  pub raised : IfSome r (λ v. (i : ℕ) → i < n → exponent n (row n v) i ≤ suc (exponent n m i))

-- The answer of the count of those that are not excluded, in rising lex order: all of them, at most that many, or that there are more.
abbrev pub CountIs : (n : ℕ) → List ℕ → (Row n → Bool) → ℕ → Option (List (Row n)) → Type 0
CountIs n s excluded most (Some l) = irreducibles n (next n s) excluded most ≡ some l
CountIs n s excluded most None = irreducibles n (next n s) excluded most ≡ none
