-- Inner contracts. Whether the lines of a basis are a Groebner basis (document 01, refusal 15), and the rows of the products x_i·B_s.
--   Candidate b l        the lines of b are sound and reduced, with finitely many irreducible monomials, those of the list l
--   Acceptance b l r t   r says whether the lines of b are one, and t holds these rows, B the list l
use Rattle.std.specs.Prelude.{◌<◌, ◌≡◌, Bool, true, ◌↔◌, List}
use Rattle.residue.specs.Field.{modulo}
use Rattle.monomial.specs.Ordering.{monomials, Grevlex}
use Rattle.groebner.specs.Lines.{Lines}
use Rattle.groebner.specs.Bases.{Groebner}
use Rattle.groebner.specs.Criteria.{Clear, Buchberger}
use Rattle.groebner.specs.Standard.{ZeroDimensional}
use Rattle.lines.specs.declared.StoredBasis.{StoredBasis}
use Rattle.staircase.specs.StoredLines.{stored_lines}
use Rattle.staircase.specs.Sound.{Sound}
use Rattle.staircase.specs.Listed.{ListsIrreducibles}
use Rattle.monomial.specs.declared.Monomial.{Monomial}
use Rattle.multiplication.specs.Rows.{AllBelow}
use Rattle.multiplication.specs.declared.rows.Tables.{Tables}
use Rattle.multiplication.specs.Filling.{AllFilled}

-- The lines of b are sound, no term of one a multiple of another's leading monomial; the list l has their irreducible monomials, finitely many.
pub record Candidate (b : StoredBasis) (l : List Monomial) : Type 0 where
  pub sound : Sound b
  pub irreducibles : ListsIrreducibles b l
  pub lines : (h : 1 < b.p) → Lines (modulo b.p h) (Grevlex b.n) (stored_lines b h)
  pub clear : (h : 1 < b.p) → Clear (modulo b.p h) (monomials b.n) (stored_lines b h)
  pub zero_dimensional : (h : 1 < b.p) → ZeroDimensional b.n (stored_lines b h)

-- r says whether the lines of b are a Groebner basis, that is, whether their S-polynomials have remainder zero, and t holds the rows.
pub record Acceptance (b : StoredBasis) (l : List Monomial) (r : Bool) (t : Tables) : Type 0 where
  pub groebner : (h : 1 < b.p) → (r ≡ true) ↔ Groebner (modulo b.p h) (monomials b.n) (Grevlex b.n) (stored_lines b h)
  pub buchberger : (h : 1 < b.p) → (r ≡ true) ↔ Buchberger (modulo b.p h) (monomials b.n) (Grevlex b.n) (stored_lines b h)
  pub below : AllBelow b.p t
  pub filled : (h : 1 < b.p) → AllFilled b h l t
