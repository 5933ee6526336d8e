-- Inner contracts. What filling the rows of the products x_i·B_s asks, and what it gives.
--   Fillable b l            the lines of b are sound, and the list l has their irreducible monomials
--   AllFilled b h l t       the tables t have these rows, B the list l
--   FilledRows b l t        so they have, all coefficients below p
use Rattle.std.specs.Prelude.{ℕ, ◌<◌, List, length}
use Rattle.residue.specs.Field.{modulo}
use Rattle.monomial.specs.Rows.{one}
use Rattle.monomial.specs.Ordering.{Grevlex}
use Rattle.groebner.specs.Criteria.{Low}
use Rattle.groebner.specs.MultiplicationRows.{Filled}
use Rattle.lines.specs.declared.StoredBasis.{StoredBasis}
use Rattle.staircase.specs.StoredLines.{stored_lines}
use Rattle.staircase.specs.Sound.{Sound}
use Rattle.staircase.specs.Listed.{listed, ListsIrreducibles}
use Rattle.monomial.specs.declared.Monomial.{Monomial}
use Rattle.multiplication.specs.Rows.{AllBelow, cell_of}
use Rattle.multiplication.specs.declared.rows.Tables.{Tables}

-- The lines of b are sound, each led by its greatest monomial, and the list l has their irreducible monomials.
pub record Fillable (b : StoredBasis) (l : List Monomial) : Type 0 where
  pub sound : Sound b
  pub irreducibles : ListsIrreducibles b l
  pub low : (h : 1 < b.p) → Low (Grevlex b.n) (stored_lines b h)

-- The tables t have the rows of the products x_i·B_s, B the list l.
abbrev pub AllFilled : (b : StoredBasis) → 1 < b.p → List Monomial → Tables → Type 0
AllFilled b h l t = (i : ℕ) → i < b.n → (s : ℕ) → s < length l → Filled (modulo b.p h) b.n (stored_lines b h) (listed b.n l) (one b.n) (cell_of b.p h t) i s

-- The tables t have these rows, all coefficients below p.
pub record FilledRows (b : StoredBasis) (l : List Monomial) (t : Tables) : Type 0 where
  pub below : AllBelow b.p t
  pub filled : (h : 1 < b.p) → AllFilled b h l t
