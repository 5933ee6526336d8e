-- Inner contracts. What the answers to checks 12 to 15 and to checks 2 to 15 say of a basis of the code.
--   WholeVerdict b r         r is the outcome of checks 12 to 15
--   LeadsPass b              checks 12 and 13, by the leading monomials, speak of nothing
--   PassedTo13 leads b       b is sound besides, and has these leading monomials
--   Convertible b l t        what a basis that passes has for the conversion: a reduced Groebner basis, its irreducible monomials, its multiplication rows
--   WholeSays b r t      the answer to checks 12 to 15
--   TextSays                 the answer to checks 2 to 15 of a text
use Rattle.std.specs.Prelude.{ℕ, ◌<◌, ◌≡◌, List, length, Result, Ok, Err}
use Rattle.arrayvec.specs.ArrayVec.{ArrayVec}
use Rattle.lists.specs.Lists.{Bytes}
use Rattle.residue.specs.Field.{modulo}
use Rattle.monomial.specs.Rows.{one}
use Rattle.monomial.specs.Ordering.{monomials, Grevlex}
use Rattle.monomial.specs.declared.Monomial.{Monomial}
use Rattle.answer.specs.Outcomes.{refused, passed}
use Rattle.answer.specs.Refusals.{number}
use Rattle.answer.specs.Verdicts.{judged}
use Rattle.answer.specs.declared.Refused.{Refused}
use Rattle.groebner.specs.Bases.{Reduced}
use Rattle.groebner.specs.Standard.{ZeroDimensional}
use Rattle.groebner.specs.MultiplicationRows.{Filled}
use Rattle.lines.specs.declared.StoredBasis.{StoredBasis}
use Rattle.checks.specs.Checks.{Checked}
use Rattle.checks.specs.Answers.{basis_of}
use Rattle.staircase.specs.StoredLines.{stored_lines}
use Rattle.staircase.specs.Leads.{LeadsOf}
use Rattle.staircase.specs.Sound.{Sound}
use Rattle.staircase.specs.Conditions.{Divided}
use Rattle.staircase.specs.Listed.{listed, ListsIrreducibles}
use Rattle.multiplication.specs.Rows.{AllBelow, cell_of}
use Rattle.multiplication.specs.declared.rows.Tables.{Tables}
use Rattle.acceptance.specs.Whole.{Whole}

-- The answer r is the outcome of checks 12 to 15.
abbrev pub WholeVerdict : {T : Type 0} → StoredBasis → Result T Refused → Type 0
WholeVerdict b r = (h : 1 < b.p) → Whole b.p h b.n (stored_lines b h) (λ o. o ≡ passed tt) (judged {A = Unit} r tt)

-- Checks 12 and 13, by the leading monomials, speak of nothing.
abbrev pub LeadsPass : StoredBasis → Type 0
LeadsPass b = (h : 1 < b.p) → ((k : ℕ) → ¬ Divided (modulo b.p h) (monomials b.n) (stored_lines b h) k) × ZeroDimensional b.n (stored_lines b h)

-- A sound basis with these leading monomials, of which 12 and 13 say nothing.
pub record PassedTo13 (leads : List Monomial) (b : StoredBasis) : Type 0 where
  pub sound : Sound b
  pub leading : LeadsOf b leads
  pub pass : LeadsPass b

-- What the conversion works on.
pub record Convertible (b : StoredBasis) (l : List Monomial) (t : Tables) : Type 0 where
  pub reduced : (h : 1 < b.p) → Reduced (modulo b.p h) (monomials b.n) (Grevlex b.n) (stored_lines b h)
  pub irreducibles : ListsIrreducibles b l
  pub below : AllBelow b.p t
  pub filled : (h : 1 < b.p) (i : ℕ) → i < b.n → (s : ℕ) → s < length l → Filled (modulo b.p h) b.n (stored_lines b h) (listed b.n l) (one b.n) (cell_of b.p h t) i s

-- The answer to checks 12 to 15: the outcome, and what the conversion works on if the basis passes.
pub record WholeSays (b : StoredBasis) (r : Result (ArrayVec Monomial) Refused) (t : Tables) : Type 0 where
  pub verdict : WholeVerdict b r
  pub convertible : (l : ArrayVec Monomial) → r ≡ Ok l → Convertible b l.items t

-- The answer to checks 2 to 15 of a text s: refused by 2 to 11; or b is the basis of the text, and the answer is that to 12 to 15.
pub data TextSays (s : Bytes) (r : Result (ArrayVec Monomial) Refused) (b : StoredBasis) (t : Tables) : Type 0 where
  lines_refused : {e : Refused} → r ≡ Err e → Checked s (refused (number e.refusal) e.line) → TextSays s r b t
  lines_passed : Checked s (passed (basis_of b)) → WholeSays b r t → TextSays s r b t
