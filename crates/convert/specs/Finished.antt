-- Inner contracts. The conversion of a basis that passed checks 2 to 15, and check 16 (document 01, refusal 16).
--   PassedBasis l t b         b passed checks 2 to 15, and has the irreducible monomials l and the multiplication rows t
--   FinishedBasis b was left r    what the output bytes `was` and the answer come to
use Rattle.std.specs.Prelude.{ℕ, ◌<◌, List, Result}
use Rattle.lists.specs.Lists.{Bytes}
use Rattle.residue.specs.Prime.{Modulus}
use Rattle.residue.specs.Field.{ZMod}
use Rattle.monomial.specs.Sizes.{VariableCount}
use Rattle.monomial.specs.Rows.{Row}
use Rattle.monomial.specs.declared.Monomial.{Monomial}
use Rattle.answer.specs.Finished.{Finished}
use Rattle.answer.specs.declared.Refused.{Refused}
use Rattle.groebner.specs.Lines.{Line}
use Rattle.lines.specs.declared.StoredBasis.{StoredBasis}
use Rattle.staircase.specs.StoredLines.{stored_lines}
use Rattle.multiplication.specs.declared.rows.Tables.{Tables}
use Rattle.acceptance.specs.Answers.{Convertible}
use Rattle.convert.specs.Written.{written}
use Rattle.convert.specs.Outcome.{Converts}

-- What is known of a basis that passed checks 2 to 15.
pub record PassedBasis (l : List Monomial) (t : Tables) (b : StoredBasis) : Type 0 where
  pub modulus : Modulus b.p
  pub variables : VariableCount b.n
  pub convertible : Convertible b l t

-- The output is that of the lex basis and its standard monomials.
abbrev pub FinishedBasis : StoredBasis → Bytes → Bytes → Result ℕ Refused → Type 0
FinishedBasis b was left r = (h : 1 < b.p) → (H : List (Line (ZMod b.p) (Row b.n))) × (B : List (Row b.n))
    × Converts b.p h b.n (stored_lines b h) H B × Finished (written b.p h b.n H B) was left r
