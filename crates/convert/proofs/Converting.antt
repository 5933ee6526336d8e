-- The conversion of a basis that passed checks 2 to 15.
--   enumerates       the enumeration has what it asks
--   to-print         what it gives can be printed
--   converts         and is the lex basis with its standard monomials
--   finished-basis   so the printing ends the conversion
use Prim.Native.Nat.{ℕ, ◌<◌}
use mathlib.Core.Path.{◌≡◌, sym, subst}
use mathlib.Core.List.{List}
use native.Mathlib.Bridge.{le_prop}
use lib.ListN.{length}
use Rattle.lists.specs.Lists.{Bytes}
use Rattle.residue.specs.Prime.{Prime}
use Rattle.residue.specs.Field.{ZMod, modulo}
use Rattle.residue.specs.declared.reciprocals.Reciprocals.{Reciprocals}
use Rattle.monomial.specs.Rows.{Row}
use Rattle.monomial.specs.Orders.{variables}
use Rattle.monomial.specs.Ordering.{monomials, Lex, Grevlex}
use Rattle.monomial.specs.declared.Monomial.{Monomial}
use Rattle.monomial.proofs.Products.{rows-laws}
use Rattle.answer.specs.Finished.{Finished}
use Rattle.answer.specs.declared.Refused.{Refused}
use Rattle.std.specs.Prelude.{Result}
use Rattle.groebner.specs.Lines.{Line}
use Rattle.groebner.specs.Bases.{Reduced}
use Rattle.groebner.specs.Criteria.{Clear, Low}
use Rattle.groebner.specs.Enumeration.{Enumerates}
use Rattle.groebner.proofs.Clear.{clear-iff}
use Rattle.groebner.proofs.Next.{variables-ranking}
use Rattle.lines.specs.declared.StoredBasis.{StoredBasis}
use Rattle.staircase.specs.StoredLines as read
use Rattle.multiplication.specs.declared.rows.Tables.{Tables}
use Rattle.fglm.specs.Found.{found_lines, found_standard, Printable}
use Rattle.fglm.specs.Enumerable.{Enumerated}
use Rattle.fglm.specs.Enumerable as fglm
use Rattle.fglm.specs.declared.lex_basis.LexBasis.{LexBasis}
use Rattle.fglm.proofs.BasisLines.{convertible, converted-at}
use Rattle.convert.specs.LexText.{ToPrint, written_of}
use Rattle.convert.specs.Outcome.{Converts}
use Rattle.convert.specs.Finished.{PassedBasis, FinishedBasis}
use Rattle.convert.proofs.Conversions.{outcome-converts}

module _ (b : StoredBasis) (l : List Monomial) (t : Tables) (basis : PassedBasis l t b) (reciprocals : Reciprocals)
    (same : reciprocals.field.p ≡ b.p) (s : List ℕ) (identity : s ≡ variables b.n) where
  open basis use {modulus, variables as sizes, convertible as given}

  reduced : (h : 1 < b.p) → Reduced (modulo b.p h) (monomials b.n) (Grevlex b.n) (read.stored_lines b h)
  reduced = given.reduced

  clear : (h : 1 < b.p) → Clear (modulo b.p h) (monomials b.n) (read.stored_lines b h)
  clear h = (clear-iff _ (rows-laws b.n) _).1 ((reduced h).once, (reduced h).clear)

  low : (h : 1 < b.p) → Low (Grevlex b.n) (read.stored_lines b h)
  low h g q = ((reduced h).lines.falling g q).0

  pub enumerates : fglm.EnumerationInput reciprocals b.n s l t
  enumerates = subst (λ s. fglm.EnumerationInput reciprocals b.n s l t) (sym identity)
      (convertible b reciprocals same (variables b.n) l t sizes given.irreducibles (variables-ranking b.n) given.below
      low clear (λ h. (reduced h).groebner) given.filled)

  module _ (r : LexBasis) (enumerated : Enumerated reciprocals b.n s l t r) where
    found : Enumerated reciprocals b.n (variables b.n) l t r
    found = subst (λ s. Enumerated reciprocals b.n s l t r) identity enumerated

    abbrev H : (h : 1 < b.p) → List (Line (ZMod b.p) (Row b.n))
    H h = found_lines b.p h b.n r

    at : Printable b.p b.n r × ((prime : Prime b.p) → let h = prime.above_one in
        Enumerates (modulo b.p h) b.n (Grevlex b.n) (Lex b.n (variables b.n)) (read.stored_lines b h) (length l) (H h) (found_standard b.n r))
    at = converted-at b reciprocals same (variables b.n) l t sizes given.irreducibles (variables-ranking b.n) given.below
        low clear (λ h. (reduced h).groebner) given.filled r found

    pub to-print : ToPrint b.p b.n r
    to-print = record { above_one = modulus.prime.above_one; printable = at.0 }

    pub converts : (h : 1 < b.p) → Converts b.p h b.n (read.stored_lines b h) (H h) (found_standard b.n r)
    converts h = subst (λ (h : 1 < b.p). Converts b.p h b.n (read.stored_lines b h) (H h) (found_standard b.n r)) (le_prop prime.above_one h)
        (let q = reduced prime.above_one in outcome-converts b.p prime b.n _ q.lines q.groebner (length l) _ _ (at.1 prime))
      where
        prime : Prime b.p
        prime = modulus.prime

    pub finished-basis : (was left : Bytes) (a : Result ℕ Refused) → ((h : 1 < b.p) → Finished (written_of b.p h b.n r) was left a) → FinishedBasis b was left a
    finished-basis was left a f h = (H h, found_standard b.n r, converts h, f h)
