-- The enumeration for the lines of a basis of the code.
--   enumerable       what the enumeration asks of the lines, from what the caller knows of the basis
--   convertible      the lines of a basis that are a Groebner basis can be converted, with the reciprocals of its modulus
--   converted-at     what the enumeration gives, over that modulus
use Prim.Native.Nat.{ℕ, ◌<◌}
use mathlib.Core.Path.{◌≡◌, sym, subst}
use mathlib.Core.List.{List}
use lib.ListN.{length}
use Rattle.residue.specs.Prime.{Prime}
use Rattle.residue.specs.Field.{ZMod, modulo}
use Rattle.residue.specs.declared.reciprocals.Reciprocals.{Reciprocals}
use Rattle.monomial.specs.Sizes.{VariableCount}
use Rattle.monomial.specs.Rows.{Row, one}
use Rattle.monomial.specs.Ordering.{Lex, Grevlex, monomials}
use Rattle.monomial.specs.declared.Monomial.{Monomial}
use Rattle.monomial.proofs.GrevlexOrder.{grevlex-order}
use Rattle.groebner.specs.Lines.{Line}
use Rattle.groebner.specs.Bases.{Groebner}
use Rattle.groebner.specs.Criteria.{Clear, Low}
use Rattle.groebner.specs.MultiplicationRows.{Filled}
use Rattle.groebner.specs.Next.{RanksOnce}
use Rattle.groebner.specs.Enumeration.{Enumerates}
use Rattle.groebner.proofs.RisingLists.{rising-once}
use Rattle.lines.specs.declared.StoredBasis.{StoredBasis}
use Rattle.staircase.specs.StoredLines as read
use Rattle.staircase.specs.Listed.{listed, ListsIrreducibles}
use Rattle.multiplication.specs.Rows.{AllBelow, cell_of}
use Rattle.multiplication.specs.declared.rows.Tables.{Tables}
use Rattle.fglm.specs.Found.{found_lines, found_standard, Printable}
use Rattle.fglm.specs.Enumerable.{Enumerable, EnumerationInput, Enumerated}
use Rattle.fglm.specs.declared.lex_basis.LexBasis.{LexBasis}

module _ (b : StoredBasis) (t : Reciprocals) (same : t.field.p ≡ b.p) (s : List ℕ) (l : List Monomial) (tables : Tables) where
  abbrev n : ℕ
  n = b.n

  module _ (sizes : VariableCount n) (irreducibles : ListsIrreducibles b l) (ranking : RanksOnce n s)
      (below : AllBelow b.p tables) (low : (h : 1 < b.p) → Low (Grevlex n) (read.stored_lines b h))
      (clear : (h : 1 < b.p) → Clear (modulo b.p h) (monomials n) (read.stored_lines b h)) (groebner : (h : 1 < b.p) → Groebner (modulo b.p h) (monomials n) (Grevlex n) (read.stored_lines b h))
      (filled : (h : 1 < b.p) (i : ℕ) → i < n → (k : ℕ) → k < length l → Filled (modulo b.p h) n (read.stored_lines b h) (listed n l) (one n) (cell_of b.p h tables) i k) where
    pub enumerable : (prime : Prime b.p) → Enumerable b.p prime n l tables (read.stored_lines b prime.above_one)
    enumerable prime = let h = prime.above_one in let r = irreducibles.lists h in record {
      low = low h;
      clear = clear h;
      groebner = groebner h;
      lists = record { once = rising-once (grevlex-order n) (listed n l) r.rising; all = r.all; only = r.only };
      filled = filled h;
    }

    pub convertible : EnumerationInput t n s l tables
    convertible = record {
      variables = sizes;
      ranking = ranking;
      few = irreducibles.few;
      below = subst (λ p. AllBelow p tables) (sym same) below;
      lines = subst (λ p. (prime : Prime p) → (G : List (Line (ZMod p) (Row n))) × Enumerable p prime n l tables G) (sym same) (λ prime. (read.stored_lines b prime.above_one, enumerable prime));
    }

    pub converted-at : (r : LexBasis) → Enumerated t n s l tables r → Printable b.p n r
        × ((prime : Prime b.p)
        → Enumerates (modulo b.p prime.above_one) n (Grevlex n) (Lex n s) (read.stored_lines b prime.above_one) (length l) (found_lines b.p prime.above_one n r) (found_standard n r))
    converted-at r e = (
      subst (λ p. Printable p n r) same e.printable,
      λ prime. subst (λ p. (prime : Prime p) (G : List (Line (ZMod p) (Row n))) → Enumerable p prime n l tables G
          → Enumerates (modulo p prime.above_one) n (Grevlex n) (Lex n s) G (length l) (found_lines p prime.above_one n r) (found_standard n r)) same e.outcome prime _ (enumerable prime),
    )
