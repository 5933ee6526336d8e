-- The instance (T10): residues modulo a prime, n variables, grevlex first and lex over any ranking of the variables second.
--   ground p prime n     residues modulo p and monomials in n variables meet what the theory asks
--   criterion            Buchberger's criterion for a grevlex text (T3)
--   ConvertedLines s H   what a conversion to lex over the ranking s is
--   converted            a Conversion of a grevlex Groebner basis is that: reduced, of the same ideal, with the standard monomials (T7), and demand 3 (T9)
--   lex-enumeration      the enumeration finds a Conversion: over arrays of coefficients it ends after at most 1 + n·D visits, and its outcome is the Conversion
--                        in rising order with the D standard monomials in rising order, D the number of irreducible monomials of the grevlex text (T11, T12)
--   one-basis            there is one such basis in rising order (T8)
use mathlib.Core.Path.{◌≡◌}
use mathlib.Core.List.{List}
use mathlib.Core.Logic.{◌↔◌}
use mathlib.Core.Option.{some}
use Prim.Native.Nat.{ℕ, ◌+◌, ◌*◌, ◌≤◌}
use lib.ListN.{length, get_or}
use Rattle.residue.specs.Prime.{Prime}
use Rattle.residue.specs.Field.{Arithmetic, ZMod, modulo}
use Rattle.residue.proofs.ResidueField.{residue-field}
use Rattle.monomial.specs.Rows.{Row, one}
use Rattle.monomial.proofs.OrderLaws.{Ranks}
use Rattle.monomial.specs.Ordering.{monomials, Lex, Grevlex}
use Rattle.monomial.proofs.Products.{rows-laws}
use Rattle.monomial.proofs.LexOrder.{lex-order}
use Rattle.monomial.proofs.GrevlexOrder.{grevlex-order}
use Rattle.groebner.specs.Lines.{Line, Lines, Reducible, Rising}
use Rattle.groebner.specs.Ideals.{SameIdeal}
use Rattle.groebner.specs.Bases.{Groebner, Reduced}
use Rattle.groebner.specs.Criteria.{Buchberger, Low}
use Rattle.groebner.specs.Standard.{Standard}
use Rattle.groebner.specs.Conversions.{Lists, Conversion}
use Rattle.groebner.specs.Systems.{Equivalent}
use Rattle.groebner.specs.Next.{RanksOnce, next}
use Rattle.groebner.specs.Enumeration.{Enumerates}
use Rattle.groebner.proofs.Ground.{PolynomialRing}
use Rattle.groebner.proofs.Buchberger.{buchberger}
use Rattle.groebner.proofs.ChangeOfOrder.{conversion-ideal, conversion-standard, conversion-reduced}
use Rattle.groebner.proofs.Uniqueness.{unique-basis}
use Rattle.groebner.proofs.Equivalence.{equivalent}
use Rattle.groebner.proofs.Elimination.{Elimination}
use Rattle.groebner.proofs.CoefficientElimination.{array_elimination}
use Rattle.groebner.proofs.Coordinates.{sequences}
use Rattle.groebner.proofs.ImageCoordinates.{image_vector}
use Rattle.groebner.proofs.Next.{next-lex}
use Rattle.groebner.proofs.Enumeration.{Progress, begin, run_from}
use Rattle.groebner.proofs.OrderedTails.{in_order}
use Rattle.groebner.proofs.EnumerationOutcome.{enumeration-outcome}

module _ (p : ℕ) (prime : Prime p) (n : ℕ) where
  abbrev F : Type 0
  F = ZMod p

  abbrev R : Arithmetic F
  R = modulo p prime.above_one

  unfoldable pub ground : PolynomialRing R (monomials n)
  ground = record { field = residue-field p prime; monoid = rows-laws n }

  module _ (G : List (Line F (Row n))) (lines : Lines R (Grevlex n) G) where
    abbrev low : Low (Grevlex n) G
    low g q = (lines.falling g q).0

    pub criterion : Buchberger R (monomials n) (Grevlex n) G ↔ Groebner R (monomials n) (Grevlex n) G
    criterion = buchberger ground (grevlex-order n) G low

    -- What a conversion to lex is.
    pub record ConvertedLines (s : List ℕ) (H : List (Line F (Row n))) : Type 0 where
      pub reduced : Reduced R (monomials n) (Lex n s) H
      pub ideal : SameIdeal R (monomials n) G H
      pub standard : (m : Row n) → Standard R (monomials n) (Grevlex n) (Lex n s) G m ↔ (¬ Reducible (monomials n) H m)
      pub systems : Equivalent R (monomials n) (record { lt = Grevlex n; lines = G }) (record { lt = Lex n s; lines = H })

    pub converted : Groebner R (monomials n) (Grevlex n) G → (s : List ℕ) → Ranks n s → (H : List (Line F (Row n))) → Conversion R (monomials n) (Grevlex n) (Lex n s) G H → ConvertedLines s H
    converted gb s ranks H w = record {
      reduced = reduced;
      ideal = ideal;
      standard = conversion-standard ground (grevlex-order n) (lex-order n s ranks) G low gb H w;
      systems = equivalent ground _ _ (grevlex-order n) (lex-order n s ranks) low (λ g q. (reduced.lines.falling g q).0) gb reduced.groebner ideal;
    }
      where
        reduced : Reduced R (monomials n) (Lex n s) H
        reduced = conversion-reduced ground (grevlex-order n) (lex-order n s ranks) G low gb H w

        ideal : SameIdeal R (monomials n) G H
        ideal = conversion-ideal ground (grevlex-order n) (lex-order n s ranks) G low gb H w

    -- The enumeration, with the images of monomials as lists of at most D coefficients.
    module _ (gb : Groebner R (monomials n) (Grevlex n) G) (s : List ℕ) (ranking : RanksOnce n s) (B₀ : List (Row n)) (irreducible : Lists (λ m. ¬ Reducible (monomials n) G m) B₀)
        (inverse : F → F) (inverse-law : (c : F) → ¬ (c ≡ R.zero) → R.mul (inverse c) c ≡ R.one)
        (row : Row n → List F) (entry : (m : Row n) (k : ℕ) → get_or (row m) k R.zero ≡ image_vector ground (grevlex-order n) G low B₀ m k) (fits : (m : Row n) → length (row m) ≤ length B₀) where
      abbrev D : ℕ
      D = length B₀

      abbrev E : Elimination (sequences ground.field.ring) (image_vector ground (grevlex-order n) G low B₀) D
      E = array_elimination ground.field inverse inverse-law (image_vector ground (grevlex-order n) G low B₀) D row entry fits

      pub lex-enumeration : (q : Progress n E) × (run_from n E (next n s) (1 + n * D) (begin n E) (one n) ≡ some q)
          × Enumerates R n (Grevlex n) (Lex n s) G D (in_order ground.field (monomials n) q.standard q.lines) q.standard
      lex-enumeration = enumeration-outcome n ground (grevlex-order n) (lex-order n s ranking.all) (next n s) (next-lex n s ranking) G low gb B₀ irreducible E

  -- In rising order there is one reduced lex Groebner basis of an ideal.
  pub one-basis : (s : List ℕ) → Ranks n s → (H K : List (Line F (Row n))) → Reduced R (monomials n) (Lex n s) H → Reduced R (monomials n) (Lex n s) K
      → Rising (Lex n s) H → Rising (Lex n s) K → SameIdeal R (monomials n) H K → H ≡ K
  one-basis s ranks = unique-basis ground (lex-order n s ranks)
