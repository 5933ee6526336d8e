-- The enumeration of the lex basis, computed: the remainder of each monomial is found by a number of steps, and the rows are eliminated.
--   division_steps    the number of steps that are tried
--   image_row         the coefficients of the remainder of a monomial; image-entry, image-length
--   row_elimination   row elimination with these rows
--   visits            the visits of the monomials in turn
--   FoundLex H B      H is the lex basis and B are its standard monomials, in the theory's words
--   enumerated        the enumeration finds the lex basis and its standard monomials
use mathlib.Core.Path.{◌≡◌, refl, sym, ◌∙◌, ap, subst, fun_ext}
use mathlib.Core.List.{List, [], ◌∷◌, map}
use mathlib.Core.Option.{Option, none, some}
use Prim.Native.Nat.{ℕ, ◌+◌, ◌*◌, ◌≤◌}
use native.Mathlib.Omega.{arith}
use lib.ListN.{length, get_or, length-map}
use Rattle.residue.specs.Prime.{Prime}
use Rattle.residue.specs.Field.{ZMod}
use Rattle.residue.proofs.ResidueField.{residue-ring}
use Rattle.monomial.specs.Rows.{Row, one}
use Rattle.monomial.specs.Orders.{variables}
use Rattle.monomial.specs.Ordering.{monomials, Lex, Grevlex}
use Rattle.monomial.proofs.OrderLaws.{MonomialOrder}
use Rattle.monomial.proofs.LexOrder.{lex-order, variables-rank}
use Rattle.monomial.proofs.GrevlexOrder.{grevlex-order}
use Rattle.groebner.specs.Polynomials.{Poly, Same, coef}
use Rattle.groebner.specs.Lines.{Line, Lines, Reducible}
use Rattle.groebner.specs.Criteria.{Low}
use Rattle.groebner.specs.Remainders.{Normal}
use Rattle.groebner.specs.Bases.{Groebner}
use Rattle.groebner.specs.Conversions.{Lists}
use Rattle.groebner.specs.CoefficientRows.{subtract_multiple, multiply, unit_array, polynomial_of}
use Rattle.groebner.specs.Next.{next}
use Rattle.groebner.specs.Enumeration.{Enumerates}
use Rattle.groebner.proofs.Modules.{self}
use Rattle.groebner.proofs.Linear.{lin}
use Rattle.groebner.proofs.NormalForms.{Rewriting, NF, NF-coef, NF-fixed}
use Rattle.groebner.proofs.Division.{LinePlace, rewriting, finished-irreducible}
use Rattle.groebner.proofs.Images.{image}
use Rattle.groebner.proofs.Coordinates.{sequences, coordinates}
use Rattle.groebner.proofs.ImageCoordinates.{image_vector}
use Rattle.groebner.proofs.Elimination.{Elimination}
use Rattle.groebner.proofs.RowElimination.{add_vector}
use Rattle.groebner.proofs.CoefficientRows.{first_nonzero}
use Rattle.groebner.proofs.CoefficientElimination.{array_elimination}
use Rattle.groebner.proofs.Next.{next-lex, variables-ranking}
use Rattle.groebner.proofs.Enumeration.{Progress, begin, run_from}
use Rattle.groebner.proofs.OrderedTails.{in_order}
use Rattle.groebner.proofs.EnumerationOutcome.{enumeration-outcome}
use Rattle.groebner.proofs.Computing.{finished?, by_grevlex}
use Rattle.convert.proofs.ComputedGround.{h, computed, computed_field, computed_ring, computed_inverse, computed-inverse-law}
use Rattle.convert.proofs.ReducedTerms.{reduce_terms, reduce-normal}

-- More steps than the division of any line or monomial of a case takes. Where they do not suffice, what follows falls back on the theory and only ceases to compute.
abbrev pub division_steps : ℕ
division_steps = 100000

module _ (p : ℕ) (prime : Prime p) (n : ℕ) where
  module _ (G : List (Line (ZMod p) (Row n))) (lines : Lines (computed p prime) (Grevlex n) G) (B₀ : List (Row n)) where
    -- The tails are below their leading monomials.
    abbrev low : Low (Grevlex n) G
    low g q = (lines.falling g q).0

    -- The lines as a rewriting system.
    abbrev S : Rewriting (computed p prime) (monomials n) (LinePlace G)
    S = rewriting (computed_ring p prime n) (grevlex-order n) G low

    -- The remainder of m, as the theory has it.
    abbrev remainder_of : Row n → Row n → ZMod p
    remainder_of = image (computed_ring p prime n) (grevlex-order n) G low

    -- A monomial as a polynomial.
    abbrev mono : Row n → Poly (ZMod p) (Row n)
    mono m = ((computed p prime).one, m) ∷ []

    -- The coefficients of r, if it is finished, else of the remainder of m.
    row_of : (m : Row n) (r : Poly (ZMod p) (Row n)) → Dec (Normal (monomials n) G r) → List (ZMod p)
    row_of m r (yes f) = map (coef (computed p prime) (monomials n) r) B₀
    row_of m r (no f) = map (remainder_of m) B₀

    row-entry : (m : Row n) (r : Poly (ZMod p) (Row n)) (d : Dec (Normal (monomials n) G r)) → Same (computed p prime) (monomials n) (NF S r) (NF S (mono m))
        → (k : ℕ) → get_or (row_of m r d) k (computed p prime).zero ≡ image_vector (computed_ring p prime n) (grevlex-order n) G low B₀ m k
    unfolding row_of coordinates lin self
    row-entry m r (no f) e k = refl
    row-entry m r (yes f) e k = ap (λ w. get_or (map w B₀) k (computed p prime).zero) (fun_ext (λ j. sym (NF-fixed S r (finished-irreducible (computed_ring p prime n) (grevlex-order n) G low r f) j) ∙ e j ∙ NF-coef S (mono m) j
        ∙ (residue-ring p (h p prime)).add_zero _ ∙ (residue-ring p (h p prime)).mul_comm _ _ ∙ (residue-ring p (h p prime)).mul_one _))

    row-length : (m : Row n) (r : Poly (ZMod p) (Row n)) (d : Dec (Normal (monomials n) G r)) → length (row_of m r d) ≡ length B₀
    unfolding row_of
    row-length m r (yes f) = length-map B₀ (coef (computed p prime) (monomials n) r)
    row-length m r (no f) = length-map B₀ (remainder_of m)

    -- The coefficients of the remainder of m, by division if its steps suffice.
    unfoldable pub image_row : Row n → List (ZMod p)
    unfolding by_grevlex finished? reduce_terms coef row_of
    image_row m = let r = reduce_terms (by_grevlex p prime n) G division_steps (mono m) in row_of m r (finished? (by_grevlex p prime n) G r)

    pub image-entry : (m : Row n) (k : ℕ) → get_or (image_row m) k (computed p prime).zero ≡ image_vector (computed_ring p prime n) (grevlex-order n) G low B₀ m k
    unfolding image_row
    image-entry m = let r = reduce_terms (by_grevlex p prime n) G division_steps (mono m) in
        row-entry m r (finished? (by_grevlex p prime n) G r) (reduce-normal (computed_ring p prime n) (grevlex-order n) (by_grevlex p prime n) G low division_steps (mono m))

    pub image-length : (m : Row n) → length (image_row m) ≤ length B₀
    unfolding image_row
    image-length m = let r = reduce_terms (by_grevlex p prime n) G division_steps (mono m) in omega (arith, row-length m r (finished? (by_grevlex p prime n) G r))

    -- Row elimination with these rows.
    unfoldable pub row_elimination : Elimination (sequences (computed_field p prime).ring) (image_vector (computed_ring p prime n) (grevlex-order n) G low B₀) (length B₀)
    unfolding array_elimination add_vector first_nonzero subtract_multiple multiply unit_array polynomial_of computed_field computed_inverse image_row
    row_elimination = array_elimination (computed_field p prime) (computed_inverse p prime) (computed-inverse-law p prime) (image_vector (computed_ring p prime n) (grevlex-order n) G low B₀) (length B₀) image_row image-entry image-length

    -- The visits of the monomials in turn.
    unfoldable pub visits : Option (Progress n row_elimination)
    unfolding run_from row_elimination next variables one
    visits = run_from n row_elimination (next n (variables n)) (1 + n * length B₀) (begin n row_elimination) (one n)

    -- Lex is a monomial ordering.
    abbrev order : MonomialOrder (monomials n) (Lex n (variables n))
    order = lex-order n (variables n) (variables-rank n)

    module _ (gb : Groebner (computed p prime) (monomials n) (Grevlex n) G) (irreducible : Lists (λ m. ¬ Reducible (monomials n) G m) B₀) where
      -- H and B are found.
      abbrev pub FoundLex : List (Line (ZMod p) (Row n)) → List (Row n) → Type 0
      FoundLex = Enumerates (computed p prime) n (Grevlex n) (Lex n (variables n)) G (length B₀)

      unfoldable pub enumerated : (H : List (Line (ZMod p) (Row n))) × (B : List (Row n)) × FoundLex H B
      unfolding visits in_order computed_field computed_ring
      enumerated = let (q, e, w) = enumeration-outcome n (computed_ring p prime n) (grevlex-order n) order (next n (variables n)) (next-lex n (variables n) (variables-ranking n)) G low gb B₀ irreducible row_elimination in at visits q e w
        where
          at : (x : Option (Progress n row_elimination)) (q : Progress n row_elimination) → x ≡ some q → FoundLex (in_order (computed_field p prime) (monomials n) q.standard q.lines) q.standard
              → (H : List (Line (ZMod p) (Row n))) × (B : List (Row n)) × FoundLex H B
          at none q e w = let z : ◌≡◌ {A = ℕ} 0 1 = cc in absurd (omega arith)
          at (some r) q e w = let s : q ≡ r = cc in
              (in_order (computed_field p prime) (monomials n) r.standard r.lines, r.standard, subst (λ (x : Progress n row_elimination). FoundLex (in_order (computed_field p prime) (monomials n) x.standard x.lines) x.standard) s w)
