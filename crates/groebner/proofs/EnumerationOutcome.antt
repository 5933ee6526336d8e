-- What the enumeration yields (T11, T12), for any second order with a successor function: the Conversion in rising order and the standard monomials in
-- rising order, as many as there are irreducible monomials in the first order.
--   standard-count                there are as many standard monomials as irreducible ones
--   seen-outcome                  when all monomials are seen, what is found is an Outcome
--   enumeration-outcome           with room for D standard monomials the enumeration ends after at most 1 + n·D visits, and its outcome is that
use mathlib.Core.Path.{◌≡◌, refl, ◌∙◌, ap}
use mathlib.Core.Bool.{Bool}
use mathlib.Core.List.{List, map}
use mathlib.Core.Option.{Option, some}
use Prim.Native.Nat.{ℕ, ◌+◌, ◌*◌}
use native.Mathlib.Omega.{arith}
use lib.ListN.{length, length-map}
use Rattle.residue.specs.Field.{Arithmetic}
use Rattle.residue.specs.RingLaws.{Field}
use Rattle.monomial.specs.Rows.{Row, one}
use Rattle.monomial.specs.Ordering.{monomials}
use Rattle.monomial.proofs.OrderLaws.{MonomialOrder}
use Rattle.groebner.specs.Lines.{Line, Reducible}
use Rattle.groebner.specs.Criteria.{Low}
use Rattle.groebner.specs.Bases.{Groebner}
use Rattle.groebner.specs.Conversions.{Lists}
use Rattle.groebner.specs.Enumeration.{Enumerates}
use Rattle.groebner.proofs.Ground.{PolynomialRing}
use Rattle.groebner.proofs.Spans.{Shifts}
use Rattle.groebner.proofs.Images.{image}
use Rattle.groebner.proofs.Elimination.{Elimination}
use Rattle.groebner.proofs.Echelon.{echelon-full}
use Rattle.groebner.proofs.RowElimination.{elimination}
use Rattle.groebner.proofs.CoefficientElimination.{array_elimination}
use Rattle.groebner.proofs.Coordinates.{sequences, entries, coordinates}
use Rattle.groebner.proofs.ImageCoordinates.{image_vector, vector-shifts, vector-units}
use Rattle.groebner.proofs.Successors.{Successors}
use Rattle.groebner.proofs.Seen.{AllSeen}
use Rattle.groebner.proofs.Enumeration.{Progress, begin, run_from, enumeration}
use Rattle.groebner.proofs.EnumerationResult.{standard-span, found-exponents, lines-few}
use Rattle.groebner.proofs.EnumerationUnique.{same-standard}
use Rattle.groebner.proofs.OrderedTails.{in_order, length-written, leads-written}
use Rattle.groebner.proofs.EnumerationBasis.{outcome-standard, outcome-rising, outcome-conversion, outcome-terms}

module _ {F : Type 0} {R : Arithmetic F} (field : Field R) where
  open field use {ring, decide, reciprocal}

  -- The inverse of what is not zero.
  inverse : F → F
  inverse c = elim (decide c R.zero) [ yes _ ↦ R.zero | no n ↦ (reciprocal c n).0 ]

  inverse-law : (c : F) → ¬ (c ≡ R.zero) → R.mul (inverse c) c ≡ R.one
  unfolding inverse
  inverse-law c n = at (decide c R.zero)
    where
      at : (d : Dec (c ≡ R.zero)) → R.mul (elim d [ yes _ ↦ R.zero | no n ↦ (reciprocal c n).0 ]) c ≡ R.one
      at (yes z) = absurd (n z)
      at (no m) = ring.mul_comm _ c ∙ (reciprocal c m).1

module _ {F : Type 0} {R : Arithmetic F} (n : ℕ) {lt lt' : Row n → Row n → Type 0} (𝓟 : PolynomialRing R (monomials n)) (ord : MonomialOrder (monomials n) lt) (ord' : MonomialOrder (monomials n) lt')
    (next : (Row n → Bool) → Row n → Option (Row n)) (successors : Successors (monomials n) lt' next)
    (G : List (Line F (Row n))) (low : Low lt G) (gb : Groebner R (monomials n) lt G) (B₀ : List (Row n)) (irreducible : Lists (λ m. ¬ Reducible (monomials n) G m) B₀) where
  open 𝓟 use {field}
  open field use {ring}

  abbrev L : Row n → ℕ → F
  L = image_vector 𝓟 ord G low B₀

  shifts : Shifts (sequences ring) L (monomials n)
  shifts = vector-shifts 𝓟 ord G low B₀ irreducible gb

  -- Row elimination with the images as lists of their coordinates.
  rows-elimination : Elimination (sequences ring) L (length B₀)
  unfolding coordinates
  rows-elimination = array_elimination field (inverse field) (inverse-law field) L (length B₀) (λ m. map (image 𝓟 ord G low m) B₀) (λ m k. refl) (λ m. omega (arith, length-map B₀ (image 𝓟 ord G low m)))

  -- Where it holds a list that spans the images, the list is as long as B₀: the images of B₀ are the unit vectors.
  full-count : (s : rows-elimination.State) (H : List (Line F (Row n))) (B : List (Row n)) → rows-elimination.Holds s B → AllSeen n (sequences ring) L lt' H B → length B ≡ length B₀
  unfolding rows-elimination array_elimination elimination
  full-count s H B h v = echelon-full (entries ring) L (length B₀) _ B h.echelon (λ p l. let u = vector-units 𝓟 ord G low B₀ irreducible p l in
      (L u.0, u.1, standard-span n (sequences ring) L ord' shifts H B v u.0))

  module _ (H : List (Line F (Row n))) (B : List (Row n)) (v : AllSeen n (sequences ring) L lt' H B) where
    -- The number of standard monomials is the same in both orders.
    pub standard-count : length B ≡ length B₀
    standard-count = let (q, _, c) = enumeration n rows-elimination ord' shifts next successors in
        ap length (same-standard n (sequences ring) L ord' shifts H B v q.lines q.standard c.seen) ∙ full-count q.state q.lines q.standard c.holds c.seen

    pub seen-outcome : Enumerates R n lt lt' G (length B₀) (in_order field (monomials n) B H) B
    seen-outcome = record {
      conversion = outcome-conversion n 𝓟 ord ord' G low gb B₀ irreducible H B v;
      rising = outcome-rising n 𝓟 ord ord' G low gb B₀ irreducible H B v;
      standard = outcome-standard n 𝓟 ord ord' G low gb B₀ irreducible H B v;
      count = standard-count;
      few = λ p. omega (arith, length-written field (monomials n) B H, lines-few n (sequences ring) L ord' shifts H B v (length B₀) (omega (arith, standard-count)) p);
      exponents = rw (leads-written field (monomials n) B H) (found-exponents n (sequences ring) L ord' shifts H B v (length B₀) (omega (arith, standard-count)));
      terms = λ h i. omega (arith, outcome-terms n 𝓟 ord ord' G low gb B₀ irreducible H B v h i, standard-count);
    }

  pub enumeration-outcome : {D : ℕ} (E : Elimination (sequences ring) L D)
      → (q : Progress n E) × (run_from n E next (1 + n * D) (begin n E) (one n) ≡ some q) × Enumerates R n lt lt' G (length B₀) (in_order field (monomials n) q.standard q.lines) q.standard
  enumeration-outcome E = let (q, e, c) = enumeration n E ord' shifts next successors in (q, e, seen-outcome q.lines q.standard c.seen)
