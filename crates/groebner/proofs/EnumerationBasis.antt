-- The enumeration converts (T11): when all monomials are seen, the lines H found, written in order, are the Conversion of the Groebner basis G to the
-- second order, and B has the standard monomials.
--   found-iff              B has the standard monomials
--   outcome-standard       in rising order
--   outcome-rising         the lines rise by leading monomial
--   outcome-conversion     they are the Conversion
--   outcome-terms          each has at most one term more than there are standard monomials
use mathlib.Core.Path.{◌≡◌, sym, ◌∙◌, ap, subst}
use mathlib.Core.List.{List, [], ◌∷◌}
use mathlib.Core.Logic.{◌↔◌, ⊎_elim}
use Prim.Native.Nat.{ℕ, ◌+◌, ◌≤◌}
use native.Mathlib.Omega.{arith}
use lib.ListN.{length}
use Rattle.lists.specs.Lists.{◌∈◌, Once}
use Rattle.residue.specs.Field.{Arithmetic}
use Rattle.monomial.specs.Rows.{Row}
use Rattle.monomial.specs.Ordering.{Monomials, Divides, monomials}
use Rattle.monomial.proofs.OrderLaws.{MonomialOrder}
use Rattle.monomial.proofs.AnyOrder.{irreflexive}
use Rattle.groebner.specs.Polynomials.{All, Polynomial, coef, Same}
use Rattle.groebner.specs.Lines.{Line, polynomial, Falling, Reducible, Rising}
use Rattle.groebner.specs.Criteria.{Low}
use Rattle.groebner.specs.Remainders.{Remainder}
use Rattle.groebner.specs.Bases.{Groebner}
use Rattle.groebner.specs.Standard.{Standard}
use Rattle.groebner.specs.Conversions.{Lists, Conversion}
use Rattle.groebner.specs.RisingLists.{ListsRising}
use Rattle.groebner.specs.OrderedTails.{ordered, ordered_line}
use Rattle.groebner.proofs.Modules.{self, functions}
use Rattle.groebner.proofs.Linear.{all_map, lin-same}
use Rattle.groebner.proofs.Terms.{coef-cons}
use Rattle.groebner.proofs.Ground.{PolynomialRing}
use Rattle.groebner.proofs.GroebnerBases.{zero-remainder}
use Rattle.groebner.proofs.Spans.{Dependent, Shifts}
use Rattle.groebner.proofs.Images.{image-NF, standard-iff as standard-by-images}
use Rattle.groebner.proofs.Coordinates.{sequences}
use Rattle.groebner.proofs.ImageCoordinates.{image_vector, vector-dependent, vector-zero, vector-shifts}
use Rattle.groebner.proofs.RisingLists.{rising-once, rising-leads}
use Rattle.groebner.proofs.Lists.{in_map}
use Rattle.groebner.proofs.Seen.{FoundLine, AllSeen}
use Rattle.groebner.proofs.EnumerationResult.{MinimalDependent, found-standard-iff, lead-iff}
use Rattle.groebner.proofs.OrderedTails.{in_order, ordered-all, ordered-length, ordered-proper, ordered-falling, tail_all, tail-same, leads-written, each-written, of-written}

-- Lines that rise by leading monomial are different.
once-rising : {F M : Type 0} {𝓜 : Monomials M} {lt : M → M → Type 0} (ord : MonomialOrder 𝓜 lt) (H : List (Line F M)) → Rising lt H → Once H
once-rising ord [] r = tt
once-rising ord (h ∷ H) r = (λ i. irreflexive ord (r.0 h i), once-rising ord H r.1)

module _ {F : Type 0} {R : Arithmetic F} (n : ℕ) {lt lt' : Row n → Row n → Type 0} (𝓟 : PolynomialRing R (monomials n)) (ord : MonomialOrder (monomials n) lt) (ord' : MonomialOrder (monomials n) lt')
    (G : List (Line F (Row n))) (low : Low lt G) (gb : Groebner R (monomials n) lt G) (B₀ : List (Row n)) (irreducible : Lists (λ m. ¬ Reducible (monomials n) G m) B₀)
    (H : List (Line F (Row n))) (B : List (Row n)) (v : AllSeen n (sequences 𝓟.field.ring) (image_vector 𝓟 ord G low B₀) lt' H B) where
  open 𝓟 use {field}
  open field use {ring, nontrivial}

  abbrev L : Row n → ℕ → F
  L = image_vector 𝓟 ord G low B₀

  abbrev Std : Row n → Type 0
  Std = Standard R (monomials n) lt lt' G

  abbrev H' : List (Line F (Row n))
  H' = in_order field (monomials n) B H

  shifts : Shifts (sequences ring) L (monomials n)
  shifts = vector-shifts 𝓟 ord G low B₀ irreducible gb

  standard-by-vectors : (m : Row n) → Std m ↔ (¬ Dependent (sequences ring) L lt' m)
  standard-by-vectors m = let (to, from) = vector-dependent 𝓟 ord G low B₀ irreducible lt' m in
      (λ s d. (standard-by-images 𝓟 ord G low lt' m).0 s (to d), λ i. (standard-by-images 𝓟 ord G low lt' m).1 (λ d. i (from d)))

  pub found-iff : (m : Row n) → (m ∈ B) ↔ Std m
  found-iff m = (
    λ i. (standard-by-vectors m).1 ((found-standard-iff n (sequences ring) L ord' shifts H B v m).0 i),
    λ s. (found-standard-iff n (sequences ring) L ord' shifts H B v m).1 ((standard-by-vectors m).0 s),
  )

  pub outcome-standard : ListsRising lt' Std B
  outcome-standard = record { rising = v.rising_standard; all = λ m. (found-iff m).1; only = λ m. (found-iff m).0 }

  pub outcome-rising : Rising lt' H'
  outcome-rising = rising-leads lt' H' (rw (leads-written field (monomials n) B H) v.rising_lines)

  -- A line found.
  module _ (g : Line F (Row n)) (i : g ∈ H) where
    line : FoundLine n (sequences ring) L lt' B g
    line = (v.lines g i).1

    once : Once B
    once = rising-once ord' B v.rising_standard

    tail-below : All (λ m. lt' m g.0) (ordered field B (coef R (monomials n) g.1))
    tail-below = tail_all field (monomials n) B g.1 (all_map (λ k p. p.1) line.tail)

    proper : Polynomial R (polynomial R (ordered_line field (monomials n) B g))
    unfolding polynomial
    proper = (nontrivial, all_map (λ m l e. irreflexive ord' (subst (λ x. lt' x g.0) e l)) tail-below, ordered-proper field (coef R (monomials n) g.1) B once)

    same : Same R (monomials n) (polynomial R (ordered_line field (monomials n) B g)) (polynomial R g)
    unfolding polynomial
    same k = coef-cons ring (monomials n) _ _ k ∙ ap (R.add _) (tail-same field (monomials n) B once g.1 (all_map (λ k p. p.0) line.tail) k) ∙ sym (coef-cons ring (monomials n) _ g.1 k)

    remainder-zero : Remainder R (monomials n) lt G (polynomial R (ordered_line field (monomials n) B g)) []
    unfolding functions self
    remainder-zero = zero-remainder 𝓟 ord G low _ proper (λ k. sym (image-NF 𝓟 ord G low _ k)
        ∙ ap (λ w. w k) (vector-zero 𝓟 ord G low B₀ irreducible _ (lin-same ring (monomials n) (sequences ring) L _ (polynomial R g) same ∙ line.image)))

    minimal : MinimalDependent n (sequences ring) L lt' g.0
    minimal = (lead-iff n (sequences ring) L ord' shifts H B v g.0).0 (in_map (λ g. g.0) i)

  pub outcome-conversion : Conversion R (monomials n) lt lt' G H'
  unfolding polynomial
  outcome-conversion = record {
    lines = record {
      falling = each (λ h. All (λ m. lt' m h.0) h.1 × Falling lt' h.1) (λ g i. (tail-below g i, ordered-falling field (coef R (monomials n) g.1) lt' B v.rising_standard));
      proper = each (λ h. Polynomial R h.1) (λ g i. (proper g i).2);
    };
    once = once-rising ord' H' outcome-rising;
    leads = each (λ h. (¬ Std h.0) × ((d : Row n) → Divides (monomials n) d h.0 → ¬ (d ≡ h.0) → Std d))
        (λ g i. (λ s. (standard-by-vectors g.0).0 s (minimal g i).0, λ d p q. (standard-by-vectors d).1 ((minimal g i).1 d p q)));
    every = λ m s. ⊎_elim (λ i. absurd (s ((found-iff m).0 i))) (λ r. (ordered_line field (monomials n) B r.0, of-written field (monomials n) B H r.0 r.1, r.2)) (v.cover m tt);
    tails = each (λ h. All Std h.1) (λ g i. ordered-all field (coef R (monomials n) g.1) B (λ b j _. (found-iff b).0 j));
    remainders = each (λ h. Remainder R (monomials n) lt G (polynomial R h) []) remainder-zero;
  }
    where
      each : (P : Line F (Row n) → Type 0) → ((g : Line F (Row n)) → g ∈ H → P (ordered_line field (monomials n) B g)) → (h : Line F (Row n)) → h ∈ H' → P h
      each P = each-written field (monomials n) B P H

  -- A line has at most one term more than there are standard monomials.
  pub outcome-terms : (h : Line F (Row n)) → h ∈ H' → length (polynomial R h) ≤ 1 + length B
  unfolding polynomial
  outcome-terms = each-written field (monomials n) B (λ h. length (polynomial R h) ≤ 1 + length B) H (λ g i. omega (arith, ordered-length field (coef R (monomials n) g.1) B))
