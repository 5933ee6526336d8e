-- The division of what an array holds, one monomial a turn from the greatest down: the normal form is kept.
--   clears-length                         a turn leaves the array's length the same
--   KeepsNormalForm b sound w w'          what w' holds has the normal form of what w holds
--   Swept b w₀ w m at                     down to m, which stands at the place `at`: at m and above it the array is zero, and the normal form is kept
--   swept-start                           before the first turn
--   swept-low, swept-place                the monomial of the next turn,
--   swept-inside                          whose place is inside the array
--   swept-turn                            a turn that clears it
--   swept-true                            after the last turn
--   swept-false                           a turn that does not clear it
use mathlib.Core.Path.{◌≡◌, refl, sym, ◌∙◌, ap, ap₂}
use mathlib.Core.Bool.{Bool, true, false, false≢true}
use mathlib.Core.List.{List, [], ◌++◌}
use Prim.Native.Nat.{ℕ, suc, ◌-◌, ◌≤◌, ◌<◌}
use native.Mathlib.Nat.{mod-lt}
use native.Mathlib.Decide.{ℕ_discrete}
use native.Mathlib.Omega.{arith}
use lib.ListN.{length, get_or}
use Rattle.residue.specs.Modular.{sum_mod, negation_mod}
use Rattle.residue.specs.Field.{ZMod, modulo}
use Rattle.residue.proofs.ResidueField.{residue-ring}
use Rattle.residue.proofs.Residues.{residue-same, residue-below}
use Rattle.residue.proofs.ModularLaws.{sum-zero, negation-sum}
use Rattle.monomial.specs.Rows.{Row, degree}
use Rattle.monomial.specs.Quotients.{quotient}
use Rattle.monomial.specs.Ordering.{monomials, Grevlex}
use Rattle.monomial.proofs.GrevlexOrder.{grevlex-order}
use Rattle.groebner.specs.Polynomials.{Poly, Polynomial, coef, Same}
use Rattle.groebner.specs.Criteria.{Low}
use Rattle.groebner.specs.Remainders.{Remainder}
use Rattle.groebner.proofs.Terms.{coef-nil}
use Rattle.groebner.proofs.Ground.{PolynomialRing}
use Rattle.groebner.proofs.Division.{remainder-NF}
use Rattle.groebner.proofs.NormalForms.{NF}
use Rattle.groebner.proofs.GroebnerBases.{zero-remainder}
use Rattle.lines.specs.declared.StoredBasis.{StoredBasis}
use Rattle.staircase.specs.StoredLines.{stored_lines}
use Rattle.staircase.specs.Sound.{Sound}
use Rattle.division.specs.GrevlexPlace.{place, most_degree, space}
use Rattle.division.specs.CoefficientArray.{HoldsPolynomial, HoldsZero, ZeroAbove, Work}
use Rattle.division.specs.Clearing.{lead_at, line_at, multiple_of, line_multiple, Dividend, Sweeps}
use Rattle.division.proofs.GrevlexPlaces.{place-grevlex, place-monotone, place-degree}
use Rattle.division.proofs.AddedTerms.{work-place, adds-work, adds-holds}
use Rattle.division.proofs.MultipleCoefficients.{raised, multiple-top, multiple-above}
use Rattle.division.proofs.ClearedMonomials.{Clears, idle, subtracted, stuck}
use Rattle.division.proofs.KeptNormalForms.{NF-added, NF-top, NF-zero}
use Rattle.division.proofs.BasisSystem.{ring_of, lines-low, system_of, earliest-line, irreducible-at}

pub clears-length : {b : StoredBasis} {m : Row b.n} {w w' : List ℕ} {r : Bool} → Clears b m w w' r → length w' ≡ length w
clears-length (idle e q) = ap length q
clears-length (subtracted j f a) = a.length
clears-length (stuck e f q) = ap length q

-- Where the array is zero, so is the coefficient.
coefficient-zero : (p : ℕ) (h : 1 < p) (n : ℕ) (w : List ℕ) (f : Poly (ZMod p) (Row n)) (a : Row n)
    → HoldsPolynomial p h n w f → get_or w (place n a) 0 ≡ 0 → coef (modulo p h) (monomials n) f a ≡ (modulo p h).zero
unfolding modulo
coefficient-zero p h n w f a o e = residue-same (sym (o a) ∙ e)

module _ (b : StoredBasis) (sound : Sound b) where
  -- The normal form of what an array holds.
  abbrev normal : (h : 1 < b.p) → Poly (ZMod b.p) (Row b.n) → Poly (ZMod b.p) (Row b.n)
  normal h = NF (system_of b sound h)

  -- What w' holds has the normal form of what w holds.
  abbrev pub KeepsNormalForm : List ℕ → List ℕ → Type 0
  KeepsNormalForm w w' = (h : 1 < b.p) (s : Poly (ZMod b.p) (Row b.n)) → HoldsPolynomial b.p h b.n w s
      → (f : Poly (ZMod b.p) (Row b.n)) × HoldsPolynomial b.p h b.n w' f × Same (modulo b.p h) (monomials b.n) (normal h f) (normal h s)

  -- One monomial m, above which the array is zero.
  module _ (w w' : List ℕ) (m : Row b.n) (k : Work b.p b.n w) (z : ZeroAbove b.n (suc (place b.n m)) w) where
    clears-work : {r : Bool} → Clears b m w w' r → Work b.p b.n w'
    clears-work (idle e q) = rw q k
    clears-work (subtracted j f a) = adds-work b.p b.n k a
    clears-work (stuck e f q) = rw q k

    clears-kept : {r : Bool} → Clears b m w w' r → KeepsNormalForm w w'
    unfolding multiple_of
    clears-kept (idle e q) h s o = (s, rw q o, λ x. refl)
    clears-kept (stuck e f q) h s o = (s, rw q o, λ x. refl)
    clears-kept (subtracted j f a) h s o = (
      s ++ line_multiple b j _ m h,
      adds-holds b.p b.n a h s o,
      NF-added (ring_of b sound h) (grevlex-order b.n) (stored_lines b h) (lines-low b sound h) s _ m (line_at b h j) (quotient b.n m (lead_at b j))
          (earliest-line b h m j f) (raised b j m f.here h),
    )

    -- The coefficient of m itself.
    at-m : Clears b m w w' true → get_or w' (place b.n m) 0 ≡ 0
    unfolding negation_mod
    at-m (idle e q) = rw q e
    at-m (subtracted j f s) = let h = k.modulus.prime.above_one in
        s.sums h m ∙ ap (λ x. sum_mod b.p (get_or w (place b.n m) 0) x.0) (multiple-top b sound j f.within m f.here h _)
        ∙ ap (sum_mod b.p (get_or w (place b.n m) 0)) (residue-below b.p h _ (mod-lt _ (omega arith))) ∙ negation-sum b.p _ (k.residues m)

    -- Those above it.
    above-m : Clears b m w w' true → (a : Row b.n) → place b.n m < place b.n a → get_or w' (place b.n a) 0 ≡ 0
    unfolding modulo
    above-m (idle e q) a l = rw q (z a l)
    above-m (subtracted j f s) a l = let h = k.modulus.prime.above_one in
        s.sums h a ∙ ap₂ (λ x y. sum_mod b.p x y.0) (z a l) (multiple-above b sound j f.within m f.here h _ a (place-grevlex b.n m a l))
        ∙ sum-zero b.p 0 (omega arith)

    clears-zero : Clears b m w w' true → ZeroAbove b.n (place b.n m) w'
    clears-zero c a l = go (ℕ_discrete (place b.n a) (place b.n m))
      where
        go : Dec (place b.n a ≡ place b.n m) → get_or w' (place b.n a) 0 ≡ 0
        go (yes e) = rw e (at-m c)
        go (no d) = above-m c a (omega arith)

  keeps-trans : (w w' w'' : List ℕ) → KeepsNormalForm w w' → KeepsNormalForm w' w'' → KeepsNormalForm w w''
  keeps-trans w w' w'' p q h s o =
      let (f, e, i) = p h s o in
      let (g, e', j) = q h f e in
      (g, e', λ x. j x ∙ i x)

pub record Swept (b : StoredBasis) (w₀ w : List ℕ) (m : Row b.n) (at : ℕ) : Type 0 where
  pub sound : Sound b
  pub work : Work b.p b.n w
  pub the_place : at ≡ place b.n m
  pub low : degree b.n m ≤ most_degree
  pub above : ZeroAbove b.n at w
  pub kept : KeepsNormalForm b sound w₀ w

pub swept-start : {b : StoredBasis} {w : List ℕ} {m : Row b.n} {at : ℕ} → Dividend b w m → at ≡ place b.n m → Swept b w w m at
swept-start d e = record {
  sound = d.sound;
  work = d.work;
  the_place = e;
  low = d.low;
  above = λ a i. d.above a (omega arith);
  kept = λ h s e. (s, e, λ x. refl);
}

module _ {b : StoredBasis} {w₀ w : List ℕ} {m : Row b.n} {at : ℕ} (s : Swept b w₀ w m at) where
  -- The lines as a rewriting system.
  abbrev 𝓟 : (h : 1 < b.p) → PolynomialRing (modulo b.p h) (monomials b.n)
  𝓟 = ring_of b s.sound

  abbrev lower : (h : 1 < b.p) → Low (Grevlex b.n) (stored_lines b h)
  lower h = lines-low b s.sound h

  -- The monomial of the next turn.
  module _ (m' : Row b.n) (e : suc (place b.n m') ≡ place b.n m) where
    pub swept-low : degree b.n m' ≤ most_degree
    swept-low = omega (arith, s.low, place-degree b.n m' m (omega arith))

    pub swept-place : at - 1 ≡ place b.n m'
    swept-place = omega (arith, s.the_place)

    pub swept-inside : (at - 1 < space) × (at - 1 < length w)
    swept-inside = let (k, l) = work-place b.p b.n m' s.work swept-low in (omega (arith, swept-place), omega (arith, swept-place))

    rest : ZeroAbove b.n (suc (place b.n m')) w
    rest a l = s.above a (omega (arith, s.the_place))

    pub swept-turn : {w' : List ℕ} → Clears b m' w w' true → Swept b w₀ w' m' (at - 1)
    swept-turn {w'} c = record {
      sound = s.sound;
      work = clears-work b s.sound w w' m' s.work rest c;
      the_place = swept-place;
      low = swept-low;
      above = λ a l. clears-zero b s.sound w w' m' s.work rest c a (omega (arith, swept-place));
      kept = keeps-trans b s.sound w₀ w w' s.kept (clears-kept b s.sound w w' m' s.work rest c);
    }

    -- No line divides m', and its coefficient is not zero: nor is that of the normal form.
    not-zero : {w' : List ℕ} → Clears b m' w w' false → (h : 1 < b.p) (r : Poly (ZMod b.p) (Row b.n)) → HoldsPolynomial b.p h b.n w₀ r
        → ¬ Remainder (modulo b.p h) (monomials b.n) (Grevlex b.n) (stored_lines b h) r []
    unfolding modulo
    not-zero (stuck n f q) h r o t =
        let (g, i, same) = s.kept h r o in
        let top = NF-top (𝓟 h) (grevlex-order b.n) (stored_lines b h) (lower h) g m' (irreducible-at b h m' f)
        (λ k l. coefficient-zero b.p h b.n w g k i (rest k (place-monotone b.n m' k l))) in
        n (i m' ∙ ap (λ x. x.0) (sym top ∙ same m' ∙ sym (remainder-NF (𝓟 h) (grevlex-order b.n) (stored_lines b h) (lower h) t m')
        ∙ coef-nil (residue-ring b.p h) (monomials b.n) m'))

    pub swept-false : {w' : List ℕ} → Clears b m' w w' false → Sweeps b w₀ w' false
    swept-false {w'} c = record {
      work = clears-work b s.sound w w' m' s.work rest c;
      cleared = λ q. absurd (false≢true q);
      verdict = λ h r proper o. (λ q. absurd (false≢true q), λ t. absurd (not-zero c h r o t));
    }

  pub swept-true : at ≤ 0 → Sweeps b w₀ w true
  swept-true l = record { work = s.work; cleared = λ _. everywhere; verdict = λ h r proper o. (λ _. remainder h r proper o, λ _. refl) }
    where
      everywhere : HoldsZero b.n w
      everywhere a = s.above a (omega arith)

      remainder : (h : 1 < b.p) (r : Poly (ZMod b.p) (Row b.n)) → Polynomial (modulo b.p h) r → HoldsPolynomial b.p h b.n w₀ r
          → Remainder (modulo b.p h) (monomials b.n) (Grevlex b.n) (stored_lines b h) r []
      remainder h r proper o =
          let (g, i, same) = s.kept h r o in
          let zero = NF-zero (𝓟 h) (grevlex-order b.n) (stored_lines b h) (lower h) g (λ k. coefficient-zero b.p h b.n w g k i (everywhere k)) in
          zero-remainder (𝓟 h) (grevlex-order b.n) (stored_lines b h) (lower h) r proper (λ x. sym (same x) ∙ zero x)
