-- The division of the S-polynomial of two lines of a basis, on an array of coefficients.
--   divides-left, divides-right   the leading monomials divide their least common multiple
--   pair-loaded                   u·f - v·g, from its two parts
--   pair-zero-from                at the least common multiple and above it there is nothing
--   pair_of                       the pair, as it is loaded
--   pair-dividend                 and as it is divided
--   pair-says                     the answer of the division
use mathlib.Core.Path.{◌≡◌, refl, sym, ◌∙◌, ap, ap₂, subst, subst₂}
use mathlib.Core.Bool.{Bool, true, false, not, false≢true, not-not}
use mathlib.Core.List.{List, [], ◌++◌}
use mathlib.Core.Logic.{◌↔◌}
use Prim.Native.Nat.{ℕ, ◌<◌}
use native.Mathlib.Decide.{ℕ_discrete}
use native.Mathlib.Omega.{arith}
use lib.ListN.{length}
use Rattle.residue.specs.Modular.{sum_mod, negation_mod}
use Rattle.residue.specs.Field.{Arithmetic, ZMod, modulo, residue}
use Rattle.residue.proofs.ResidueField.{residue-ring}
use Rattle.residue.proofs.Residues.{residue-one, residue-negation}
use Rattle.residue.proofs.ModularLaws.{sum-zero}
use Rattle.monomial.specs.Rows.{Row}
use Rattle.monomial.specs.Quotients.{quotient, divides}
use Rattle.monomial.specs.Ordering.{Monomials, Lcm, monomials, Grevlex}
use Rattle.monomial.proofs.Products.{divides-iff, lcm-least}
use Rattle.monomial.proofs.GrevlexOrder.{grevlex-order}
use Rattle.groebner.specs.Polynomials.{Poly, scale, negate, minus, shift, coef, Same}
use Rattle.groebner.specs.Lines.{Line, polynomial}
use Rattle.groebner.specs.Criteria.{Low}
use Rattle.groebner.specs.Remainders.{Remainder}
use Rattle.groebner.specs.Bases.{SPolynomial}
use Rattle.groebner.proofs.Terms.{coef-nil, coef-append, coef-scale, equal-nil, clean, clean-proper, clean-same}
use Rattle.groebner.proofs.Ground.{PolynomialRing, divides-antisym, cancel_right}
use Rattle.groebner.proofs.Division.{remainder, remainder-unique}
use Rattle.groebner.proofs.NormalForms.{NF}
use Rattle.groebner.proofs.Buchberger.{zero-iff-NF}
use Rattle.lines.specs.declared.StoredBasis.{StoredBasis}
use Rattle.staircase.specs.StoredLines.{stored_lines}
use Rattle.staircase.specs.Sound.{Sound}
use Rattle.division.specs.GrevlexPlace.{place}
use Rattle.division.specs.CoefficientArray.{HoldsPolynomial, HoldsZero, ZeroAbove, AddsPolynomial}
use Rattle.division.specs.Clearing.{lead_at, line_at, multiple_of, line_multiple, Dividend, Sweeps}
use Rattle.division.specs.PairRemainders.{leads_lcm, PairableOn, PairOf, pair_difference, PairFails, PairSays}
use Rattle.division.proofs.GrevlexPlaces.{place-injective, place-grevlex}
use Rattle.division.proofs.AddedTerms.{adds-append, adds-work, adds-holds}
use Rattle.division.proofs.BasisSystem.{ring_of, lines-low, system_of, line-lead-at}
use Rattle.division.proofs.MultipleCoefficients.{raised, multiple-top, multiple-above}

module _ (b : StoredBasis) (i j : ℕ) where
  pub divides-left : divides b.n (lead_at b i) (leads_lcm b i j) ≡ true
  divides-left = (divides-iff b.n (lead_at b i) (leads_lcm b i j)).1 (lcm-least b.n (lead_at b i) (lead_at b j)).left

  pub divides-right : divides b.n (lead_at b j) (leads_lcm b i j) ≡ true
  divides-right = (divides-iff b.n (lead_at b j) (leads_lcm b i j)).1 (lcm-least b.n (lead_at b i) (lead_at b j)).right

  pub pair-loaded : {w w' w'' : List ℕ} (m : Row b.n) (c : ℕ) → m ≡ leads_lcm b i j → c ≡ negation_mod b.p 1
      → AddsPolynomial b.p b.n w w' (line_multiple b i 1 m) → AddsPolynomial b.p b.n w' w'' (line_multiple b j c m)
      → AddsPolynomial b.p b.n w w'' (pair_difference b i j)
  unfolding pair_difference
  pair-loaded {w} {w'} {w''} m c e q x y = adds-append b.p b.n (subst (λ t. AddsPolynomial b.p b.n w w' (line_multiple b i 1 t)) e x)
      (subst₂ (λ t d. AddsPolynomial b.p b.n w' w'' (line_multiple b j d t)) e q y)

-- The coefficients 1 and -1.
module _ (p : ℕ) (h : 1 < p) where
  abbrev F : Arithmetic (ZMod p)
  F = modulo p h

  residue-minus-one : residue p h (negation_mod p 1) ≡ F.neg F.one
  residue-minus-one = residue-negation p h 1 h ∙ ap F.neg (residue-one p h)

  units : (n : ℕ) (f g : Poly (ZMod p) (Row n)) → Same F (monomials n) (scale F (residue p h 1) f ++ scale F (residue p h (negation_mod p 1)) g) (minus F f g)
  unfolding negate
  units n f g k =
      let laws = residue-ring p h in
      coef-append laws (monomials n) (scale F (residue p h 1) f) (scale F (residue p h (negation_mod p 1)) g) k
      ∙ ap₂ F.add
      (coef-scale laws (monomials n) (residue p h 1) f k ∙ ap (λ x. F.mul x (coef F (monomials n) f k)) (residue-one p h)
      ∙ laws.mul_comm F.one (coef F (monomials n) f k) ∙ laws.mul_one (coef F (monomials n) f k))
      (ap (λ x. coef F (monomials n) (scale F x g) k) residue-minus-one)
      ∙ sym (coef-append laws (monomials n) f (scale F (F.neg F.one) g) k)

module _ (b : StoredBasis) (sound : Sound b) (i j : ℕ) (li : i < length b.lines.items) (lj : j < length b.lines.items) where
  -- The least common multiple, and its quotients by the leading monomials.
  abbrev m : Row b.n
  m = leads_lcm b i j

  u : Row b.n
  u = quotient b.n m (lead_at b i)

  v : Row b.n
  v = quotient b.n m (lead_at b j)

  abbrev 𝓜 : Monomials (Row b.n)
  𝓜 = monomials b.n

  module _ (h : 1 < b.p) where
    abbrev R : Arithmetic (ZMod b.p)
    R = modulo b.p h

    -- The lines f and g, and all lines.
    abbrev f : Line (ZMod b.p) (Row b.n)
    f = line_at b h i

    abbrev g : Line (ZMod b.p) (Row b.n)
    g = line_at b h j

    abbrev G : List (Line (ZMod b.p) (Row b.n))
    G = stored_lines b h

    abbrev 𝓟 : PolynomialRing R 𝓜
    𝓟 = ring_of b sound h

    abbrev low : Low (Grevlex b.n) G
    low = lines-low b sound h

    -- At the least common multiple and above it.
    difference-top : coef R 𝓜 (pair_difference b i j h) m ≡ R.zero
    unfolding pair_difference
    difference-top = coef-append (residue-ring b.p h) 𝓜 _ _ _
        ∙ ap₂ R.add (multiple-top b sound i li m (divides-left b i j) h 1 ∙ residue-one b.p h)
        (multiple-top b sound j lj m (divides-right b i j) h (negation_mod b.p 1) ∙ residue-minus-one b.p h)
        ∙ (residue-ring b.p h).add_neg _

    difference-above : (a : Row b.n) → Grevlex b.n m a → coef R 𝓜 (pair_difference b i j h) a ≡ R.zero
    unfolding pair_difference
    difference-above a l = coef-append (residue-ring b.p h) 𝓜 _ _ a
        ∙ ap₂ R.add (multiple-above b sound i li m (divides-left b i j) h 1 a l)
        (multiple-above b sound j lj m (divides-right b i j) h (negation_mod b.p 1) a l)
        ∙ (residue-ring b.p h).add_zero _

    -- The S-polynomial.
    raw : Poly (ZMod b.p) (Row b.n)
    raw = minus R (shift 𝓜 u (polynomial R f)) (shift 𝓜 v (polynomial R g))

    difference-raw : Same R 𝓜 (pair_difference b i j h) raw
    unfolding pair_difference multiple_of raw u v
    difference-raw = units b.p h b.n (shift 𝓜 u (polynomial R f)) (shift 𝓜 v (polynomial R g))

    s₀ : Poly (ZMod b.p) (Row b.n)
    s₀ = clean (residue-ring b.p h) 𝓜 𝓟.field.decide raw

    common : Lcm 𝓜 f.0 g.0 m
    common = subst₂ (λ x y. Lcm 𝓜 x y m) (sym (line-lead-at b h i)) (sym (line-lead-at b h j)) (lcm-least b.n (lead_at b i) (lead_at b j))

    pair₀ : SPolynomial R 𝓜 f g s₀
    unfolding s₀ raw u v
    pair₀ = record {
      m = m;
      lcm = common;
      u = u;
      left = raised b i m (divides-left b i j) h;
      v = v;
      right = raised b j m (divides-right b i j) h;
      proper = clean-proper (residue-ring b.p h) 𝓜 𝓟.field.decide raw;
      outcome = clean-same (residue-ring b.p h) 𝓜 𝓟.field.decide raw;
    }

    -- Any S-polynomial of the two lines has its cofactors.
    module _ {s : Poly (ZMod b.p) (Row b.n)} (w : SPolynomial R 𝓜 f g s) where
      same-lcm : w.m ≡ m
      same-lcm = divides-antisym (grevlex-order b.n) w.m m (w.lcm.least m common.left common.right) (common.least w.m w.lcm.left w.lcm.right)

      same-u : w.u ≡ u
      unfolding u
      same-u = cancel_right 𝓟.monoid (grevlex-order b.n) w.u u f.0 (sym w.left ∙ same-lcm ∙ raised b i m (divides-left b i j) h)

      same-v : w.v ≡ v
      unfolding v
      same-v = cancel_right 𝓟.monoid (grevlex-order b.n) w.v v g.0 (sym w.right ∙ same-lcm ∙ raised b j m (divides-right b i j) h)

      -- If the remainder of the one above is zero, so is its own.
      zero_of : Remainder R 𝓜 (Grevlex b.n) G s₀ [] → Remainder R 𝓜 (Grevlex b.n) G s []
      unfolding pair₀
      zero_of t = (zero-iff-NF 𝓟 (grevlex-order b.n) G low f g s w).1
          (subst₂ (λ x y. (k : Row b.n) → coef R 𝓜 (NF (system_of b sound h) (minus R (shift 𝓜 x (polynomial R f)) (shift 𝓜 y (polynomial R g)))) k ≡ R.zero)
          (sym same-u) (sym same-v) ((zero-iff-NF 𝓟 (grevlex-order b.n) G low f g s₀ pair₀).0 t))

    fails_of : (zero : Bool) → (zero ≡ true) ↔ Remainder R 𝓜 (Grevlex b.n) G s₀ [] → (not zero ≡ true) ↔ PairFails b h i j
    fails_of true e = (λ q. absurd (false≢true q), λ x. absurd (x.nonzero (nothing x)))
      where
        nothing : (x : PairFails b h i j) → x.r ≡ []
        nothing x = equal-nil x.r (remainder-unique 𝓟 (grevlex-order b.n) G low x.s x.r [] x.pair.proper x.remainder (zero_of x.pair (e.0 refl)))
    fails_of false e = (λ _. something, λ _. refl)
      where
        something : PairFails b h i j
        something =
            let (r, t) = remainder 𝓟 (grevlex-order b.n) G low s₀ pair₀.proper in
            record { s = s₀; pair = pair₀; r = r; remainder = t; nonzero = λ q. false≢true (e.1 (subst (Remainder R 𝓜 (Grevlex b.n) G s₀) q t)) }

  -- It is loaded into an array that holds zero.
  module _ (w w' : List ℕ) (z : HoldsZero b.n w) (a : AddsPolynomial b.p b.n w w' (pair_difference b i j)) where
    pub pair-zero-from : ZeroAbove b.n (place b.n m) w'
    unfolding modulo
    pair-zero-from x l = a.sums h x ∙ ap₂ (λ y z. sum_mod b.p y z.0) (z x) (go (ℕ_discrete (place b.n x) (place b.n m))) ∙ sum-zero b.p 0 (omega arith)
      where
        h : 1 < b.p
        h = sound.modulus.prime.above_one

        go : Dec (place b.n x ≡ place b.n m) → coef (modulo b.p h) 𝓜 (pair_difference b i j h) x ≡ (modulo b.p h).zero
        go (yes e) = rw (place-injective b.n x m e) (difference-top h)
        go (no d) = difference-above h x (place-grevlex b.n m x (omega arith))

    holds-difference : (h : 1 < b.p) → HoldsPolynomial b.p h b.n w' (pair_difference b i j h)
    unfolding modulo
    holds-difference h = adds-holds b.p b.n a h [] (λ x. z x ∙ sym (ap (λ y. y.0) (coef-nil (residue-ring b.p h) 𝓜 x)))

    -- The answer of the division.
    pub pair-says : {w'' : List ℕ} (zero : Bool) → Sweeps b w' w'' zero → PairSays b i j w'' (not zero)
    unfolding s₀
    pair-says zero s = record {
      verdict = λ h. fails_of h zero (s.verdict h (s₀ h) (pair₀ h).proper (holds h));
      work = s.work;
      zero = λ q. s.cleared (sym (not-not zero) ∙ ap not q);
    }
      where
        holds : (h : 1 < b.p) → HoldsPolynomial b.p h b.n w' (s₀ h)
        holds h x = holds-difference h x ∙ ap (λ y. y.0) (difference-raw h x ∙ sym (clean-same (residue-ring b.p h) 𝓜 (ring_of b sound h).field.decide (raw h) x))

-- The pair, as it is loaded and divided.
module _ {b : StoredBasis} {w : List ℕ} {i j : ℕ} {m : Row b.n} where
  pub pair_of : PairableOn b w → i < length b.lines.items → j < length b.lines.items → m ≡ leads_lcm b i j → PairOf b w i j m
  pair_of q li lj e = record { sound = q.pairs.sound; work = q.work; left = li; right = lj; common = e; low = rw e (q.pairs.low i j li lj) }

  pub pair-dividend : {w' : List ℕ} → PairOf b w i j m → HoldsZero b.n w → AddsPolynomial b.p b.n w w' (pair_difference b i j) → Dividend b w' m
  pair-dividend {w'} q z a = record {
    sound = q.sound;
    work = adds-work b.p b.n q.work a;
    low = q.low;
    above = rw q.common (pair-zero-from b q.sound i j q.left q.right w w' z a);
  }
