-- Polynomials that are added to an array of coefficients.
--   work-place      there is room for each monomial of at most the largest degree
--   work-held       what a division asks of the array has what an addition asks of it
--   adds_none       nothing is added
--   adds-append     one polynomial after another
--   adds_same       what is added is known by its coefficients
--   adds-held       the entries stay residues
--   adds-work       so they do
--   adds-holds      what the array holds then
--   adds-store      a term is added by one store
use mathlib.Core.Path.{◌≡◌, refl, sym, ◌∙◌, ap, ap₂}
use mathlib.Core.List.{List, [], ◌∷◌, ◌++◌}
use Prim.Native.Nat.{ℕ, ◌≤◌, ◌<◌}
use native.Mathlib.Nat.{mod-lt}
use native.Mathlib.Omega.{arith}
use lib.ListN.{length, get_or, set, length-set}
use lib.Seq.{get_or-set_same, get_or-set_other}
use Rattle.residue.specs.Modular.{sum_mod}
use Rattle.residue.specs.Field.{ZMod, modulo, residue}
use Rattle.residue.proofs.ResidueField.{residue-ring}
use Rattle.residue.proofs.Residues.{residue-below}
use Rattle.residue.proofs.ModularLaws.{sum-zero, sum-assoc}
use Rattle.monomial.specs.Rows.{Row, degree}
use Rattle.monomial.specs.Ordering.{monomials, row?}
use Rattle.groebner.specs.Polynomials.{Poly, coef, Same}
use Rattle.groebner.proofs.Terms.{coef-nil, coef-here, coef-there, coef-append}
use Rattle.division.specs.GrevlexPlace.{place, most_degree, space}
use Rattle.division.specs.CoefficientArray.{HoldsPolynomial, Residues, Held, Work, AddsPolynomial}
use Rattle.division.proofs.PlaceSums.{place-fits}
use Rattle.division.proofs.GrevlexPlaces.{place-injective}

pub work-place : (p n : ℕ) {w : List ℕ} (m : Row n) → Work p n w → degree n m ≤ most_degree → (place n m < space) × (place n m < length w)
work-place p n m k l = let h = place-fits n m k.variables.most l in (h, omega (arith, h, k.room))

pub work-held : {p n : ℕ} {w : List ℕ} → Work p n w → Held p n w
work-held k = record { modulus = k.modulus; room = k.room; residues = k.residues }

module _ (p n : ℕ) where
  pub adds_none : (w : List ℕ) → Residues p n w → AddsPolynomial p n w w (λ h. [])
  unfolding modulo
  adds_none w r = record {
    length = refl;
    sums = λ h a. sym (ap (λ x. sum_mod p (get_or w (place n a) 0) x.0) (coef-nil (residue-ring p h) (monomials n) a) ∙ sum-zero p _ (r a));
  }

  pub adds-append : {w w' w'' : List ℕ} {f g : 1 < p → Poly (ZMod p) (Row n)} → AddsPolynomial p n w w' f → AddsPolynomial p n w' w'' g
      → AddsPolynomial p n w w'' (λ h. f h ++ g h)
  unfolding modulo
  adds-append {w} {w'} {w''} {f} {g} a b = record {
    length = b.length ∙ a.length;
    sums = λ h m. b.sums h m ∙ ap₂ (sum_mod p) (a.sums h m) refl ∙ sum-assoc p _ _ _
        ∙ ap (λ x. sum_mod p (get_or w (place n m) 0) x.0) (sym (coef-append (residue-ring p h) (monomials n) (f h) (g h) m));
  }

  pub adds_same : {w w' : List ℕ} {f g : 1 < p → Poly (ZMod p) (Row n)} → ((h : 1 < p) → Same (modulo p h) (monomials n) (f h) (g h))
      → AddsPolynomial p n w w' f → AddsPolynomial p n w w' g
  adds_same {w} e a = record { length = a.length; sums = λ h m. a.sums h m ∙ ap (λ x. sum_mod p (get_or w (place n m) 0) x.0) (e h m) }

  pub adds-held : {w w' : List ℕ} {g : 1 < p → Poly (ZMod p) (Row n)} → Held p n w → AddsPolynomial p n w w' g → Held p n w'
  unfolding sum_mod
  adds-held {w} {w'} k a = record {
    modulus = k.modulus;
    room = omega (arith, a.length, k.room);
    residues = λ m. rw (a.sums k.modulus.prime.above_one m) (mod-lt _ (omega (arith, k.modulus.prime.above_one)));
  }

  pub adds-work : {w w' : List ℕ} {g : 1 < p → Poly (ZMod p) (Row n)} → Work p n w → AddsPolynomial p n w w' g → Work p n w'
  adds-work k a = let h = adds-held (work-held k) a in record { modulus = h.modulus; variables = k.variables; room = h.room; residues = h.residues }

  pub adds-holds : {w w' : List ℕ} {g : 1 < p → Poly (ZMod p) (Row n)} → AddsPolynomial p n w w' g
      → (h : 1 < p) (f : Poly (ZMod p) (Row n)) → HoldsPolynomial p h n w f → HoldsPolynomial p h n w' (f ++ g h)
  unfolding modulo
  adds-holds {g = g} a h f e m = a.sums h m ∙ ap₂ (sum_mod p) (e m) refl ∙ ap (λ x. x.0) (sym (coef-append (residue-ring p h) (monomials n) f (g h) m))

  -- The coefficients of a single term.
  single-here : (h : 1 < p) (c : ℕ) (m : Row n) → c < p → (coef (modulo p h) (monomials n) ((residue p h c, m) ∷ []) m).0 ≡ c
  unfolding modulo
  single-here h c m l =
      let nil = ap ((modulo p h).add (residue p h c)) (coef-nil (residue-ring p h) (monomials n) m) in
      ap (λ x. x.0) (coef-here (residue-ring p h) (monomials n) (residue p h c) m [] ∙ nil) ∙ sum-zero p _ (residue p h c).1 ∙ residue-below p h c l

  single-there : (h : 1 < p) (x : ZMod p) (m a : Row n) → ¬ (a ≡ m) → (coef (modulo p h) (monomials n) ((x, m) ∷ []) a).0 ≡ 0
  unfolding modulo
  single-there h x m a d = ap (λ y. y.0) (coef-there (residue-ring p h) (monomials n) (x, m) [] a d ∙ coef-nil (residue-ring p h) (monomials n) a)

  module _ (w : List ℕ) (m : Row n) (c v : ℕ) (r : Residues p n w) (l : place n m < length w) (b : c < p)
      (e : v ≡ sum_mod p (get_or w (place n m) 0) c) where
    store-sums : (h : 1 < p) (a : Row n) → Dec (a ≡ m)
        → get_or (set w (place n m) v) (place n a) 0 ≡ sum_mod p (get_or w (place n a) 0) (coef (modulo p h) (monomials n) ((residue p h c, m) ∷ []) a).0
    store-sums h a (yes q) = rw q (get_or-set_same w (place n m) v 0 l ∙ e ∙ ap (sum_mod p (get_or w (place n m) 0)) (sym (single-here h c m b)))
    store-sums h a (no q) = get_or-set_other w (place n m) (place n a) v 0 (λ z. q (place-injective n a m z)) ∙ sym (sum-zero p _ (r a))
        ∙ ap (sum_mod p (get_or w (place n a) 0)) (sym (single-there h (residue p h c) m a q))

    pub adds-store : AddsPolynomial p n w (set w (place n m) v) (λ h. (residue p h c, m) ∷ [])
    unfolding row?
    adds-store = record { length = length-set w (place n m) v; sums = λ h a. store-sums h a (row? n a m) }
