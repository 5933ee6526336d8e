-- A basis that passed checks 2 to 11 holds lines of polynomials, greatest term first.
--   falling-of-steps    terms each smaller than the one before it fall
--   proper-of-falling   falling terms without coefficient 0 are a polynomial
--   tail-nonzero        coefficients from 1 to p - 1 make none that is zero
--   sound-lines         the lines of a sound basis are lines with grevlex
use mathlib.Core.Path.{◌≡◌, refl, sym, ◌∙◌, ap, subst, subst₂}
use mathlib.Core.List.Memᴰ
use mathlib.Core.List.{List, [], ◌∷◌, map}
use Prim.Native.Nat.{ℕ, suc, ◌<◌}
use native.Mathlib.Nat.{mod-eq_of_lt}
use native.Mathlib.Omega.{arith}
use lib.ListN.{length, get_or, length-map}
use Rattle.lists.specs.Lists.{◌∈◌}
use Rattle.lists.proofs.Elements.{place_of}
use Rattle.residue.specs.Field.{Arithmetic, ZMod, modulo, residue}
use Rattle.monomial.specs.Rows.{Row, one}
use Rattle.monomial.specs.Represented.{row}
use Rattle.monomial.specs.Ordering.{Monomials, Grevlex}
use Rattle.monomial.proofs.OrderLaws.{MonomialOrder}
use Rattle.monomial.proofs.AnyOrder.{irreflexive}
use Rattle.monomial.proofs.GrevlexOrder.{grevlex-order}
use Rattle.groebner.specs.Polynomials.{Poly, all_nil, all_cons, Polynomial}
use Rattle.groebner.specs.Lines.{Line, polynomial, Falling, Lines}
use Rattle.groebner.proofs.Lists.{of_map}
use Rattle.groebner.proofs.Linear.{all_map}
use Rattle.lines.specs.Terms.{Term}
use Rattle.lines.specs.LineTerms.{term_of, terms_in, no_term, coefficient_at, monomial_at}
use Rattle.lines.specs.declared.line.LineTerm.{LineTerm}
use Rattle.lines.specs.declared.StoredBasis.{StoredBasis}
use Rattle.staircase.specs.TermLines.{line_of}
use Rattle.staircase.specs.StoredLines.{stored_lines}
use Rattle.staircase.specs.Sound.{generator_at, SoundLine, Sound}
use Rattle.staircase.proofs.LineElements.{stored-lines-length, line-at, rows-in-length, row-in-at, line-monomials}

module _ {F M : Type 0} {𝓜 : Monomials M} {lt : M → M → Type 0} (ord : MonomialOrder 𝓜 lt) where
  pub falling-of-steps : (d : M) (f : Poly F M) → ((k : ℕ) → suc k < length f → lt (get_or (map (λ t. t.1) f) (suc k) d) (get_or (map (λ t. t.1) f) k d)) → Falling lt f
  falling-of-steps d [] h = tt
  falling-of-steps d (t ∷ []) h = (all_nil, tt)
  falling-of-steps d (t ∷ u ∷ f) h =
      let step = h 0 (omega arith) in
      let rest = falling-of-steps d (u ∷ f) (λ k l. h (suc k) (omega arith)) in
      (all_cons step (all_map (λ m l. ord.trans l step) rest.0), rest)

  pub proper-of-falling : (R : Arithmetic F) (f : Poly F M) → Falling lt f → ((t : F × M) → t ∈ f → ¬ (t.0 ≡ R.zero)) → Polynomial R f
  proper-of-falling R [] h n = tt
  proper-of-falling R (t ∷ f) h n = (
    n t (Memᴰ.head refl),
    all_map (λ m l e. irreflexive ord (subst (λ (x : M). lt x t.1) e l)) h.0,
    proper-of-falling R f h.1 (λ u q. n u (Memᴰ.tail q)),
  )

-- What holds of the coefficients of a line holds of its terms.
of-coefficients : (P : ℕ → Type 0) (n : ℕ) (g : List LineTerm) → ((k : ℕ) → k < length g → P (coefficient_at g k)) → (u : Term) → u ∈ terms_in n g → P u.0
unfolding terms_in term_of coefficient_at
of-coefficients P n g h u q =
    let (t, r, e) = of_map (term_of n) g q in
    let (k, l, f) = place_of no_term r in
    subst P (ap (λ (x : LineTerm). x.coefficient.0) f ∙ sym (ap (λ (x : Term). x.0) e)) (h k l)

module _ (p : ℕ) (h : 1 < p) (n : ℕ) where
  residue-nonzero : (x : ℕ) → 0 < x → x < p → ¬ (residue p h x ≡ (modulo p h).zero)
  unfolding residue modulo
  residue-nonzero x a b e = omega (arith, ap (λ (r : ZMod p). r.0) e, mod-eq_of_lt b)

  pub tail-nonzero : (ts : List Term) → ((u : Term) → u ∈ ts → (0 < u.0) × (u.0 < p)) → (t : ZMod p × Row n) → t ∈ (line_of p h n ts).1 → ¬ (t.0 ≡ (modulo p h).zero)
  unfolding line_of
  tail-nonzero [] a t q z = absurd (Memᴰ.not-nil q)
  tail-nonzero (x ∷ ts) a t q z =
      let (u, r, e) = of_map _ ts q in
      let (low, high) = a u (Memᴰ.tail r) in
      residue-nonzero u.0 low high (sym (ap (λ (y : ZMod p × Row n). y.0) e) ∙ z)

  module _ (g : List LineTerm) (s : SoundLine p n g) where
    abbrev line : Line (ZMod p) (Row n)
    line = line_of p h n (terms_in n g)

    monomial-at : (k : ℕ) → get_or (map (λ t. t.1) (polynomial (modulo p h) line)) k (one n) ≡ row n (monomial_at g k)
    monomial-at k = ap (λ (x : List (Row n)). get_or x k (one n)) (line-monomials p h n g s.some) ∙ row-in-at n g k

    many : length (polynomial (modulo p h) line) ≡ length g
    many = sym (length-map (polynomial (modulo p h) line) (λ t. t.1)) ∙ ap length (line-monomials p h n g s.some) ∙ rows-in-length n g

    line-falling : Falling (Grevlex n) (polynomial (modulo p h) line)
    line-falling = falling-of-steps (grevlex-order n) (one n) (polynomial (modulo p h) line)
        (λ k l. subst₂ (Grevlex n) (sym (monomial-at (suc k))) (sym (monomial-at k)) (s.falling k (omega (arith, many))))

    line-proper : Falling (Grevlex n) line.1 → Polynomial (modulo p h) line.1
    line-proper f = proper-of-falling (grevlex-order n) (modulo p h) line.1 f
        (tail-nonzero (terms_in n g) (of-coefficients (λ x. (0 < x) × (x < p)) n g s.coefficients))

module _ (b : StoredBasis) (sound : Sound b) (h : 1 < b.p) where
  abbrev Good : Line (ZMod b.p) (Row b.n) → Type 0
  Good g = Falling (Grevlex b.n) (polynomial (modulo b.p h) g) × Polynomial (modulo b.p h) g.1

  good : (g : Line (ZMod b.p) (Row b.n)) → g ∈ stored_lines b h → Good g
  unfolding polynomial
  good g q =
      let (k, l, e) = place_of (one b.n, []) q in
      let s = sound.lines k (omega (arith, stored-lines-length b h)) in
      let f = line-falling b.p h b.n (generator_at b k) s in
      subst Good (sym (line-at b h k) ∙ e) (f, line-proper b.p h b.n (generator_at b k) s f.1)

  pub sound-lines : Lines (modulo b.p h) (Grevlex b.n) (stored_lines b h)
  unfolding polynomial
  sound-lines = record { falling = λ g q. (good g q).0; proper = λ g q. (good g q).1 }
