-- A multiple of a line is added to an array of coefficients, one term a turn.
--   term_multiple p h n c u t      the term c·u·t, for a term t
--   AddedFirst p n w₀ w c u g k    the first k terms of c·u·g are added
--   added-degree                   the degree of the next term is that of the first at most
--   added-fits                     its exponents fit
--   added-start                    before the first turn
--   added-turn                     one turn
--   added-stop                     after the last turn
use mathlib.Core.Path.{◌≡◌, refl, sym, ◌∙◌, ap, ap₂}
use mathlib.Core.List.{List, [], ◌∷◌, ◌++◌, map, map-append}
use Prim.Native.Nat.{ℕ, ◌+◌, ◌≤◌, ◌<◌}
use native.Mathlib.Numerals.{add-one}
use native.Mathlib.Omega.{arith}
use lib.ListN.{length, get_or, take}
use lib.Seq.{take-suc, take_all}
use Rattle.residue.specs.Modular.{product_mod}
use Rattle.residue.specs.Field.{ZMod, modulo, residue}
use Rattle.residue.proofs.Residues.{residue-one, residue-times}
use Rattle.monomial.specs.Rows.{Row, exponent, product, degree}
use Rattle.monomial.specs.Ordering.{monomials}
use Rattle.monomial.specs.Represented.{row, most_entry}
use Rattle.monomial.proofs.Products.{exponent-product, degree-product}
use Rattle.groebner.specs.Polynomials.{scale, relabel, coef}
use Rattle.groebner.specs.Lines.{polynomial}
use Rattle.lines.specs.Terms.{Term, as_row}
use Rattle.lines.specs.LineTerms.{term_of, terms_in, no_term, coefficient_at, monomial_at}
use Rattle.lines.specs.declared.line.LineTerm.{LineTerm}
use Rattle.lines.proofs.AsRow.{as_row-exponents}
use Rattle.staircase.specs.TermLines.{line_of}
use Rattle.staircase.specs.Sound.{SoundLine}
use Rattle.division.specs.GrevlexPlace.{most_degree}
use Rattle.division.specs.CoefficientArray.{Residues, AddsPolynomial}
use Rattle.division.specs.Clearing.{product_of}
use Rattle.division.proofs.GrevlexPlaces.{exponent-degree}
use Rattle.division.proofs.AddedTerms.{adds_none, adds-append, adds_same}
use Rattle.division.proofs.LineTerms.{line-degree}

-- The term c·u·t.
unfoldable pub term_multiple : (p : ℕ) (h : 1 < p) (n c : ℕ) → Row n → LineTerm → ZMod p × Row n
term_multiple p h n c u t = (residue p h (product_mod p c t.coefficient.0), product n u (row n t.monomial))

-- The array held w₀, and the first k terms of c·u·g were added.
pub record AddedFirst (p n : ℕ) (w₀ w : List ℕ) (c : ℕ) (u : Row n) (g : List LineTerm) (k : ℕ) : Type 0 where
  pub adds : AddsPolynomial p n w₀ w (λ h. map (term_multiple p h n c u) (take k g))

-- All terms of c·u·g, as the theory has them.
module _ (p : ℕ) (h : 1 < p) (n c : ℕ) (u : Row n) where
  rest-terms : (g : List LineTerm) → map (term_multiple p h n c u) g
      ≡ scale (modulo p h) (residue p h c) (relabel (product n u) (map (λ (v : Term). (residue p h v.0, as_row n v.1)) (terms_in n g)))
  unfolding term_multiple scale relabel terms_in term_of product_mod
  rest-terms [] = refl
  rest-terms (t ∷ g) =
      ap₂ ◌∷◌ (ap₂ (λ x y. (x, product n u y)) (residue-times p h c t.coefficient.0) (sym (as_row-exponents n t.monomial))) (rest-terms g)

  product-terms : (g : List LineTerm) → coefficient_at g 0 ≡ 1 → map (term_multiple p h n c u) g ≡ product_of p n g c u h
  unfolding coefficient_at no_term term_multiple product_mod scale relabel monomials polynomial line_of terms_in term_of
  product-terms [] e = absurd (omega arith)
  product-terms (t ∷ g) e =
      let first = residue-times p h c t.coefficient.0 ∙ ap ((modulo p h).mul (residue p h c)) (ap (residue p h) e ∙ residue-one p h) in
      ap₂ ◌∷◌ (ap₂ (λ x y. (x, product n u y)) first (sym (as_row-exponents n t.monomial))) (rest-terms g)

-- The monomial of term k of u·g.
abbrev term_monomial : (n : ℕ) → Row n → List LineTerm → ℕ → Row n
term_monomial n u g k = product n u (row n (monomial_at g k))

module _ (p n : ℕ) (u : Row n) (g : List LineTerm) (s : SoundLine p n g) (k : ℕ) (l : k < length g) (d : degree n (term_monomial n u g 0) ≤ most_degree) where
  pub added-degree : degree n (term_monomial n u g k) ≤ most_degree
  added-degree = omega (arith, d, line-degree p n g s k l, degree-product n u (row n (monomial_at g 0)), degree-product n u (row n (monomial_at g k)))

  pub added-fits : (i : ℕ) → i < n → exponent n u i + exponent n (row n (monomial_at g k)) i ≤ most_entry
  added-fits i h = omega (arith, added-degree, exponent-degree n (term_monomial n u g k) i h, exponent-product n u (row n (monomial_at g k)) i)

module _ (p n : ℕ) {w₀ : List ℕ} (c : ℕ) (u : Row n) (g : List LineTerm) where
  pub added-start : Residues p n w₀ → AddedFirst p n w₀ w₀ c u g 0
  added-start r = record { adds = adds_none p n w₀ r }

  module _ (k : ℕ) {w : List ℕ} (f : AddedFirst p n w₀ w c u g k) where
    pub added-turn : {w' : List ℕ} (d : LineTerm) → k < length g → {x : ℕ} {m : Row n} → x ≡ product_mod p c (get_or g k d).coefficient.0
        → m ≡ product n u (row n (get_or g k d).monomial) → AddsPolynomial p n w w' (λ h. (residue p h x, m) ∷ []) → AddedFirst p n w₀ w' c u g (k + 1)
    unfolding term_multiple
    added-turn d l {x} {m} q r e = record {
      adds = adds_same p n (λ h v. ap (λ t. coef (modulo p h) (monomials n) t v) (next h)) (adds-append p n f.adds e);
    }
      where
        next : (h : 1 < p) → map (term_multiple p h n c u) (take k g) ++ ((residue p h x, m) ∷ []) ≡ map (term_multiple p h n c u) (take (k + 1) g)
        next h =
            let term = term_multiple p h n c u in
            ap₂ (λ y z. map term (take k g) ++ ((residue p h y, z) ∷ [])) q r
            ∙ sym (rw (add-one, take-suc g k d l) (map-append term (take k g) (get_or g k d ∷ [])))

    pub added-stop : SoundLine p n g → length g ≤ k → AddsPolynomial p n w₀ w (product_of p n g c u)
    added-stop s l = adds_same p n (λ h m. ap (λ x. coef (modulo p h) (monomials n) x m)
        (ap (map (term_multiple p h n c u)) (take_all k g l) ∙ product-terms p h n c u g s.monic)) f.adds
