-- The terms of a line of a basis, one by one.
--   term-coefficient, term-monomial   what the code reads at the place of a term is its coefficient, and its monomial
--   line_terms p h n g                the terms of the polynomial that a line makes
--   line-terms-length                 there are as many as the line has
--   line-terms-at                     term k
--   line-terms-more                   the first k + 1 terms
--   line-terms-all                    all of them
--   line-degree                       no term has a larger degree than the first
use mathlib.Core.Path.{◌≡◌, refl, sym, ◌∙◌, ap}
use mathlib.Core.List.{List, [], ◌∷◌, ◌++◌, map}
use Prim.Native.Nat.{ℕ, zero, suc, ◌+◌, ◌≤◌, ◌<◌}
use native.Mathlib.Numerals.{add-one}
use native.Mathlib.Omega.{arith}
use lib.ListN.{length, get_or, take, length-map, get_or-map}
use lib.Seq.{take-suc, take_all}
use Rattle.std.proofs.lemmas.List.{get_or_default}
use Rattle.residue.specs.Field.{ZMod, modulo, residue}
use Rattle.residue.proofs.Residues.{residue-one}
use Rattle.monomial.specs.Rows.{Row, degree}
use Rattle.monomial.specs.Represented.{row}
use Rattle.groebner.specs.Polynomials.{Poly}
use Rattle.groebner.specs.Lines.{polynomial}
use Rattle.lines.specs.Terms.{Term, as_row}
use Rattle.lines.specs.LineTerms.{term_of, terms_in, no_term, coefficient_at, monomial_at}
use Rattle.lines.specs.declared.line.LineTerm.{LineTerm}
use Rattle.lines.proofs.AsRow.{as_row-exponents}
use Rattle.staircase.specs.TermLines.{line_of}
use Rattle.staircase.specs.Sound.{SoundLine}
use Rattle.division.proofs.GrevlexPlaces.{grevlex-degree}

module _ (g : List LineTerm) (k : ℕ) (d : LineTerm) (l : k < length g) where
  pub term-coefficient : (get_or g k d).coefficient.0 ≡ coefficient_at g k
  unfolding coefficient_at
  term-coefficient = ap (λ (t : LineTerm). t.coefficient.0) (get_or_default g k d no_term l)

  pub term-monomial : (get_or g k d).monomial ≡ monomial_at g k
  unfolding monomial_at
  term-monomial = ap (λ (t : LineTerm). t.monomial) (get_or_default g k d no_term l)

module _ (p : ℕ) (h : 1 < p) (n : ℕ) where
  unfoldable pub line_terms : List LineTerm → Poly (ZMod p) (Row n)
  line_terms g = polynomial (modulo p h) (line_of p h n (terms_in n g))

  -- A term of a line, as a term of a polynomial.
  abbrev as_term : LineTerm → ZMod p × Row n
  as_term t = (residue p h t.coefficient.0, row n t.monomial)

  tail-terms : (g : List LineTerm) → map (λ (v : Term). (residue p h v.0, as_row n v.1)) (terms_in n g) ≡ map as_term g
  unfolding terms_in term_of
  tail-terms [] = refl
  tail-terms (t ∷ g) = λ i. (residue p h t.coefficient.0, as_row-exponents n t.monomial i) ∷ tail-terms g i

  mapped : (g : List LineTerm) → coefficient_at g 0 ≡ 1 → line_terms g ≡ map as_term g
  unfolding line_terms polynomial line_of terms_in term_of coefficient_at no_term
  mapped [] e = absurd (omega arith)
  mapped (t ∷ g) e =
      let first : (modulo p h).one ≡ residue p h t.coefficient.0 = sym (residue-one p h) ∙ ap (residue p h) (sym e) in
      λ i. (first i, as_row-exponents n t.monomial i) ∷ tail-terms g i

  module _ (g : List LineTerm) (s : SoundLine p n g) where
    pub line-terms-length : length (line_terms g) ≡ length g
    line-terms-length = ap length (mapped g s.monic) ∙ length-map g as_term

    module _ (k : ℕ) (l : k < length g) where
      pub line-terms-at : get_or (line_terms g) k (as_term no_term) ≡ (residue p h (coefficient_at g k), row n (monomial_at g k))
      unfolding coefficient_at monomial_at
      line-terms-at = ap (λ t. get_or t k (as_term no_term)) (mapped g s.monic) ∙ get_or-map as_term g k no_term

      -- One term more.
      pub line-terms-more : take (k + 1) (line_terms g) ≡ take k (line_terms g) ++ ((residue p h (coefficient_at g k), row n (monomial_at g k)) ∷ [])
      line-terms-more = rw (add-one, ← line-terms-at) (take-suc (line_terms g) k (as_term no_term) (omega (arith, line-terms-length)))

    pub line-terms-all : (k : ℕ) → length g ≤ k → take k (line_terms g) ≡ line_terms g
    line-terms-all k l = take_all k (line_terms g) (omega (arith, line-terms-length))

pub line-degree : (p n : ℕ) (g : List LineTerm) → SoundLine p n g → (k : ℕ) → k < length g
    → degree n (row n (monomial_at g k)) ≤ degree n (row n (monomial_at g 0))
line-degree p n g s zero l = omega arith
line-degree p n g s (suc k) l = omega (arith, line-degree p n g s k (omega arith), grevlex-degree n _ _ (s.falling k l))
