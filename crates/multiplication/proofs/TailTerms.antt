-- The tail of a line of the code, term by term.
--   tail_of p h n g     the tail of the line g
--   term_at p h n g k   term k of the line g
--   term-read           a term that is read at a place, whatever stands past the end of a line
--   tail-length         it has one term less than the line
--   tail_at             term k of it is term k + 1 of the line
--   tail_from           the tail from term k on begins with that term
use mathlib.Core.Path.{◌≡◌, refl, ◌∙◌, ap}
use mathlib.Core.List.{List, [], ◌∷◌, map}
use Prim.Native.Nat.{ℕ, suc, ◌-◌, ◌<◌}
use native.Mathlib.Omega.{arith}
use lib.ListN.{length, get_or, drop, length-map, get_or-map}
use lib.Seq.{drop-cons}
use Rattle.std.proofs.lemmas.List.{get_or_default}
use Rattle.residue.specs.Field.{ZMod, residue}
use Rattle.monomial.specs.Rows.{Row}
use Rattle.monomial.specs.Represented.{row}
use Rattle.groebner.specs.Polynomials.{Poly}
use Rattle.lines.specs.LineTerms.{term_of, terms_in, no_term, coefficient_at, monomial_at}
use Rattle.lines.specs.declared.line.LineTerm.{LineTerm}
use Rattle.lines.proofs.AsRow.{as_row-exponents}
use Rattle.staircase.specs.TermLines.{line_of}

pub term-read : (g : List LineTerm) (k : ℕ) (d : LineTerm) → k < length g → ((get_or g k d).coefficient.0 ≡ coefficient_at g k) × ((get_or g k d).monomial ≡ monomial_at g k)
unfolding coefficient_at monomial_at
term-read g k d l =
    let e : get_or g k d ≡ get_or g k no_term = get_or_default g k d no_term l in
    (ap (λ (t : LineTerm). t.coefficient.0) e, ap (λ (t : LineTerm). t.monomial) e)

module _ (p : ℕ) (h : 1 < p) (n : ℕ) where
  -- A term of a line, as a term of a polynomial.
  abbrev as_term : LineTerm → ZMod p × Row n
  as_term t = (residue p h t.coefficient.0, row n t.monomial)

  -- The tail.
  abbrev pub tail_of : List LineTerm → Poly (ZMod p) (Row n)
  tail_of g = (line_of p h n (terms_in n g)).1

  -- Term k of the line.
  abbrev pub term_at : List LineTerm → ℕ → ZMod p × Row n
  term_at g k = (residue p h (coefficient_at g k), row n (monomial_at g k))

  tail-terms : (t : LineTerm) (g : List LineTerm) → tail_of (t ∷ g) ≡ map as_term g
  unfolding line_of terms_in term_of
  tail-terms t [] = refl
  tail-terms t (u ∷ g) = λ i. (residue p h u.coefficient.0, as_row-exponents n u.monomial i) ∷ tail-terms t g i

  pub tail-length : (g : List LineTerm) → length (tail_of g) ≡ length g - 1
  unfolding line_of terms_in
  tail-length [] = refl
  tail-length (t ∷ g) = ap length (tail-terms t g) ∙ length-map g as_term ∙ omega arith

  pub tail_at : (g : List LineTerm) (k : ℕ) → suc k < length g → get_or (tail_of g) k (as_term no_term) ≡ term_at g (suc k)
  unfolding coefficient_at monomial_at
  tail_at [] k l = absurd (omega arith)
  tail_at (t ∷ g) k l = ap (λ (f : Poly (ZMod p) (Row n)). get_or f k (as_term no_term)) (tail-terms t g) ∙ get_or-map as_term g k no_term

  pub tail_from : (g : List LineTerm) (k : ℕ) → suc k < length g → drop k (tail_of g) ≡ term_at g (suc k) ∷ drop (suc k) (tail_of g)
  tail_from g k l = drop-cons (tail_of g) k (as_term no_term) (omega (arith, tail-length g)) ∙ ap (λ t. t ∷ drop (suc k) (tail_of g)) (tail_at g k l)
