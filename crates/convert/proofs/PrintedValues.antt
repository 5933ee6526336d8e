-- What is printed for the lines and monomials that a lex basis of the code holds.
--   standard-printed     the exponents of the monomials
--   lines-printed        the poly lines
use Prim.Native.Nat.{ℕ, zero, suc, ◌≤◌, ◌<◌}
use mathlib.Core.Path.{◌≡◌, refl, ap, ap₂}
use mathlib.Core.List.{List, [], ◌∷◌, ◌++◌, map}
use native.Mathlib.Omega.{arith}
use lib.ListN.{length, take}
use Rattle.arrayvec.specs.ArrayVec.{ArrayVec}
use Rattle.lists.specs.Lists.{Each}
use Rattle.monomial.specs.Rows.{Row}
use Rattle.monomial.specs.Represented.{row, monomial}
use Rattle.monomial.specs.Represented as represented
use Rattle.monomial.specs.declared.Exponent.{Exponent}
use Rattle.monomial.specs.declared.Monomial.{Monomial}
use Rattle.lines.specs.LineTerms.{exponents_of, term_of, terms_in, terms_of_lines}
use Rattle.lines.specs.Bases.{Padded}
use Rattle.lines.specs.declared.line.LineTerm.{LineTerm}
use Rattle.tabtext.specs.Text.{generator}
use Rattle.tabtext.specs.Printed.{generator_line}
use Rattle.tabtext.proofs.Values.{exponents-length-of}
use Rattle.staircase.specs.TermLines as read
use Rattle.fglm.specs.Found.{PrintableLine}
use Rattle.convert.specs.Written.{exponents, as_generator}
use Rattle.convert.proofs.LineTerms as line
use Rattle.convert.proofs.LineTerms.{Representable}

-- A held monomial has n exponents.
exponents-count : (n : ℕ) (a : Row n) (z : List Exponent) → n ≤ length (represented.exponent_list n a ++ z)
unfolding represented.exponent_list
exponents-count zero a z = omega arith
exponents-count (suc n) a z = omega (arith, exponents-count n a.1 z)

held-long : (n : ℕ) (m : Monomial) → Padded n m → n ≤ length m.e
unfolding monomial
held-long n m e = rw e (exponents-count n (row n m) _)

held-row : (n : ℕ) (m : Monomial) → Padded n m → length (exponents_of n m) ≡ n
held-row n m e = exponents-length-of n m (held-long n m e)

-- The exponents that are printed for the row of a monomial.
row-exponents : (n : ℕ) (l : List Exponent) → n ≤ length l → exponents n (represented.row_of n l) ≡ take n (map (λ (x : Exponent). x.0) l)
unfolding exponents represented.row_of
row-exponents zero l h = refl
row-exponents (suc n) [] h = absurd (omega arith)
row-exponents (suc n) (x ∷ l) h = ap (◌∷◌ x.0) (row-exponents n l (omega arith))

pub standard-printed : (n : ℕ) (ms : List Monomial) → Each (Padded n) ms → map (exponents n) (map (row n) ms) ≡ map (exponents_of n) ms
unfolding row exponents_of
standard-printed n [] e = refl
standard-printed n (m ∷ ms) e = ap₂ ◌∷◌ (row-exponents n m.e (held-long n m e.0)) (standard-printed n ms e.1)

module _ (p : ℕ) (h : 1 < p) (n : ℕ) where
  -- The terms of a held line.
  terms-representable : (g : List LineTerm) → Each (λ (t : LineTerm). (0 < t.coefficient.0) × (t.coefficient.0 < p)) g → Each (λ (t : LineTerm). Padded n t.monomial) g
      → Each (Representable p h n) (terms_in n g)
  unfolding terms_in term_of
  terms-representable [] a b = tt
  terms-representable (t ∷ g) a b = ((a.0.1, held-row n t.monomial b.0), terms-representable g a.1 b.1)

  line-printed : (g : List LineTerm) → PrintableLine p n g → as_generator p h n (read.line_of p h n (terms_in n g)) ≡ generator_line n g
  unfolding as_generator line.terms_of_line generator_line
  line-printed g w = ap generator (line.terms-of-generator p h n (terms_in n g) w.monic (terms-representable g w.coefficients w.held.1))

  pub lines-printed : (l : List (ArrayVec LineTerm)) → Each (λ (g : ArrayVec LineTerm). PrintableLine p n g.items) l
      → map (as_generator p h n) (read.lines_of p h n (terms_of_lines n l)) ≡ map (λ (g : ArrayVec LineTerm). generator_line n g.items) l
  unfolding read.lines_of terms_of_lines
  lines-printed [] w = refl
  lines-printed (g ∷ l) w = ap₂ ◌∷◌ (line-printed g.items w.0) (lines-printed l w.1)
