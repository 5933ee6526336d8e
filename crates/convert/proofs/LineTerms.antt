-- The lines of a text, as terms, and the lines of polynomials that they are.
--   terms_of_line p h n g   the terms of a line: each coefficient and its exponents
--   text-lines              the lines of a basis, as lines of the text
--   exponents-count         a monomial in n variables has n exponents
--   exponents-each          what holds of each exponent of a monomial
--   row-of-exponents        the exponents of a monomial, as a row, are the monomial
--   generator-of-terms      the line that the terms of a line make is the line
--   generators-of-terms     so with the lines of a basis
--   Representable p h n t   a coefficient below p, and n exponents
--   terms-of-generator      the terms of the line that monic terms make are these terms
--   terms-of-generators     so with good lines
use Prim.Native.Nat.{ℕ, zero, suc, ◌<◌}
use mathlib.Core.Path.{◌≡◌, refl, sym, ap, ap₂}
use mathlib.Core.List.{List, [], ◌∷◌, map}
use mathlib.Core.HLevel.{Σ_prop_path}
use native.Mathlib.Bridge.{le_prop}
use native.Mathlib.Nat.{mod-eq_of_lt}
use native.Mathlib.Omega.{arith}
use lib.ListN.{length}
use Rattle.lists.specs.Lists.{Each}
use Rattle.residue.specs.Field.{ZMod, modulo, residue}
use Rattle.monomial.specs.Rows.{Row, exponent}
use Rattle.groebner.specs.Polynomials.{Poly}
use Rattle.groebner.specs.Lines.{Line, polynomial}
use Rattle.lines.specs.Terms.{Term, as_row}
use Rattle.lines.specs.LineTerms.{Monic}
use Rattle.tabtext.specs.Text.{Number, Exponents, generator}
use Rattle.checks.proofs.GoodLines.{GoodTerm, GoodLine}
use Rattle.staircase.specs.TermLines.{line_of, lines_of}
use Rattle.convert.specs.Written.{exponents, as_generator}

pub exponents-count : (n : ℕ) (m : Row n) → length (exponents n m) ≡ n
unfolding exponents
exponents-count zero m = refl
exponents-count (suc n) m = ap suc (exponents-count n m.1)

pub exponents-each : (P : ℕ → Type 0) (n : ℕ) (m : Row n) → ((i : ℕ) → i < n → P (exponent n m i)) → Each P (exponents n m)
unfolding exponents exponent
exponents-each P zero m h = tt
exponents-each P (suc n) m h = (h 0 (omega arith), exponents-each P n m.1 (λ i l. h (suc i) (omega arith)))

pub row-of-exponents : (n : ℕ) (m : Row n) → as_row n (exponents n m) ≡ m
unfolding as_row exponents
row-of-exponents zero m = refl
row-of-exponents (suc n) m = λ i. (m.0, row-of-exponents n m.1 i)

exponents-of-row : (n : ℕ) (e : List ℕ) → length e ≡ n → exponents n (as_row n e) ≡ e
unfolding as_row exponents
exponents-of-row zero [] l = refl
exponents-of-row zero (x ∷ e) l = absurd (omega arith)
exponents-of-row (suc n) [] l = absurd (omega arith)
exponents-of-row (suc n) (x ∷ e) l = ap (◌∷◌ x) (exponents-of-row n e (omega arith))

module _ (p : ℕ) (h : 1 < p) (n : ℕ) where
  -- The terms of a line, greatest first.
  unfoldable pub terms_of_line : Line (ZMod p) (Row n) → List Term
  unfolding polynomial exponents modulo
  terms_of_line g = map (λ t. (t.0.0, exponents n t.1)) (polynomial (modulo p h) g)

  pub text-lines : (G : List (Line (ZMod p) (Row n))) → map (as_generator p h n) G ≡ map generator (map terms_of_line G)
  unfolding as_generator terms_of_line
  text-lines [] = refl
  text-lines (g ∷ G) = ap (◌∷◌ (as_generator p h n g)) (text-lines G)

  residue-of : (c : ZMod p) → residue p h c.0 ≡ c
  unfolding residue
  residue-of c = Σ_prop_path (λ x. le_prop) (mod-eq_of_lt c.1)

  pub generator-of-terms : (g : Line (ZMod p) (Row n)) → line_of p h n (terms_of_line g) ≡ g
  unfolding line_of terms_of_line polynomial
  generator-of-terms g = λ i. (row-of-exponents n g.0 i, tail g.1 i)
    where
      tail : (f : Poly (ZMod p) (Row n)) → map (λ (u : Term). (residue p h u.0, as_row n u.1)) (map (λ (t : ZMod p × Row n). (t.0.0, exponents n t.1)) f) ≡ f
      tail [] = refl
      tail (t ∷ f) = λ i. (residue-of t.0 i, row-of-exponents n t.1 i) ∷ tail f i

  pub generators-of-terms : (G : List (Line (ZMod p) (Row n))) → lines_of p h n (map terms_of_line G) ≡ G
  unfolding lines_of
  generators-of-terms [] = refl
  generators-of-terms (g ∷ G) = ap₂ ◌∷◌ (generator-of-terms g) (generators-of-terms G)

  -- A coefficient below p, and n exponents.
  abbrev pub Representable : Term → Type 0
  Representable t = (t.0 < p) × (length t.1 ≡ n)

  -- The terms of the line that monic terms make.
  pub terms-of-generator : (ts : List Term) → Monic ts → Each Representable ts → terms_of_line (line_of p h n ts) ≡ ts
  unfolding line_of terms_of_line polynomial residue modulo
  terms-of-generator [] m w = absurd m
  terms-of-generator (t ∷ ts) m w = ap₂ ◌∷◌ (λ i. (sym m i, exponents-of-row n t.1 w.0.1 i)) (tail ts w.1)
    where
      tail : (ts : List Term) → Each Representable ts
          → map (λ (t : ZMod p × Row n). (t.0.0, exponents n t.1)) (map (λ (u : Term). (residue p h u.0, as_row n u.1)) ts) ≡ ts
      tail [] w = refl
      tail (u ∷ ts) w = ap₂ ◌∷◌ (λ i. (mod-eq_of_lt w.0.0 i, exponents-of-row n u.1 w.0.1 i)) (tail ts w.1)

  representable : (ts : List Term) → Each (GoodTerm p) ts → Each (λ (t : Term). Number t.0 × Exponents n t.1) ts → Each Representable ts
  representable [] a b = tt
  representable (t ∷ ts) a b = ((a.0.1, b.0.1.0), representable ts a.1 b.1)

  pub terms-of-generators : (ls : List (List Term)) → Each (GoodLine p n) ls → map terms_of_line (lines_of p h n ls) ≡ ls
  unfolding lines_of
  terms-of-generators [] w = refl
  terms-of-generators (ts ∷ ls) w =
      ap₂ ◌∷◌ (terms-of-generator ts w.0.monic (representable ts w.0.terms w.0.form.1)) (terms-of-generators ls w.1)
