-- The lines of the output are those of the lex basis that was written, and those of the input are those of the basis that was read.
--   Small n B       few monomials, with small exponents
--   header-form     the basis line is of the form
--   written-lines   the output of a basis within the sizes holds its lines
--   input_lines     a text that passed checks 2 to 11 holds the lines of its basis
use mathlib.Core.Path.{refl, sym, ap₂}
use mathlib.Core.List.{List, [], ◌∷◌, ◌++◌, map}
use Prim.Native.Nat.{ℕ, ◌<◌, ◌≤◌}
use native.Mathlib.Omega.{arith}
use lib.ListN.{length, length-map}
use Rattle.lists.specs.Lists.{◌∈◌, Bytes}
use Rattle.lists.specs.Lists as lists
use Rattle.lists.proofs.EachElement.{each_at, each_map, each_append}
use Rattle.residue.specs.Prime.{largest_modulus}
use Rattle.residue.specs.Field.{ZMod, modulo}
use Rattle.monomial.specs.Sizes.{most_variables}
use Rattle.monomial.specs.Rows.{Row, exponent}
use Rattle.groebner.specs.Lines.{Line}
use Rattle.lines.specs.Sizes.{most_standard}
use Rattle.lines.specs.Terms.{Term}
use Rattle.tabtext.specs.Text.{bytes, Number, Exponents, header, generator, standard, points, end, text, Form, TextLine}
use Rattle.checks.specs.Checks.{Basis}
use Rattle.checks.proofs.GoodLines.{GoodLine}
use Rattle.checks.proofs.Passes.{GoodText}
use Rattle.convert.specs.Written.{exponents, written}
use Rattle.convert.specs.Contract.{InputLines, OutputLines}
use Rattle.convert.proofs.SizesSuffice.{Sized}
use Rattle.convert.proofs.LineTerms.{exponents-count, exponents-each, terms_of_line, text-lines, generators-of-terms}
use Rattle.convert.proofs.GoodTerms.{terms-form}
use Rattle.convert.proofs.ConvertedChecks.{lines_of_basis}

-- A basis line of either order is of the form.
pub header-form : (p n : ℕ) → p ≤ largest_modulus → n ≤ most_variables → Form n (header (bytes "grevlex") p n) × Form n (header (bytes "lex") p n)
unfolding bytes
header-form p n small few = (omega arith, omega arith)

-- At most 32 monomials, with no exponent over 32.
pub record Small (n : ℕ) (B : List (Row n)) : Type 0 where
  pub few : length B ≤ most_standard
  pub exponents : (m : Row n) → m ∈ B → (i : ℕ) → i < n → exponent n m i ≤ most_standard

pub written-lines : (p : ℕ) (h : 1 < p) (n : ℕ) (H : List (Line (ZMod p) (Row n))) (B : List (Row n)) → p ≤ largest_modulus → 1 ≤ n → n ≤ most_variables
    → Sized (modulo p h) n most_standard H → Small n B → OutputLines (written p h n H B) p h n H
unfolding written
written-lines p h n H B small some few sized standards = record {
  terms = map (terms_of_line p h n) H;
  monomials = map (exponents n) B;
  form = (
    (header-form p n small few).1,
    each_append (Form n) (map generator (map (terms_of_line p h n) H)) _
        (each_map (Form n) generator (map (terms_of_line p h n) H) (λ ts i. each_at (λ (ts : List Term). Form n (generator ts)) (map (terms_of_line p h n) H) forms i))
        (rows, (omega (arith, standards.few, length-map B (exponents n)), (omega (arith, sized.lines some, length-map H (terms_of_line p h n)), tt))),
  );
  stands = ap₂ (λ (ls : List TextLine) (k : ℕ × ℕ). text ((header (bytes "lex") p n ∷ ls) ++ (standard (map (exponents n) B) ∷ points k.0 ∷ end k.1 ∷ [])))
      (text-lines p h n H) (λ i. (sym (length-map B (exponents n)) i, sym (length-map H (terms_of_line p h n)) i));
  lines = sym (generators-of-terms p h n H);
}
  where
    forms : lists.Each (λ (ts : List Term). Form n (generator ts)) (map (terms_of_line p h n) H)
    forms = each_map (λ (ts : List Term). Form n (generator ts)) (terms_of_line p h n) H (terms-form p h n H small sized)

    rows : lists.Each (Exponents n) (map (exponents n) B)
    rows = each_map (Exponents n) (exponents n) B (λ m i. (exponents-count n m, exponents-each Number n m (λ v l. omega (arith, standards.exponents m i v l))))

unfoldable pub input_lines : (input : Bytes) (b : Basis) (h : 1 < b.p) → GoodText input b → InputLines input b.p h b.n (lines_of_basis b h)
input_lines input b h w = record {
  terms = b.generators;
  form = (
    (header-form b.p b.n w.modulus.size w.variables.most).0,
    each_append (Form b.n) (map generator b.generators) _
        (each_map (Form b.n) generator b.generators (λ ts i. (each_at (GoodLine b.p b.n) b.generators w.good i).form)) (omega (arith, w.size), tt),
  );
  stands = w.stands;
  lines = refl;
}
