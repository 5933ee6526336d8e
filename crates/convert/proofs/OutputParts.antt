-- The output for a lex basis of the code, by its parts.
--   output p n b         the parts, one after the other
--   written-output       the output is these parts
--   written-width        its number of bytes
--   header-short         the basis line has at most 22
--   counted-short        a runs line and an end line have at most 11 each
use Prim.Native.Nat.{ℕ, ◌+◌, ◌≤◌, ◌<◌}
use mathlib.Core.Path.{◌≡◌, ap, ap₂, ◌∙◌}
use mathlib.Core.List.{List, [], ◌∷◌, ◌++◌, append-nil}
use native.Mathlib.Omega.{arith}
use lib.ListN.{length, length-map, length-append}
use Rattle.arrayvec.specs.ArrayVec.{ArrayVec}
use Rattle.lists.specs.Lists.{Bytes}
use Rattle.monomial.specs.Represented.{row}
use Rattle.monomial.specs.declared.Monomial.{Monomial}
use Rattle.lines.specs.LineTerms.{terms_in, terms_of_lines}
use Rattle.lines.specs.declared.line.LineTerm.{LineTerm}
use Rattle.tabtext.specs.Text.{bytes, Number, header, standard, points, end, text, TextLine}
use Rattle.tabtext.specs.Printed.{printed, count_line}
use Rattle.tabtext.specs.Printed as lines
use Rattle.tabtext.proofs.Separators.{points-counted, end-counted}
use Rattle.tabtext.proofs.Widths.{number-width-5, header-width, counted-width}
use Rattle.staircase.specs.TermLines as read
use Rattle.fglm.specs.Found.{found_lines, found_standard, Printable}
use Rattle.fglm.specs.declared.lex_basis.LexBasis.{LexBasis}
use Rattle.convert.specs.Written.{written}
use Rattle.convert.specs.LexText.{generator_lines, written_of}
use Rattle.convert.proofs.LineSequence.{text-line, text-append}
use Rattle.convert.proofs.PrintedValues.{standard-printed, lines-printed}

-- The parts of the output.
abbrev pub output : ℕ → ℕ → LexBasis → Bytes
output p n b =
    printed (header (bytes "lex") p n)
    ++ (text (generator_lines n b.lines.items)
    ++ (printed (lines.standard_line n b.standard.items) ++ (count_line (bytes "runs") (length b.standard.items) ++ count_line (bytes "end") (length b.lines.items))))

-- The text of a basis line, poly lines, a stairs line, a runs line and an end line.
text-parts : (l : TextLine) (ls : List TextLine) (s : TextLine) (c k : ℕ)
    → text ((l ∷ ls) ++ (s ∷ points c ∷ end k ∷ [])) ≡ printed l ++ (text ls ++ (printed s ++ (count_line (bytes "runs") c ++ count_line (bytes "end") k)))
unfolding text
text-parts l ls s c k =
    text-line l (ls ++ (s ∷ points c ∷ end k ∷ []))
    ∙ ap (λ (x : Bytes). printed l ++ x)
    (text-append ls (s ∷ points c ∷ end k ∷ []) ∙ ap (λ (x : Bytes). text ls ++ x)
    (text-line s (points c ∷ end k ∷ []) ∙ ap (λ (x : Bytes). printed s ++ x) last))
  where
    last : text (points c ∷ end k ∷ []) ≡ count_line (bytes "runs") c ++ count_line (bytes "end") k
    last = text-line (points c) (end k ∷ []) ∙ ap₂ ◌++◌ (points-counted c) (text-line (end k) [] ∙ append-nil (printed (end k)) ∙ end-counted k)

pub written-output : (p : ℕ) (h : 1 < p) (n : ℕ) (b : LexBasis) → Printable p n b → written_of p h n b ≡ output p n b
unfolding written found_lines found_standard generator_lines lines.standard_line read.lines_of terms_of_lines
written-output p h n b w = same ∙ text-parts (header (bytes "lex") p n) (generator_lines n b.lines.items) (lines.standard_line n standards) (length standards) (length G)
  where
    G : List (ArrayVec LineTerm)
    G = b.lines.items

    standards : List Monomial
    standards = b.standard.items

    count : length (found_standard n b) ≡ length standards
    count = length-map standards (row n)

    number : length (found_lines p h n b) ≡ length G
    number = length-map (terms_of_lines n G) (read.line_of p h n) ∙ length-map G (λ (g : ArrayVec LineTerm). terms_in n g.items)

    same : written_of p h n b
        ≡ text ((header (bytes "lex") p n ∷ generator_lines n b.lines.items) ++ (lines.standard_line n standards ∷ points (length standards) ∷ end (length G) ∷ []))
    same = ap₂ (λ (ls : List TextLine) (s : List (List ℕ) × ℕ × ℕ). text ((header (bytes "lex") p n ∷ ls) ++ (standard s.0 ∷ points s.1 ∷ end s.2 ∷ [])))
        (lines-printed p h n G w.each) (λ i. (standard-printed n standards w.standard i, count i, number i))

pub written-width : (p : ℕ) (h : 1 < p) (n : ℕ) (b : LexBasis) → Printable p n b
    → length (written_of p h n b)
    ≡ length (printed (header (bytes "lex") p n)) + length (text (generator_lines n b.lines.items)) + length (printed (lines.standard_line n b.standard.items))
    + (length (count_line (bytes "runs") (length b.standard.items)) + length (count_line (bytes "end") (length b.lines.items)))
written-width p h n b w =
    let a : Bytes = printed (header (bytes "lex") p n) in
    let x : Bytes = text (generator_lines n b.lines.items) in
    let s : Bytes = printed (lines.standard_line n b.standard.items) in
    let r : Bytes = count_line (bytes "runs") (length b.standard.items) in
    let e : Bytes = count_line (bytes "end") (length b.lines.items) in
    omega (arith, ap length (written-output p h n b w), length-append a (x ++ (s ++ (r ++ e))), length-append x (s ++ (r ++ e)), length-append s (r ++ e), length-append r e)

pub header-short : (p n : ℕ) → Number p → Number n → length (printed (header (bytes "lex") p n)) ≤ 22
unfolding bytes
header-short p n a b = omega (arith, header-width (bytes "lex") p n, number-width-5 p a, number-width-5 n b)

pub counted-short : (w : Bytes) (v : ℕ) → length w ≤ 4 → Number v → length (count_line w v) ≤ 11
counted-short w v a b = omega (arith, counted-width w v, number-width-5 v b)
