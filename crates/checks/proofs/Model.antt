-- Checks 2 to 11 as a function of the text.
--   refuse◌when◌else◌      one check, and the outcome of those after it
--   judge_header           3, 4, 5 on the basis line
--   judge_term             6, 7 on a term
--   judge_terms            10, 6, 7, 8 on the later terms of a poly line
--   judge_generator        10, then the terms of a poly line
--   judge_end              11 on the end line
--   outcome_at k c later   the outcome after line k, of which the checks say c
--   judge_rest b k s       the outcome of the bytes after the end line: none, or 2 at line k
--   judge_line, judge_lines  the next line after the poly lines `found`; all lines after them
--   judge_first, judge   the lines from the basis line on; the text
use Prim.Native.Nat.{ℕ, zero, suc}
use mathlib.Core.Bool.{Bool, true, false, not, ◌&&◌}
use mathlib.Core.List.{List, [], ◌∷◌, ◌++◌}
use mathlib.Core.Option.{Option, none, some}
use lib.Dec.{leb, ltb, eqb}
use lib.ListN.{length}
use Rattle.lists.specs.Lists.{Bytes}
use Rattle.monomial.specs.Sizes.{most_variables, most_exponent}
use Rattle.answer.specs.Outcomes.{Judged, refused, passed}
use Rattle.lines.specs.Sizes.{most_lines, most_terms}
use Rattle.lines.specs.Terms.{Term, as_row}
use Rattle.tabtext.specs.Text.{bytes, TextLine, header, generator, standard, points, end}
use Rattle.tabtext.specs.Readers.{Got, got, bad, read_line}
use Rattle.checks.specs.Checks.{Basis, line_after}
use Rattle.checks.proofs.Tests.{each, same_bytes, is_modulus, smaller}

infixr 10 refuse◌when◌else◌
abbrev pub refuse◌when◌else◌ : ℕ → Bool → Option ℕ → Option ℕ
refuse number when true else later = some number
refuse number when false else later = later

-- The basis line: 3, 4, 5.
unfoldable pub judge_header : Bytes → ℕ → ℕ → Option ℕ
unfolding bytes same_bytes is_modulus
judge_header order p n =
    refuse 3 when not (same_bytes order (bytes "grevlex")) else
    refuse 4 when not (is_modulus p) else
    refuse 5 when not (leb 1 n && leb n most_variables) else
    none

-- A term: 6, 7.
unfoldable pub judge_term : ℕ → Term → Option ℕ → Option ℕ
unfolding each
judge_term p t later =
    refuse 6 when not (leb 1 t.0 && ltb t.0 p) else
    refuse 7 when not (each (λ e. leb e most_exponent) t.1) else
    later

-- The terms after `before`, the first of which is the j-th of the line: 10, 6, 7, 8.
unfoldable pub judge_terms : (p n j : ℕ) → Term → List Term → Option ℕ
unfolding judge_term as_row smaller
judge_terms p n j before [] = none
judge_terms p n j before (t ∷ ts) =
    refuse 10 when ltb most_terms j else
    judge_term p t (
    refuse 8 when not (smaller n (as_row n t.1) (as_row n before.1)) else
    judge_terms p n (suc j) t ts)

-- The k-th poly line: 10, then 6, 7, 9 on its first term, then its later terms.
unfoldable pub judge_generator : (p n k : ℕ) → List Term → Option ℕ
unfolding judge_term judge_terms
judge_generator p n k [] = some 2
judge_generator p n k (t ∷ ts) =
    refuse 10 when ltb most_lines k else
    judge_term p t (
    refuse 9 when not (eqb t.0 1) else
    judge_terms p n 2 t ts)

-- The end line after k poly lines: 11.
unfoldable pub judge_end : (k count : ℕ) → Option ℕ
judge_end k count =
    refuse 11 when not (eqb count k) else
    none

-- The outcome after line k, of which the checks say c: refused there, or that of the lines after it.
abbrev pub outcome_at : ℕ → Option ℕ → Judged Basis → Judged Basis
outcome_at k (some number) later = refused number k
outcome_at k none later = later

-- The bytes after the end line.
abbrev pub judge_rest : Basis → ℕ → Bytes → Judged Basis
judge_rest b k [] = passed b
judge_rest b k (x ∷ s) = refused 2 k

-- The line that is read after the basis line and the poly lines `found`; `next` judges the lines after it.
unfoldable pub judge_line : (p n : ℕ) → (List (List Term) → Bytes → Judged Basis) → List (List Term) → Got TextLine → Judged Basis
unfolding judge_generator judge_end
judge_line p n next found bad = refused 2 (line_after found)
judge_line p n next found (got (header order q m) rest) = refused 2 (line_after found)
judge_line p n next found (got (generator terms) rest) =
    outcome_at (line_after found) (judge_generator p n (suc (length found)) terms) (next (found ++ (terms ∷ [])) rest)
judge_line p n next found (got (standard monomials) rest) = refused 2 (line_after found)
judge_line p n next found (got (points count) rest) = refused 2 (line_after found)
judge_line p n next found (got (end count) rest) =
    outcome_at (line_after found) (judge_end (length found) count) (judge_rest (record { p = p; n = n; generators = found }) (suc (line_after found)) rest)

-- All lines after the basis line and the poly lines `found`. (`most` bounds the number of lines.)
unfoldable pub judge_lines : (most p n : ℕ) → List (List Term) → Bytes → Judged Basis
unfolding judge_line
judge_lines zero p n found s = refused 2 (line_after found)
judge_lines (suc most) p n found s = judge_line p n (λ more rest. judge_lines most p n more rest) found (read_line n s)

-- The basis line, and the lines after it: each takes a byte at least.
unfoldable pub judge_first : Got TextLine → Judged Basis
unfolding judge_header judge_lines
judge_first bad = refused 2 1
judge_first (got (header order p n) rest) = outcome_at 1 (judge_header order p n) (judge_lines (length rest) p n [] rest)
judge_first (got (generator terms) rest) = refused 2 1
judge_first (got (standard monomials) rest) = refused 2 1
judge_first (got (points count) rest) = refused 2 1
judge_first (got (end count) rest) = refused 2 1

-- The text. A basis line is read the same for every number of variables.
unfoldable pub judge : Bytes → Judged Basis
unfolding judge_first
judge s = judge_first (read_line 0 s)
