-- Believed. Checks 2 to 11 in their order (document 01, "Refused texts").
--   Basis                                 what a text holds: p, n, and the terms of its poly lines
--   check_header                          3, 4, 5 on the basis line
--   check_term, check_first, check_next   6, 7 on a term; 6, 7, 9 on the first; 10, 6, 7, 8 on a later one
--   check_terms, check_generator          the later terms of a poly line; 10 and then the terms of a poly line
--   check_end                             11 on the end line
--   Front n s l rest                      the line l stands at the front of s
--   Later l                               l is of a kind that comes after the basis line
--   line_after got                        the number of the line after the poly lines `got`
--   Remaining p n o got s                 o is the outcome of the lines s that come after the basis line and the poly lines `got`
--   Checked s o                           o is the outcome of checks 2 to 11 for the text s
use Rattle.std.specs.Prelude.{ℕ, suc, ◌+◌, ◌≤◌, ◌<◌, ◌≡◌, List, [], ◌∷◌, ◌++◌, length}
use Rattle.std.proofs.Math.Option.{Option, none, some}
use Rattle.lists.specs.Lists.{Bytes, Each}
use Rattle.residue.specs.Prime.{Modulus}
use Rattle.monomial.specs.Sizes.{VariableCount, most_exponent}
use Rattle.monomial.specs.Ordering.{Grevlex}
use Rattle.answer.specs.Outcomes.{Judged, refused, passed, refuse◌if◌else◌, pass}
use Rattle.lines.specs.Terms.{as_row, Term}
use Rattle.lines.specs.Sizes.{most_lines, most_terms}
use Rattle.tabtext.specs.Text.{bytes, TextLine, header, generator, standard, points, end, Form, printed}

-- What a text holds: p, n, and the terms of its poly lines, which are the lines 2, 3, ..
pub record Basis : Type 0 where
  pub p : ℕ
  pub n : ℕ
  pub generators : List (List Term)

-- The basis line: 3, 4, 5.
abbrev pub check_header : Bytes → ℕ → ℕ → Option ℕ → Type 0
check_header order p n =
    refuse 3 if ¬ (order ≡ bytes "grevlex") else
    refuse 4 if ¬ Modulus p else
    refuse 5 if ¬ VariableCount n else
    pass

-- A term: 6, 7.
abbrev pub check_term : ℕ → Term → (Option ℕ → Type 0) → Option ℕ → Type 0
check_term p t later =
    refuse 6 if ¬ ((1 ≤ t.0) × (t.0 < p)) else
    refuse 7 if ¬ Each (λ e. e ≤ most_exponent) t.1 else
    later

-- The first term of a line: 6, 7, 9.
abbrev pub check_first : ℕ → Term → (Option ℕ → Type 0) → Option ℕ → Type 0
check_first p t later =
    check_term p t (
    refuse 9 if ¬ (t.0 ≡ 1) else
    later)

-- The j-th term of a line, after the term `before`: 10, 6, 7, 8.
abbrev pub check_next : (p n j : ℕ) → Term → Term → (Option ℕ → Type 0) → Option ℕ → Type 0
check_next p n j before t later =
    refuse 10 if most_terms < j else
    check_term p t (
    refuse 8 if ¬ Grevlex n (as_row n t.1) (as_row n before.1) else
    later)

-- The terms after `before`, the first of which is the j-th of the line.
abbrev pub check_terms : (p n j : ℕ) → Term → List Term → Option ℕ → Type 0
check_terms p n j before [] = pass
check_terms p n j before (t ∷ ts) = check_next p n j before t (check_terms p n (suc j) t ts)

-- The k-th poly line: 10, then its terms. A line without terms is not of the form.
abbrev pub check_generator : (p n k : ℕ) → List Term → Option ℕ → Type 0
check_generator p n k [] = λ o. o ≡ some 2
check_generator p n k (t ∷ ts) =
    refuse 10 if most_lines < k else
    check_first p t (
    check_terms p n 2 t ts)

-- The end line after k poly lines: 11.
abbrev pub check_end : (k count : ℕ) → Option ℕ → Type 0
check_end k count =
    refuse 11 if ¬ (count ≡ k) else
    pass

-- The line l stands at the front of s, of the form, with its LF; the bytes after it are `rest`.
pub record Front (n : ℕ) (s : Bytes) (l : TextLine) (rest : Bytes) : Type 0 where
  pub form : Form n l
  pub stands : s ≡ printed l ++ rest

-- The kinds of line that come after the basis line: poly lines and the end line.
abbrev pub Later : TextLine → Type 0
Later (header order p n) = ⊥
Later (generator terms) = Unit
Later (standard monomials) = ⊥
Later (points count) = ⊥
Later (end count) = Unit

-- The number of the line that comes after the basis line and the poly lines `got`.
abbrev pub line_after : List (List Term) → ℕ
line_after got = 2 + length got

-- o is the outcome of the lines s that come after the basis line and the poly lines `got`, in turn: its form (2), then the checks of its kind.
pub data Remaining (p n : ℕ) (o : Judged Basis) : List (List Term) → Bytes → Type 0 where
  malformed : {got : List (List Term)} {s : Bytes} → ((l : TextLine) (rest : Bytes) → Later l → ¬ Front n s l rest) → o ≡ refused 2 (line_after got) → Remaining p n o got s
  generator_refused : {got : List (List Term)} {s : Bytes} {terms : List Term} {rest : Bytes} (number : ℕ) → Front n s (generator terms) rest
      → check_generator p n (suc (length got)) terms (some number) → o ≡ refused number (line_after got) → Remaining p n o got s
  generator_passed : {got : List (List Term)} {s : Bytes} {terms : List Term} {rest : Bytes} → Front n s (generator terms) rest
      → check_generator p n (suc (length got)) terms none → Remaining p n o (got ++ (terms ∷ [])) rest → Remaining p n o got s
  end_refused : {got : List (List Term)} {s : Bytes} {count : ℕ} {rest : Bytes} (number : ℕ) → Front n s (end count) rest
      → check_end (length got) count (some number) → o ≡ refused number (line_after got) → Remaining p n o got s
  after_end : {got : List (List Term)} {s : Bytes} {count : ℕ} {rest : Bytes} → Front n s (end count) rest
      → check_end (length got) count none → ¬ (rest ≡ []) → o ≡ refused 2 (suc (line_after got)) → Remaining p n o got s
  complete : {got : List (List Term)} {s : Bytes} {count : ℕ} → Front n s (end count) [] → check_end (length got) count none
      → o ≡ passed (record { p = p; n = n; generators = got }) → Remaining p n o got s

-- o is the outcome of the text s: its basis line, and the lines after it.
pub data Checked (s : Bytes) (o : Judged Basis) : Type 0 where
  malformed_header : ((order : Bytes) (p n : ℕ) (rest : Bytes) → ¬ Front n s (header order p n) rest) → o ≡ refused 2 1 → Checked s o
  header_refused : {order : Bytes} {p n : ℕ} {rest : Bytes} (number : ℕ) → Front n s (header order p n) rest → check_header order p n (some number) → o ≡ refused number 1 → Checked s o
  header_passed : {order : Bytes} {p n : ℕ} {rest : Bytes} → Front n s (header order p n) rest → check_header order p n none → Remaining p n o [] rest → Checked s o
