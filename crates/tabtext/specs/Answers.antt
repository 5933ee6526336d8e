-- Inner contracts. What the readers' answers say of a text s, read at the place `at`.
--   Reading reader s at v i    the reader reads v, and the text goes on at i
--   DigitSays s i r            the answer whether a digit stands at the place
--   NumberSays reader s at r   the answer of a reader of numbers
--   NextSays reader s at r     the answer of a reader that keeps nothing but the place after what it read
--   RowSays n sep s at r       the answer of the reader of exponents: the first n numbers of the row; those past n are free
--   TermSays n s at r          the answer of the term reader: the coefficient and the row; likewise
--   FieldsSay field s at r     the answer of the reader of fields up to LF, by what is said of each
--   WordAt w s at              the word w stands at the place
--   WordSays w s at b          the answer whether it does
--   kind_of at i l             the kind and the data of the line l that stands from `at` up to i, its LF included
--   kind_read s at g           the kind of the line that a reader of lines gives as g, and the place after it
--   read_of k s at g           the answer of a reader of line k that gives g
--   read_at n k s at           the answer of the line reader
use Rattle.std.specs.Prelude.{ℕ, ◌+◌, ◌-◌, ◌≤◌, ◌<◌, ◌≡◌, List, Bool, true, false, Option, Some, None, length, take, drop}
use Rattle.lists.specs.Lists.{Bytes}
use Rattle.tabtext.specs.Text.{TextLine, header, generator, standard, points, end}
use Rattle.tabtext.specs.Readers.{Got, got, bad, Reader, digit, starts_with, read_byte, read_row, read_term, read_word, read_line}
use Rattle.tabtext.specs.declared.terms.RawTerm.{RawTerm}
use Rattle.tabtext.specs.declared.record.Kind.{Kind}
use Rattle.tabtext.specs.declared.record.Kind.TheVariants as kind-variants
use Rattle.tabtext.specs.declared.record.Record.{Record}

-- A value v stands at the place, and the text goes on at i.
pub record Reading {A : Type 0} (reader : Reader A) (s : Bytes) (at : ℕ) (v : A) (i : ℕ) : Type 0 where
  pub reads : reader (drop at s) ≡ got v (drop i s)
  pub after : at < i
  pub inside : i ≤ length s

-- A digit stands at the place, of value d, or none does.
abbrev pub DigitSays : Bytes → ℕ → Option ℕ → Type 0
DigitSays s i (Some d) = (d ≡ digit (drop i s)) × (d ≤ 9)
DigitSays s i None = 9 < digit (drop i s)

-- A number stands at the place, or none does.
abbrev pub NumberSays : Reader ℕ → Bytes → ℕ → Option (ℕ × ℕ) → Type 0
NumberSays reader s at (Some (v, i)) = Reading reader s at v i
NumberSays reader s at None = reader (drop at s) ≡ bad

-- A value stands at the place, or none does.
abbrev pub NextSays : {A : Type 0} → Reader A → Bytes → ℕ → Option ℕ → Type 0
NextSays {A} reader s at (Some i) = (v : A) × Reading reader s at v i
NextSays reader s at None = reader (drop at s) ≡ bad

-- A separator and n numbers stand at the place: the first n of the row.
abbrev pub RowSays : ℕ → ℕ → Bytes → ℕ → Option (List ℕ × ℕ) → Type 0
RowSays n sep s at (Some (row, i)) = Reading (read_row n sep) s at (take n row) i
RowSays n sep s at None = read_row n sep (drop at s) ≡ bad

-- A term stands at the place: its coefficient, and the first n of the row.
abbrev pub TermSays : ℕ → Bytes → ℕ → Option (RawTerm × ℕ) → Type 0
TermSays n s at (Some (t, i)) = Reading (read_term n) s at (t.coefficient, take n t.row) i
TermSays n s at None = read_term n (drop at s) ≡ bad

-- Fields stand from the place on up to LF, each with a tab before it, where `field` says of a place what stands there.
pub data FieldsSay (field : ℕ → Option ℕ → Type 0) (s : Bytes) : ℕ → Option ℕ → Type 0 where
  stops : {i : ℕ} {r : Option ℕ} → starts_with 9 (drop i s) ≡ false → NextSays (read_byte 10) s i r → FieldsSay field s i r
  fails : {i : ℕ} → starts_with 9 (drop i s) ≡ true → field i None → FieldsSay field s i None
  goes-on : {i j : ℕ} {r : Option ℕ} → starts_with 9 (drop i s) ≡ true → field i (Some j) → FieldsSay field s j r → FieldsSay field s i r

-- The word w stands at the place.
pub record WordAt (w s : Bytes) (at : ℕ) : Type 0 where
  pub reads : read_word w (drop at s) ≡ got tt (drop (at + length w) s)
  pub inside : at + length w ≤ length s

-- It stands there, or it is not read.
abbrev pub WordSays : Bytes → Bytes → ℕ → Bool → Type 0
WordSays w s at true = WordAt w s at
WordSays w s at false = read_word w (drop at s) ≡ bad

-- The kind and the data of the line l that stands from `at` up to i, its LF included. A span starts after the first word and ends at LF.
abbrev pub kind_of : ℕ → ℕ → TextLine → Kind
kind_of at i (header order p n) = kind-variants.Header (record { order = record { start = at + 6; end = at + 6 + length order }; p = p; n = n })
kind_of at i (generator terms) = kind-variants.Generator (record { start = at + 4; end = i - 1 })
kind_of at i (standard monomials) = kind-variants.Standard (record { start = at + 6; end = i - 1 })
kind_of at i (points count) = kind-variants.Points count
kind_of at i (end count) = kind-variants.End count

-- A line stands at the place, and the text goes on after its LF; or no line of the form does.
abbrev pub kind_read : Bytes → ℕ → Got TextLine → Option (Kind × ℕ)
kind_read s at (got l rest) = Some (kind_of at (length s - length rest) l, length s - length rest)
kind_read s at bad = None

-- The same of line k.
abbrev pub read_of : ℕ → Bytes → ℕ → Got TextLine → Option (Record × ℕ)
read_of k s at (got l rest) = Some (record { line = k; kind = kind_of at (length s - length rest) l }, length s - length rest)
read_of k s at bad = None

-- The same of the line reader.
abbrev pub read_at : ℕ → ℕ → Bytes → ℕ → Option (Record × ℕ)
read_at n k s at = read_of k s at (read_line n (drop at s))
