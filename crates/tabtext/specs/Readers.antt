-- Inner contracts. Readers: what stands at the front of a list of bytes, and the bytes after it.
--   Got A, Reader A      a value and the bytes after it, or bad; a reader of such values
--   pure, ◌>>=◌, ◌>>◌    a value and no byte; one reader after another
--   ◌or◌                 the second reader where the first is bad
--   first s              the first byte
--   starts_with b s      whether the byte b stands first
--   read_byte b          the byte b
--   digit s              the first byte's value as a digit
--   more_digits k v      at most k digits more
--   read_number          a number of 1 to 5 digits with no leading zero
--   read_field sep       a separator and a number
--   read_exponent j      an exponent that stands after j others
--   more_exponents n e   n exponents more
--   read_row n sep       a separator and n exponents
--   read_term n          a coefficient and n exponents
--   more_fields f one l  fields more, up to LF
--   read_fields one    fields, each with the tab before it, up to LF
--   read_terms n       terms up to LF
--   read_rows n        rows of n exponents up to LF
--   read_word w        the word w
--   letter s           whether a letter a to z stands first
--   more_letters k w   at most k letters more
--   read_order         an order word
--   read_last          the last field of a line, a number, and LF
--   tab_ahead          a tab stands next
--   read_header        a basis line
--   read_generator n   a poly line
--   read_standard n    a stairs line
--   read_points        a runs line
--   read_end           an end line
--   read_line n        a line in n variables, with its LF
use Rattle.std.specs.Prelude.{ℕ, zero, suc, ◌+◌, ◌-◌, ◌*◌, List, [], ◌∷◌, ◌++◌, Bool, true, false, leb, eqb, drop, length}
use Rattle.lists.specs.Lists.{Bytes}
use Rattle.lines.specs.Terms.{Term}
use Rattle.tabtext.specs.Text.{bytes, TextLine, header, generator, standard, points, end}

infixl 20 ◌>>=◌
infixl 20 ◌>>◌
infixl 15 ◌or◌
-- A value and the bytes after it, or no value of the form.
pub data Got (A : Type 0) : Type 0 where
  got : A → Bytes → Got A
  bad : Got A

abbrev pub Reader : Type 0 → Type 0
Reader A = Bytes → Got A

-- A value, with no byte read.
unfoldable pub pure : {A : Type 0} → A → Reader A
pure a s = got a s

-- One reader after another.
unfoldable pub ◌>>=◌ : {A B : Type 0} → Reader A → (A → Reader B) → Reader B
◌>>=◌ r next s = elim (r s) [ got a rest ↦ next a rest | bad ↦ bad ]

unfoldable pub ◌>>◌ : {A B : Type 0} → Reader A → Reader B → Reader B
r >> next = r >>= (λ _. next)

-- The second reader where the first is bad.
unfoldable pub ◌or◌ : {A : Type 0} → Reader A → Reader A → Reader A
◌or◌ r other s = elim (r s) [ got a rest ↦ got a rest | bad ↦ other s ]

-- The first byte, and 0 where there is none.
unfoldable pub first : Bytes → ℕ
first [] = 0
first (b ∷ s) = b

-- Whether the byte b stands first.
unfoldable pub starts_with : ℕ → Bytes → Bool
starts_with b [] = false
starts_with b (a ∷ s) = eqb a b

-- The byte b.
unfoldable pub read_byte : ℕ → Reader Unit
read_byte b s = elim (starts_with b s) [ true ↦ got tt (drop 1 s) | false ↦ bad ]

-- The first byte's value as a digit; 10 where it is none.
unfoldable pub digit : Bytes → ℕ
digit s = elim (leb 48 (first s)) [ true ↦ elim (leb (first s) 57) [ true ↦ first s - 48 | false ↦ 10 ] | false ↦ 10 ]

-- At most k digits more, after digits of value v.
unfoldable pub more_digits : ℕ → ℕ → Reader ℕ
more_digits zero v s = got v s
more_digits (suc k) v s = elim (leb (digit s) 9) [ true ↦ more_digits k (v * 10 + digit s) (drop 1 s) | false ↦ got v s ]

-- 0 alone, or a first digit that is not 0 and at most four more.
unfoldable pub read_number : Reader ℕ
read_number s = elim (leb (digit s) 9) [ true ↦ elim (eqb (digit s) 0) [ true ↦ got 0 (drop 1 s) | false ↦ more_digits 4 (digit s) (drop 1 s) ] | false ↦ bad ]

-- A separator and a number.
unfoldable pub read_field : ℕ → Reader ℕ
read_field sep = do
  read_byte sep
  read_number

-- An exponent that stands after j others: the first one alone, a later one after a dot.
unfoldable pub read_exponent : ℕ → Reader ℕ
read_exponent zero = read_number
read_exponent (suc j) = read_field 46

-- n exponents more, after those of e, parted by dots.
unfoldable pub more_exponents : ℕ → List ℕ → Reader (List ℕ)
more_exponents zero e = pure e
more_exponents (suc n) e = do
  v ← read_exponent (length e)
  more_exponents n (e ++ (v ∷ []))

-- A separator and n exponents.
unfoldable pub read_row : ℕ → ℕ → Reader (List ℕ)
read_row n sep = do
  read_byte sep
  more_exponents n []

-- A coefficient, and n exponents after a colon.
unfoldable pub read_term : ℕ → Reader Term
read_term n = do
  c ← read_number
  e ← read_row n 58
  pure (c, e)

-- Fields after those of l, each with the tab before it, up to LF. (f bounds their number.)
unfoldable pub more_fields : {A : Type 0} → ℕ → Reader A → List A → Reader (List A)
more_fields zero one l s = bad
more_fields (suc f) one l s = elim (starts_with 9 s) [
  | true ↦ (one >>= (λ a. more_fields f one (l ++ (a ∷ [])))) s
  | false ↦ (read_byte 10 >> pure l) s
]

-- Fields, up to LF.
unfoldable pub read_fields : {A : Type 0} → Reader A → Reader (List A)
read_fields one s = more_fields (suc (length s)) one [] s

-- Terms, a tab before each, up to LF.
unfoldable pub read_terms : ℕ → Reader (List Term)
read_terms n = read_fields (read_byte 9 >> read_term n)

-- Rows of n exponents, a tab before each, up to LF.
unfoldable pub read_rows : ℕ → Reader (List (List ℕ))
read_rows n = read_fields (read_row n 9)

-- The word w.
unfoldable pub read_word : Bytes → Reader Unit
read_word [] = pure tt
read_word (b ∷ w) = do
  read_byte b
  read_word w

-- Whether a letter a to z stands first.
unfoldable pub letter : Bytes → Bool
letter s = elim (leb 97 (first s)) [ true ↦ leb (first s) 122 | false ↦ false ]

-- At most k letters more, after those of w.
unfoldable pub more_letters : ℕ → Bytes → Reader Bytes
more_letters zero w s = got w s
more_letters (suc k) w s = elim (letter s) [ true ↦ more_letters k (w ++ (first s ∷ [])) (drop 1 s) | false ↦ got w s ]

-- An order word: a letter and at most seven more.
unfoldable pub read_order : Reader Bytes
read_order s = elim (letter s) [ true ↦ more_letters 7 (first s ∷ []) (drop 1 s) | false ↦ bad ]

-- The last field of a line: a tab, a number and LF.
unfoldable pub read_last : Reader ℕ
read_last = do
  v ← read_field 9
  read_byte 10
  pure v

-- A tab stands next; it is not read.
unfoldable pub tab_ahead : Reader Unit
tab_ahead s = elim (starts_with 9 s) [ true ↦ got tt s | false ↦ bad ]

-- The five kinds of line, in n variables, with their LF.
unfoldable pub read_header : Reader TextLine
read_header = do
  read_word (bytes "basis\t")
  order ← read_order
  p ← read_field 9
  n ← read_last
  pure (header order p n)

unfoldable pub read_generator : ℕ → Reader TextLine
read_generator n = do
  read_word (bytes "poly")
  tab_ahead
  terms ← read_terms n
  pure (generator terms)

unfoldable pub read_standard : ℕ → Reader TextLine
read_standard n = do
  read_word (bytes "stairs")
  monomials ← read_rows n
  pure (standard monomials)

unfoldable pub read_points : Reader TextLine
read_points = do
  read_word (bytes "runs")
  count ← read_last
  pure (points count)

unfoldable pub read_end : Reader TextLine
read_end = do
  read_word (bytes "end")
  count ← read_last
  pure (end count)

-- A line in n variables, with its LF. (`unfolding` names all that it computes with.)
unfoldable pub read_line : ℕ → Reader TextLine
unfolding bytes pure ◌>>=◌ ◌>>◌ ◌or◌ first starts_with read_byte digit more_digits read_number read_field read_exponent more_exponents read_row read_term more_fields read_fields read_terms read_rows read_word letter more_letters read_order read_last tab_ahead read_header read_generator read_standard read_points read_end
read_line n = read_header or read_generator n or read_standard n or read_points or read_end
