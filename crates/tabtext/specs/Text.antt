-- Believed. The tab text: five line kinds and their bytes (document 01, "The tab text").
--   TextLine                   a line: header, generator, standard, points or end
--   bytes w                    the bytes of a quoted word
--   digits f v, decimal v      at most f decimal digits of v; all of them
--   part sep fs                fields parted by one separator
--   dotted e, term t           n exponents parted by dots; coefficient:exponents
--   fields l, line l           the fields of a line; the line without its LF
--   printed l                  the line with its LF
--   text ls                    lines, each ended by LF
--   Number v, Exponents n e    the numbers of 1 to 5 digits; n of them
--   Form n l                   the form of a line in n variables
use Rattle.std.specs.Prelude.{ℕ, zero, suc, ◌+◌, ◌/◌, ◌%◌, ◌≤◌, ◌<◌, ◌≡◌, List, [], ◌∷◌, ◌++◌, map, true, false, ltb, length}
use Prim.Native.Char.{code}
use Prim.Native.String.{String, [] as nothing, ◌∷◌ as ◌then◌}
use Rattle.lists.specs.Lists.{Bytes, Each}
use Rattle.lines.specs.Terms.{Term}

-- The bytes of a quoted word.
unfoldable pub bytes : String → Bytes
bytes nothing = []
bytes (c then s) = code c ∷ bytes s

-- The five kinds: basis, poly, stairs, runs, end.
pub data TextLine : Type 0 where
  header : (order : Bytes) (p n : ℕ) → TextLine
  generator : (terms : List Term) → TextLine
  standard : (monomials : List (List ℕ)) → TextLine
  points : (count : ℕ) → TextLine
  end : (count : ℕ) → TextLine

-- The decimal digits of v, at most f of them: the last one after those of its tenth.
unfoldable pub digits : ℕ → ℕ → Bytes
digits zero v = []
digits (suc f) v = elim (ltb v 10) [ true ↦ (48 + v) ∷ [] | false ↦ digits f (v / 10) ++ ((48 + v % 10) ∷ []) ]

-- v in decimal, with no leading zero.
unfoldable pub decimal : ℕ → Bytes
unfolding digits
decimal v = digits (suc v) v

-- Fields, parted by one separator.
unfoldable pub part : ℕ → List Bytes → Bytes
part sep [] = []
part sep (f ∷ []) = f
part sep (f ∷ g ∷ fs) = f ++ (sep ∷ part sep (g ∷ fs))

-- Exponents, parted by dots.
unfoldable pub dotted : List ℕ → Bytes
unfolding decimal part
dotted e = part 46 (map decimal e)

-- coefficient:exponents
unfoldable pub term : Term → Bytes
unfolding decimal dotted
term t = decimal t.0 ++ (58 ∷ dotted t.1)

-- The table of line fields (document 01).
unfoldable pub fields : TextLine → List Bytes
unfolding bytes decimal dotted term
fields (header order p n) = bytes "basis" ∷ order ∷ decimal p ∷ decimal n ∷ []
fields (generator terms) = bytes "poly" ∷ map term terms
fields (standard monomials) = bytes "stairs" ∷ map dotted monomials
fields (points count) = bytes "runs" ∷ decimal count ∷ []
fields (end count) = bytes "end" ∷ decimal count ∷ []

-- A line without its LF: its fields, parted by one tab.
unfoldable pub line : TextLine → Bytes
unfolding fields part
line l = part 9 (fields l)

-- A line with its LF.
unfoldable pub printed : TextLine → Bytes
unfolding line
printed l = line l ++ (10 ∷ [])

-- Lines, each ended by LF.
unfoldable pub text : List TextLine → Bytes
unfolding line
text [] = []
text (l ∷ ls) = line l ++ (10 ∷ text ls)

-- A number of 1 to 5 digits.
abbrev pub Number : ℕ → Type 0
Number v = v < 100000

-- n exponents.
abbrev pub Exponents : ℕ → List ℕ → Type 0
Exponents n e = (length e ≡ n) × Each Number e

-- The form of a line in n variables: an order word of 1 to 8 letters a to z, numbers of 1 to 5 digits, one or more terms, n exponents.
abbrev pub Form : ℕ → TextLine → Type 0
Form n (header order p m) = (1 ≤ length order) × (length order ≤ 8) × Each (λ b. (97 ≤ b) × (b ≤ 122)) order × Number p × Number m
Form n (generator terms) = (1 ≤ length terms) × Each (λ t. Number t.0 × Exponents n t.1) terms
Form n (standard monomials) = Each (Exponents n) monomials
Form n (points count) = Number count
Form n (end count) = Number count
