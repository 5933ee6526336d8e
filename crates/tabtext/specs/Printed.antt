-- Inner contracts. The lines that values of the code are printed as.
--   generator_line n g     the line of a basis
--   standard_line n ms     monomials, as a line
--   count_line w v         the word w and the number v, with LF: a runs line or an end line
--   fields_line show w l   the word w and the fields of the elements, with LF
--   Shown A                the field of an element, and the largest number of its bytes
--   PrintsFields           a printer puts the field of an element wherever there is room for it, and there is room for a line of fields
use Rattle.std.specs.Prelude.{ℕ, ◌≤◌, ◌≡◌, List, [], ◌∷◌, ◌++◌, map, length}
use Rattle.std.specs.Borrow.{Bor, MutBor}
use Rattle.lists.specs.Lists.{Bytes}
use Rattle.monomial.specs.declared.Monomial.{Monomial}
use Rattle.lines.specs.LineTerms.{exponents_of, terms_in}
use Rattle.lines.specs.declared.line.LineTerm.{LineTerm}
use Rattle.tabtext.specs.Text.{TextLine, generator, standard, part, decimal}
unfoldable pub use Rattle.tabtext.specs.Text.{printed}

-- The line of a basis.
unfoldable pub generator_line : ℕ → List LineTerm → TextLine
unfolding terms_in
generator_line n g = generator (terms_in n g)

-- The line of monomials.
unfoldable pub standard_line : ℕ → List Monomial → TextLine
unfolding exponents_of
standard_line n ms = standard (map (exponents_of n) ms)

-- A word and a number, with LF.
unfoldable pub count_line : Bytes → ℕ → Bytes
unfolding decimal
count_line w v = w ++ (9 ∷ decimal v ++ (10 ∷ []))

-- A word and the fields of elements, with LF.
unfoldable pub fields_line : {A : Type 0} → (A → Bytes) → Bytes → List A → Bytes
unfolding part
fields_line show w l = part 9 (w ∷ map show l) ++ (10 ∷ [])

-- The field of an element, and the largest number of its bytes.
pub record Shown (A : Type 0) : Type 0 where
  pub bytes : A → Bytes
  pub most : ℕ

-- A printer, which may be called as `pre` says and does what `post` says, puts the field of an element wherever there is room for it; and `was` has room for
-- the line of the word and the elements.
pub record PrintsFields {S A : Type 0} (takes : S → ℕ → Type 0) (after : S → Bytes → S) (pre : MutBor S → Bor A → Type 0) (post : MutBor S → Bor A → MutBor S → Type 0)
    (f : Shown A) (was : S) (w : Bytes) (l : List A) : Type 0 where
  pub asks : (s : MutBor S) (x : Bor A) → takes s.now (length (f.bytes x.now)) → pre s x
  pub puts : (s : MutBor S) (x : Bor A) (r : MutBor S) → post s x r → (r.now ≡ after s.now (f.bytes x.now)) × (length (f.bytes x.now) ≤ f.most)
  pub room : takes was (length (fields_line f.bytes w l))
