-- What is printed, as its first part and then each later field with the separator before it.
--   StandsAt l j x      x stands at place j of the list
--   stands_at           what a list has at a place stands there
--   after_more          the field at a place, and those after it
--   after-width         their number of bytes
--   after_none          past the last field nothing is left
--   fields_from         the fields from a place on, each with the separator before it, and what comes after them
--   fields_more         the field at a place, and the later ones
--   fields_none         past the last field, what comes after them
--   exponents-none      a row without exponents
--   exponents-after     a row of exponents
--   term-parts          a term: its coefficient, a colon and its exponents
--   fields-after        a word and the fields of elements
--   generator-fields    the line of a basis is such a line
--   standard-fields     so is the line of monomials
--   generator-after     a poly line
--   standard-after      a stairs line
--   header-after        a basis line
--   counted-parts       a word, a tab, a number and LF
--   points-counted      a runs line
--   end-counted         an end line
use Prim.Native.Nat.{ℕ, suc, ◌+◌, ◌≤◌, ◌<◌}
use mathlib.Core.Path.{◌≡◌, refl, ap, ◌∙◌}
use mathlib.Core.List.{List, [], ◌∷◌, ◌++◌, map, map-map, append_assoc, append-nil}
use native.Mathlib.Numerals.{add-one}
use lib.ListN.{length, get_or, drop, length-append, drop_of_length-le}
use lib.Seq.{drop-cons}
use Rattle.lists.specs.Lists.{Bytes}
use Rattle.lines.specs.Terms.{Term}
use Rattle.lines.specs.LineTerms.{exponents_of, term_of, terms_in}
use Rattle.lines.specs.declared.line.LineTerm.{LineTerm}
use Rattle.monomial.specs.declared.Monomial.{Monomial}
use Rattle.tabtext.specs.Text.{bytes, header, generator, standard, points, end, decimal, part, dotted, term, fields, line}
use Rattle.tabtext.specs.Printed.{printed, generator_line, standard_line, count_line, fields_line}
use Rattle.tabtext.proofs.Parted.{each_after, part-after}
use Rattle.tabtext.proofs.LineTexts.{fields-text, header-text, generator-text, standard-text}

-- x stands at place j of the list.
abbrev pub StandsAt : {A : Type 0} → List A → ℕ → A → Type 0
StandsAt l j x = drop j l ≡ x ∷ drop (j + 1) l

pub stands_at : {A : Type 0} (l : List A) (j : ℕ) (x d : A) → x ≡ get_or l j d → j < length l → StandsAt l j x
stands_at l j x d e h = rw (drop-cons l j d, add-one, e)

module _ {A : Type 0} (show : A → Bytes) (sep : ℕ) (l : List A) (j : ℕ) where
  pub after_more : (x : A) → StandsAt l j x → each_after sep (map show (drop j l)) ≡ (sep ∷ show x) ++ each_after sep (map show (drop (j + 1) l))
  unfolding each_after
  after_more x s = rw s

  pub after-width : (x : A) → StandsAt l j x →
      length (each_after sep (map show (drop j l))) ≡ suc (length (show x)) + length (each_after sep (map show (drop (j + 1) l)))
  after-width x s = ap length (after_more x s) ∙ length-append (sep ∷ show x) (each_after sep (map show (drop (j + 1) l)))

  pub after_none : length l ≤ j → each_after sep (map show (drop j l)) ≡ []
  unfolding each_after
  after_none h = rw (drop_of_length-le l h)

-- The fields from place j on, each with the separator before it, and what comes after them.
abbrev pub fields_from : {A : Type 0} → (A → Bytes) → ℕ → List A → Bytes → ℕ → Bytes
fields_from show sep l more j = each_after sep (map show (drop j l)) ++ more

module _ {A : Type 0} (show : A → Bytes) (sep : ℕ) (l : List A) (more : Bytes) (j : ℕ) where
  pub fields_more : (x : A) → StandsAt l j x → fields_from show sep l more j ≡ sep ∷ (show x ++ fields_from show sep l more (j + 1))
  fields_more x s = rw (after_more show sep l j x s, append_assoc)

  pub fields_none : length l ≤ j → fields_from show sep l more j ≡ more
  fields_none h = rw (after_none show sep l j h)

pub exponents-none : dotted [] ≡ []
unfolding dotted
exponents-none = refl

pub exponents-after : (e : List ℕ) (x : ℕ) → StandsAt e 0 x → dotted e ≡ decimal x ++ fields_from decimal 46 e [] 1
unfolding dotted
exponents-after e x s = ap dotted s ∙ part-after 46 (decimal x) (map decimal (drop 1 e)) ∙ rw append-nil

pub term-parts : (c : ℕ) (e : List ℕ) → term (c, e) ≡ decimal c ++ (58 ∷ dotted e)
unfolding term
term-parts c e = refl

pub fields-after : {A : Type 0} (show : A → Bytes) (w : Bytes) (l : List A) → fields_line show w l ≡ w ++ fields_from show 9 l (10 ∷ []) 0
unfolding fields_line
fields-after show w l = fields-text w (map show l) []

pub generator-fields : (n : ℕ) (g : List LineTerm) → printed (generator_line n g) ≡ fields_line (λ t. term (t.coefficient.0, exponents_of n t.monomial)) (bytes "poly") g
unfolding generator_line printed line fields terms_in term_of fields_line
generator-fields n g = ap (λ fs. part 9 (bytes "poly" ∷ fs) ++ (10 ∷ [])) (map-map term (term_of n) g)

pub standard-fields : (n : ℕ) (ms : List Monomial) → printed (standard_line n ms) ≡ fields_line (λ m. dotted (exponents_of n m)) (bytes "stairs") ms
unfolding standard_line printed line fields fields_line
standard-fields n ms = ap (λ fs. part 9 (bytes "stairs" ∷ fs) ++ (10 ∷ [])) (map-map dotted (exponents_of n) ms)

pub generator-after : (ts : List Term) → printed (generator ts) ≡ bytes "poly" ++ fields_from term 9 ts (10 ∷ []) 0
unfolding printed
generator-after ts = generator-text [] ts

pub standard-after : (ms : List (List ℕ)) → printed (standard ms) ≡ bytes "stairs" ++ fields_from dotted 9 ms (10 ∷ []) 0
unfolding printed
standard-after ms = standard-text [] ms

pub header-after : (w : Bytes) (p n : ℕ) → printed (header w p n) ≡ bytes "basis\t" ++ (w ++ (9 ∷ decimal p ++ (9 ∷ decimal n ++ (10 ∷ []))))
unfolding printed
header-after w p n = header-text [] w p n

pub counted-parts : (w : Bytes) (v : ℕ) → count_line w v ≡ w ++ ((9 ∷ decimal v) ++ (10 ∷ []))
unfolding count_line
counted-parts w v = refl

pub points-counted : (v : ℕ) → printed (points v) ≡ count_line (bytes "runs") v
unfolding printed count_line
points-counted v = refl

pub end-counted : (v : ℕ) → printed (end v) ≡ count_line (bytes "end") v
unfolding printed count_line
end-counted v = refl
