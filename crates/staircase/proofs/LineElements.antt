-- The lines of a basis of the code, by their places.
--   generators-length     there are as many poly lines as lines
--   generator-terms       the poly line at place k has the terms of line k
--   generator-read        a line that is read at a place is line k
--   stored-lines-length   there are as many lines of polynomials
--   line-at               the one at place k is made of the terms of line k
--   terms-length          a line has as many terms, as numbers
--   rows_in n g           the monomials of a line, as rows
--   rows-in-length        there are as many as terms
--   row-in-at             the one at place k
--   line-monomials        they are the monomials of the polynomial that a line with a term makes
--   line-monomials-at     these are the rows of its monomials at the places of its terms
use mathlib.Core.Path.{◌≡◌, refl, sym, ◌∙◌, ap, subst}
use mathlib.Core.List.Memᴰ
use mathlib.Core.List.{List, [], ◌∷◌, map, map-map}
use mathlib.Core.Logic.{◌↔◌}
use Prim.Native.Nat.{ℕ, ◌<◌}
use native.Mathlib.Omega.{arith}
use lib.ListN.{length, get_or, length-map, get_or-map}
use Rattle.std.proofs.lemmas.List.{get_or_default}
use Rattle.arrayvec.specs.ArrayVec.{ArrayVec}
use Rattle.lists.specs.Lists.{◌∈◌}
use Rattle.lists.proofs.Elements.{element-in, place_of}
use Rattle.residue.specs.Field.{modulo}
use Rattle.monomial.specs.Rows.{Row, one}
use Rattle.monomial.specs.Represented.{row}
use Rattle.groebner.specs.Lines.{polynomial}
use Rattle.lines.specs.Terms.{Term, as_row}
use Rattle.lines.specs.LineTerms.{term_of, terms_in, terms_of_lines, no_term, monomial_at}
use Rattle.lines.specs.Bases.{generators_in}
use Rattle.lines.specs.declared.line.LineTerm.{LineTerm}
use Rattle.lines.specs.declared.StoredBasis.{StoredBasis}
use Rattle.lines.proofs.AsRow.{as_row-exponents}
use Rattle.staircase.specs.TermLines.{line_of, lines_of}
use Rattle.staircase.specs.StoredLines.{stored_lines}
use Rattle.staircase.specs.Sound.{generator_at}
use Rattle.staircase.proofs.ArrayRows.{row-one}

module _ (b : StoredBasis) where
  pub generators-length : length (generators_in b) ≡ length b.lines.items
  unfolding generators_in terms_of_lines
  generators-length = length-map b.lines.items (λ (g : ArrayVec LineTerm). terms_in b.n g.items)

  pub generator-terms : (k : ℕ) → get_or (generators_in b) k [] ≡ terms_in b.n (generator_at b k)
  unfolding generators_in terms_of_lines terms_in generator_at
  generator-terms k = get_or-map (λ (g : ArrayVec LineTerm). terms_in b.n g.items) b.lines.items k (record { items = [] })

  pub generator-read : (k : ℕ) {ls : List (ArrayVec LineTerm)} {g : ArrayVec LineTerm} {ts : List LineTerm} → ls ≡ b.lines.items → k < length ls
      → g ≡ get_or ls k g → ts ≡ g.items → ts ≡ generator_at b k
  unfolding generator_at
  generator-read k {ls} {g} same l read is =
      is ∙ ap (λ (x : ArrayVec LineTerm). x.items) (read ∙ get_or_default ls k g (record { items = [] }) (omega (arith, l)))
      ∙ ap (λ (xs : List (ArrayVec LineTerm)). (get_or xs k (record { items = [] })).items) same

  module _ (h : 1 < b.p) where
    pub stored-lines-length : length (stored_lines b h) ≡ length b.lines.items
    unfolding stored_lines lines_of
    stored-lines-length = length-map (generators_in b) (line_of b.p h b.n) ∙ generators-length

    pub line-at : (k : ℕ) → get_or (stored_lines b h) k (one b.n, []) ≡ line_of b.p h b.n (terms_in b.n (generator_at b k))
    unfolding stored_lines lines_of line_of
    line-at k = get_or-map (line_of b.p h b.n) (generators_in b) k [] ∙ ap (line_of b.p h b.n) (generator-terms k)

pub terms-length : (n : ℕ) (g : List LineTerm) → length (terms_in n g) ≡ length g
unfolding terms_in
terms-length n g = length-map g (term_of n)

-- The monomials of a line, as rows.
unfoldable pub rows_in : (n : ℕ) → List LineTerm → List (Row n)
rows_in n g = map (λ (t : LineTerm). row n t.monomial) g

module _ (n : ℕ) (g : List LineTerm) where
  pub rows-in-length : length (rows_in n g) ≡ length g
  unfolding rows_in
  rows-in-length = length-map g (λ (t : LineTerm). row n t.monomial)

  pub row-in-at : (k : ℕ) → get_or (rows_in n g) k (one n) ≡ row n (monomial_at g k)
  unfolding rows_in monomial_at no_term
  row-in-at k = ap (get_or (rows_in n g) k) (sym (row-one n)) ∙ get_or-map (λ (t : LineTerm). row n t.monomial) g k no_term

rows-of-terms : (n : ℕ) (g : List LineTerm) → map (λ (u : Term). as_row n u.1) (terms_in n g) ≡ rows_in n g
unfolding terms_in term_of rows_in
rows-of-terms n [] = refl
rows-of-terms n (t ∷ g) = λ i. as_row-exponents n t.monomial i ∷ rows-of-terms n g i

module _ (p : ℕ) (h : 1 < p) (n : ℕ) where
  monomials-of-terms : (ts : List Term) → 0 < length ts → map (λ t. t.1) (polynomial (modulo p h) (line_of p h n ts)) ≡ map (λ (u : Term). as_row n u.1) ts
  unfolding polynomial line_of
  monomials-of-terms [] l = absurd (omega arith)
  monomials-of-terms (t ∷ ts) l = ap (λ r. as_row n t.1 ∷ r) (map-map _ _ ts)

  module _ (g : List LineTerm) (some : 0 < length g) where
    pub line-monomials : map (λ t. t.1) (polynomial (modulo p h) (line_of p h n (terms_in n g))) ≡ rows_in n g
    line-monomials = monomials-of-terms (terms_in n g) (omega (arith, some, terms-length n g)) ∙ rows-of-terms n g

    pub line-monomials-at : (m : Row n) → m ∈ map (λ t. t.1) (polynomial (modulo p h) (line_of p h n (terms_in n g))) ↔ ((k : ℕ) × (k < length g) × (m ≡ row n (monomial_at g k)))
    line-monomials-at m = (
      λ q.
          let (k, l, e) = place_of (one n) (subst (λ (x : List (Row n)). m ∈ x) line-monomials q) in
          (k, omega (arith, rows-in-length n g), sym e ∙ row-in-at n g k),
      λ (k, l, e). subst (λ (x : List (Row n)). m ∈ x) (sym line-monomials)
          (Memᴰ.cast (e ∙ sym (row-in-at n g k)) (element-in (one n) (rows_in n g) k (omega (arith, rows-in-length n g)))),
    )
