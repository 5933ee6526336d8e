-- The rows of exponents that lists of monomials hold.
--   no_monomial   a value without exponents, which stands past the end of a list
--   row-empty     a value without exponents holds the monomial 1
--   row-one       so does the monomial 1 in all variables
--   row_at        the monomial of term k of a line, as a row
--   rows-length   a list of monomials has as many rows
--   rows_at       the j-th of them
use mathlib.Core.Path.{◌≡◌, refl, sym, ◌∙◌, ap}
use mathlib.Core.List.{List, [], ◌∷◌, map}
use Prim.Native.Nat.{ℕ, zero, suc}
use lib.ListN.{length, get_or, length-map, get_or-map}
use Rattle.monomial.specs.Sizes.{most_variables}
use Rattle.monomial.specs.Rows.{one}
use Rattle.monomial.specs.Represented.{row_of, row, exponent_list, monomial}
use Rattle.monomial.specs.declared.Monomial.{Monomial}
use Rattle.lines.specs.LineTerms.{no_term, monomial_at}
use Rattle.lines.specs.declared.line.LineTerm.{LineTerm}
use Rattle.staircase.specs.Leads.{rows_of}

-- A value without exponents.
abbrev pub no_monomial : Monomial
no_monomial = record { e = [] }

row-of-empty : (n : ℕ) → row_of n [] ≡ one n
unfolding row_of one
row-of-empty zero = refl
row-of-empty (suc n) = λ i. (0, row-of-empty n i)

pub row-empty : (n : ℕ) → row n no_monomial ≡ one n
unfolding row
row-empty n = row-of-empty n

-- Past the row of 1 the exponents are 0 as well.
row-of-one : (n k : ℕ) → row_of n (exponent_list k (one k)) ≡ one n
unfolding row_of exponent_list one
row-of-one n zero = row-of-empty n
row-of-one zero (suc k) = refl
row-of-one (suc n) (suc k) = λ i. (0, row-of-one n k i)

pub row-one : (n : ℕ) → row n (monomial most_variables (one most_variables)) ≡ one n
unfolding row monomial exponent_list one
row-one n = row-of-one n most_variables

pub row_at : (n : ℕ) (g : List LineTerm) (k : ℕ) → row n (monomial_at g k) ≡ row n (get_or (map (λ (t : LineTerm). t.monomial) g) k no_monomial)
unfolding monomial_at no_term
row_at n g k = go g k
  where
    go : (g : List LineTerm) (k : ℕ) → row n (monomial_at g k) ≡ row n (get_or (map (λ (t : LineTerm). t.monomial) g) k no_monomial)
    go [] k = row-one n ∙ sym (row-empty n)
    go (t ∷ g) zero = refl
    go (t ∷ g) (suc k) = go g k

module _ (n : ℕ) (ms : List Monomial) where
  pub rows-length : length (rows_of n ms) ≡ length ms
  unfolding rows_of
  rows-length = length-map ms (row n)

  pub rows_at : (j : ℕ) → get_or (rows_of n ms) j (one n) ≡ row n (get_or ms j no_monomial)
  unfolding rows_of
  rows_at j = ap (get_or (map (row n) ms) j) (sym (row-empty n)) ∙ get_or-map (row n) ms j no_monomial
