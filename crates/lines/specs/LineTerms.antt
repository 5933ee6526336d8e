-- Inner contracts. The terms of lines of the code.
--   exponents_of n m      the exponents of a monomial in n variables
--   term_of n t           a term of a line, as numbers
--   terms_in n g          the terms of a line of a basis
--   terms_of_lines n ls   those of each line of a list
--   no_term               what stands past the end of a line
--   coefficient_at g k    the coefficient of term k of a line, from 0
--   monomial_at g k       its monomial
--   Monic ts              the first coefficient of a poly line is 1
use Rattle.std.specs.Prelude.{ℕ, List, [], ◌∷◌, map, ◌≡◌, take, get_or}
use Rattle.arrayvec.specs.ArrayVec.{ArrayVec}
use Rattle.monomial.specs.Sizes.{most_variables}
use Rattle.monomial.specs.Rows.{one}
use Rattle.monomial.specs.Represented.{monomial}
use Rattle.monomial.specs.declared.Exponent.{Exponent}
use Rattle.monomial.specs.declared.Monomial.{Monomial}
use Rattle.lines.specs.Terms.{Term}
use Rattle.lines.specs.declared.line.LineTerm.{LineTerm}

-- The first n exponents of a monomial, as numbers.
unfoldable pub exponents_of : ℕ → Monomial → List ℕ
exponents_of n m = take n (map (λ (x : Exponent). x.0) m.e)

-- A term of a line, as numbers.
unfoldable pub term_of : ℕ → LineTerm → Term
unfolding exponents_of
term_of n t = (t.coefficient.0, exponents_of n t.monomial)

-- The terms of a line of a basis.
unfoldable pub terms_in : ℕ → List LineTerm → List Term
unfolding term_of
terms_in n g = map (term_of n) g

-- Those of each line of a list.
unfoldable pub terms_of_lines : ℕ → List (ArrayVec LineTerm) → List (List Term)
unfolding terms_in
terms_of_lines n ls = map (λ g. terms_in n g.items) ls

-- What stands past the end of a line: 0, and the monomial 1.
unfoldable pub no_term : LineTerm
unfolding monomial one
no_term = record { coefficient = record { 0 = 0 }; monomial = monomial most_variables (one most_variables) }

-- The coefficient of term k of a line, from 0.
unfoldable pub coefficient_at : List LineTerm → ℕ → ℕ
unfolding no_term
coefficient_at g k = (get_or g k no_term).coefficient.0

-- Its monomial.
unfoldable pub monomial_at : List LineTerm → ℕ → Monomial
unfolding no_term
monomial_at g k = (get_or g k no_term).monomial

-- The first coefficient is 1, as 9 asks.
abbrev pub Monic : List Term → Type 0
Monic [] = ⊥
Monic (t ∷ ts) = t.0 ≡ 1
