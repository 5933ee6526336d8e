-- Inner contracts. The row of exponents that a value of the code holds.
--   row_of n l          the first n numbers of a list of exponents
--   row n m             the first n exponents of m
--   exponent_list n a   the exponents of a row, as a list
--   monomial n a        the value with the exponents a, and 0 from place n on
--   most_entry          the largest number that an exponent of the code holds
use Rattle.std.specs.Prelude.{List, [], ◌∷◌, ◌++◌, ℕ, zero, suc, ◌-◌, replicate}
use Rattle.monomial.specs.Sizes.{most_variables}
use Rattle.monomial.specs.Rows.{Row}
use Rattle.monomial.specs.declared.Exponent.{Exponent}
use Rattle.monomial.specs.declared.Monomial.{Monomial}

-- The first n numbers of a list of exponents.
unfoldable pub row_of : (n : ℕ) → List Exponent → Row n
row_of zero l = tt
row_of (suc n) [] = (0, row_of n [])
row_of (suc n) (x ∷ l) = (x.0, row_of n l)

-- The first n exponents of m.
unfoldable pub row : (n : ℕ) → Monomial → Row n
unfolding row_of
row n m = row_of n m.e

-- The exponents of a row.
unfoldable pub exponent_list : (n : ℕ) → Row n → List Exponent
exponent_list zero a = []
exponent_list (suc n) a = record { 0 = a.0 } ∷ exponent_list n a.1

-- The value with the exponents a, and 0 from place n on.
unfoldable pub monomial : (n : ℕ) → Row n → Monomial
unfolding exponent_list
monomial n a = record { e = exponent_list n a ++ replicate (most_variables - n) (record { 0 = 0 }) }

-- What 8 bits hold.
abbrev pub most_entry : ℕ
most_entry = 255
