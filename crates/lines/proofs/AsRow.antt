-- Lists of numbers as rows of exponents.
--   exponent-as_row      in the row of a list, the exponent of variable i is what stands at place i
--   exponent-take        so it is in the row of a list's first n numbers
--   as_row-exponents     the exponents of a monomial, as a row, are the row that it holds
--   exponents-monomial   the exponents of the value with n exponents are these
--   padded-monomial      its places from n on are 0
use mathlib.Core.Path.{◌≡◌, refl, ap, ◌∙◌}
use mathlib.Core.List.{List, [], ◌∷◌, ◌++◌, map}
use Prim.Native.Nat.{ℕ, zero, suc, ◌<◌}
use native.Mathlib.Omega.{arith}
use lib.ListN.{length, get_or, take}
use Rattle.monomial.specs.Rows.{Row, exponent}
use Rattle.monomial.specs.Represented.{row, exponent_list, monomial}
use Rattle.monomial.specs.Represented as represented
use Rattle.monomial.specs.declared.Exponent.{Exponent}
use Rattle.monomial.specs.declared.Monomial.{Monomial}
use Rattle.monomial.proofs.Places.{row-monomial}
use Rattle.lines.specs.LineTerms.{exponents_of}
use Rattle.lines.specs.Terms.{as_row}
use Rattle.lines.specs.Bases.{Padded}

-- Past the list's end both are 0.
pub exponent-as_row : (n i : ℕ) (l : List ℕ) → i < n → exponent n (as_row n l) i ≡ get_or l i 0
unfolding exponent as_row
exponent-as_row zero i l h = absurd (omega arith)
exponent-as_row (suc n) zero [] h = refl
exponent-as_row (suc n) zero (x ∷ l) h = refl
exponent-as_row (suc n) (suc i) [] h = exponent-as_row n i [] (omega arith)
exponent-as_row (suc n) (suc i) (x ∷ l) h = exponent-as_row n i l (omega arith)

-- The first n numbers are those that count.
as_row-take : (n : ℕ) (l : List ℕ) → as_row n (take n l) ≡ as_row n l
unfolding as_row
as_row-take zero l = refl
as_row-take (suc n) [] = refl
as_row-take (suc n) (x ∷ l) = λ k. (x, as_row-take n l k)

pub exponent-take : (n i : ℕ) (l : List ℕ) → i < n → exponent n (as_row n (take n l)) i ≡ get_or l i 0
exponent-take n i l h = rw as_row-take (exponent-as_row n i l h)

as_row-map : (n : ℕ) (l : List Exponent) → as_row n (map (λ (x : Exponent). x.0) l) ≡ represented.row_of n l
unfolding as_row represented.row_of
as_row-map zero l = refl
as_row-map (suc n) [] = λ k. (0, as_row-map n [] k)
as_row-map (suc n) (x ∷ l) = λ k. (x.0, as_row-map n l k)

pub as_row-exponents : (n : ℕ) (m : Monomial) → as_row n (exponents_of n m) ≡ row n m
unfolding exponents_of row
as_row-exponents n m = as_row-take n _ ∙ as_row-map n m.e

-- The same whatever stands after the exponents.
take-exponents : (n : ℕ) (l : List ℕ) (r : List Exponent) → length l ≡ n → take n (map (λ (x : Exponent). x.0) (exponent_list n (as_row n l) ++ r)) ≡ l
unfolding as_row exponent_list
take-exponents zero [] r h = refl
take-exponents zero (x ∷ l) r h = absurd (omega arith)
take-exponents (suc n) [] r h = absurd (omega arith)
take-exponents (suc n) (x ∷ l) r h = ap (λ z. x ∷ z) (take-exponents n l r (omega arith))

pub exponents-monomial : (n : ℕ) (l : List ℕ) → length l ≡ n → exponents_of n (monomial n (as_row n l)) ≡ l
unfolding exponents_of monomial
exponents-monomial n l h = take-exponents n l _ h

pub padded-monomial : (n : ℕ) (a : Row n) {m : Monomial} → m ≡ monomial n a → Padded n m
padded-monomial n a e = rw (e, row-monomial)
