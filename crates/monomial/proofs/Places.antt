-- Arrays of exponents and the rows that they hold.
--   exponent-row       in the row of an array, the exponent of variable i is what stands at place i
--   exponent-front     so it is among the first n places
--   exponents-at       in the array of a row, the exponent of variable i stands at place i
--   exponents-length   the array of a row of n exponents has n places
--   equal-rows         the first exponents of two arrays are equal exactly if their rows are
--   row-monomial       the value with the exponents a holds the row a
--   degree-more        one exponent more is added to the total degree
use mathlib.Core.Path.{◌≡◌, refl, sym, ◌∙◌, ap}
use mathlib.Core.List.{List, [], ◌∷◌, ◌++◌}
use Prim.Native.Nat.{ℕ, zero, suc, ◌+◌, ◌≤◌, ◌<◌}
use mathlib.Core.Bool.{Bool, true}
use mathlib.Core.Logic.{◌↔◌}
use borrow.Author.Tests.{eqb-true, eq-eqb}
use lib.Dec.{eqb}
use lib.Pointwise.{pointwise}
use Rattle.std.proofs.lemmas.Bool.{and_parts}
use native.Mathlib.Numerals.{add-one}
use native.Mathlib.Omega.{arith}
use lib.ListN.{length, get_or, take}
use Rattle.std.proofs.lemmas.List.{get_or-take}
use Rattle.monomial.specs.Rows.{Row, exponent, degree}
use Rattle.monomial.specs.Represented.{row_of, row, exponent_list, monomial}
use Rattle.monomial.specs.declared.Exponent.{Exponent}
use Rattle.monomial.specs.declared.Monomial.{Monomial}

-- Past the array's end both are 0.
pub exponent-row : (n i : ℕ) (l : List Exponent) → i < n → exponent n (row_of n l) i ≡ (get_or l i (record { 0 = 0 })).0
unfolding exponent row_of
exponent-row zero i l h = absurd (omega arith)
exponent-row (suc n) zero [] h = refl
exponent-row (suc n) zero (x ∷ l) h = refl
exponent-row (suc n) (suc i) [] h = exponent-row n i [] (omega arith)
exponent-row (suc n) (suc i) (x ∷ l) h = exponent-row n i l (omega arith)

pub exponent-front : (n i : ℕ) (m : Monomial) → i < n → exponent n (row n m) i ≡ (get_or (take n m.e) i (record { 0 = 0 })).0
unfolding row
exponent-front n i m h = exponent-row n i m.e h ∙ ap (λ (x : Exponent). x.0) (sym (get_or-take n m.e i _ h))

pub exponents-at : (n i : ℕ) (a : Row n) (d : Exponent) → i < n → (get_or (exponent_list n a) i d).0 ≡ exponent n a i
unfolding exponent exponent_list
exponents-at zero i a d h = absurd (omega arith)
exponents-at (suc n) zero a d h = refl
exponents-at (suc n) (suc i) a d h = exponents-at n i a.1 d (omega arith)

pub exponents-length : (n : ℕ) (a : Row n) → length (exponent_list n a) ≡ n
unfolding exponent_list
exponents-length zero a = refl
exponents-length (suc n) a = ap suc (exponents-length n a.1)

-- The test of two exponents.
abbrev same : Exponent → Exponent → Bool
same x y = eqb x.0 y.0

pub equal-rows : (n : ℕ) (k l : List Exponent) → n ≤ length k → n ≤ length l → (pointwise same (take n k) (take n l) ≡ true) ↔ (row_of n k ≡ row_of n l)
unfolding row_of
equal-rows zero k l h u = (λ e. refl, λ e. refl)
equal-rows (suc n) [] l h u = absurd (omega arith)
equal-rows (suc n) (x ∷ k) [] h u = absurd (omega arith)
equal-rows (suc n) (x ∷ k) (y ∷ l) h u =
    let (p, q) = equal-rows n k l (omega arith) (omega arith) in (
      λ e. let (a, b) = and_parts _ _ e in λ i. (eqb-true x.0 y.0 a i, p b i),
      λ e. rw (eq-eqb x.0 y.0 (ap (λ (r : Row (suc n)). r.0) e)) (q (ap (λ (r : Row (suc n)). r.1) e)),
    )

row-exponents : (n : ℕ) (a : Row n) (l : List Exponent) → row_of n (exponent_list n a ++ l) ≡ a
unfolding row_of exponent_list
row-exponents zero a l = refl
row-exponents (suc n) a l = λ k. (a.0, row-exponents n a.1 l k)

pub row-monomial : (n : ℕ) (a : Row n) → row n (monomial n a) ≡ a
unfolding row monomial
row-monomial n a = row-exponents n a _

degree-suc : (i : ℕ) (l : List Exponent) → degree (suc i) (row_of (suc i) l) ≡ degree i (row_of i l) + exponent (suc i) (row_of (suc i) l) i
unfolding exponent degree row_of
degree-suc zero [] = refl
degree-suc zero (x ∷ l) = omega arith
degree-suc (suc i) [] = omega (arith, degree-suc i [])
degree-suc (suc i) (x ∷ l) = omega (arith, degree-suc i l)

pub degree-more : (i : ℕ) (m : Monomial) → degree (i + 1) (row (i + 1) m) ≡ degree i (row i m) + exponent (i + 1) (row (i + 1) m) i
unfolding row
degree-more i m = rw add-one (degree-suc i m.e)
