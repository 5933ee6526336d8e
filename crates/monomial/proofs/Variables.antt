-- The variables as monomials of the code, and the first variable of a monomial.
--   variable-fits     an exponent of x_i·m fits where that of m has room
--   quotient-row      the quotient of the code holds the quotient of the rows
--   variable-stored   a store of 1 into the exponents of 1 makes a variable
--   first-none        a monomial that no variable divides is 1
--   first_some        a monomial is its first variable times the quotient
use mathlib.Core.Path.{◌≡◌, sym, ◌∙◌, ap, ap₂}
use mathlib.Core.Logic.{by_cases}
use Prim.Native.Nat.{ℕ, ◌+◌, ◌<◌, ◌≤◌}
use native.Mathlib.Decide.{ℕ_discrete}
use native.Mathlib.Omega.{arith}
use lib.ListN.{length, get_or, set}
use lib.Seq.{get_or-set_same, get_or-set_other}
use Rattle.lists.proofs.Storing.{zeros-at}
use Rattle.monomial.specs.Sizes.{most_variables}
use Rattle.monomial.specs.Rows.{Row, one, exponent, product}
use Rattle.monomial.specs.Quotients.{quotient, variable}
use Rattle.monomial.specs.Represented.{row, monomial, exponent_list, most_entry}
use Rattle.monomial.specs.FirstVariable.{VariableAt}
use Rattle.monomial.specs.declared.Exponent.{Exponent}
use Rattle.monomial.specs.declared.Monomial.{Monomial}
use Rattle.monomial.proofs.Products.{row-extensional, exponent-one, product-comm, product-quotient, divides-iff}
use Rattle.monomial.proofs.Places.{exponent-row, row-monomial}
use Rattle.monomial.proofs.Powers.{exponent-power, exponent-power-other, power_divides}

pub variable-stored : (i : ℕ) → i < most_variables → {m : Monomial} → m ≡ monomial most_variables (one most_variables)
    → (n : ℕ) → n ≤ most_variables → i < n → row n (record { e = set m.e i (record { 0 = 1 }) }) ≡ variable n i
unfolding row monomial exponent_list one
variable-stored i h {m} e n l k = row-extensional n (λ j q. exponent-row n j (set m.e i (record { 0 = 1 })) q ∙ at j)
  where
    z : Exponent
    z = record { 0 = 0 }

    size : length m.e ≡ most_variables
    size = ap (λ (m : Monomial). length m.e) e

    zero-at : (j : ℕ) → (get_or m.e j z).0 ≡ 0
    zero-at j = ap (λ (m : Monomial). (get_or m.e j z).0) e ∙ ap (λ (x : Exponent). x.0) (zeros-at 4 j z)

    at : (j : ℕ) → (get_or (set m.e i (record { 0 = 1 })) j z).0 ≡ exponent n (variable n i) j
    at j = by_cases (ℕ_discrete j i)
        (λ p. rw p (ap (λ (x : Exponent). x.0) (get_or-set_same m.e i (record { 0 = 1 }) z (omega (arith, size))) ∙ sym (exponent-power n i 1 k)))
        (λ p. ap (λ (x : Exponent). x.0) (get_or-set_other m.e i j (record { 0 = 1 }) z p) ∙ zero-at j ∙ sym (exponent-power-other n i 1 j p))

pub variable-fits : (n i j : ℕ) {x : ℕ} → i < n → x < most_entry → exponent n (variable n i) j + x ≤ most_entry
variable-fits n i j l h = by_cases (ℕ_discrete j i) (λ p. rw p (omega (arith, exponent-power n i 1 l))) (λ p. omega (arith, exponent-power-other n i 1 j p))

pub quotient-row : (n : ℕ) (a b u w : Row n) {r : Monomial} → a ≡ u → b ≡ w → r ≡ monomial n (quotient n a b) → row n r ≡ quotient n u w
quotient-row n a b u w p q e = ap (row n) e ∙ row-monomial n _ ∙ ap₂ (quotient n) p q

module _ {n : ℕ} {m : Row n} where
  pub first-none : ((i : ℕ) → i < n → exponent n m i ≡ 0) → m ≡ one n
  first-none f = row-extensional n (λ i h. f i h ∙ sym (exponent-one n i))

  pub first_some : {r : ℕ} → VariableAt n m r → m ≡ product n (variable n r) (quotient n m (variable n r))
  first_some {r} f =
      let d = (divides-iff n (variable n r) m).1 ((power_divides n r f.within 1 m).1 f.found) in
      sym (product-quotient n m (variable n r) d) ∙ product-comm n _ (variable n r)
