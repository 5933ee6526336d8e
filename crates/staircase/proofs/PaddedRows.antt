-- Values of the code that hold a row of n exponents, and 0 from place n on.
--   held-row   the row that such a value holds
--   padded     it is made of that row
--   one-held   the monomial 1 of the code is such a value, in any number of variables
use mathlib.Core.Path.{◌≡◌, refl, sym, ◌∙◌, ap}
use mathlib.Core.List.{◌∷◌, ◌++◌}
use Prim.Native.Nat.{ℕ, zero, suc, ◌+◌, ◌-◌, ◌≤◌}
use native.Mathlib.Omega.{arith}
use lib.ListN.{replicate, replicate-append-replicate}
use Rattle.monomial.specs.Sizes.{most_variables}
use Rattle.monomial.specs.Rows.{Row, one}
use Rattle.monomial.specs.Represented.{row, exponent_list, monomial}
use Rattle.monomial.specs.declared.Exponent.{Exponent}
use Rattle.monomial.specs.declared.Monomial.{Monomial}
use Rattle.monomial.proofs.Places.{row-monomial}

module _ (n : ℕ) {r : Monomial} (a : Row n) (e : r ≡ monomial n a) where
  pub held-row : row n r ≡ a
  held-row = ap (row n) e ∙ row-monomial n a

  pub padded : r ≡ monomial n (row n r)
  padded = e ∙ ap (monomial n) (sym held-row)

exponents-one : (n : ℕ) → exponent_list n (one n) ≡ replicate n (record { 0 = 0 })
unfolding exponent_list one
exponents-one zero = refl
exponents-one (suc n) = ap (λ l. record { 0 = 0 } ∷ l) (exponents-one n)

pub one-held : (n : ℕ) → n ≤ most_variables → monomial most_variables (one most_variables) ≡ monomial n (one n)
unfolding monomial one
one-held n h =
    let z : Exponent = record { 0 = 0 } in
    let q : n + (most_variables - n) ≡ most_variables = omega arith in
    ap (λ l. record { e = l }) (sym (ap (λ l. l ++ replicate (most_variables - n) z) (exponents-one n) ∙ replicate-append-replicate n (most_variables - n) z ∙ ap (λ k. replicate k z) q))
