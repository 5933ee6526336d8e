-- The laws of arithmetic modulo p, on numbers.
--   sum-zero, sum_comm, sum-assoc                      the laws of the sum
--   negation-sum                                       a and - a have the sum 0
--   product-one, product_mod-comm, product_mod-assoc   the laws of the product
--   product-sum                                        a product of a sum is the sum of the products
use mathlib.Core.Path.{◌≡◌, ◌∙◌, sym, ap}
use Prim.Native.Nat.{ℕ, ◌+◌, ◌-◌, ◌*◌, ◌%◌, ◌<◌}
use native.Mathlib.Nat.{mod-eq_of_lt, mod-add-mod, add-mod-mod, add-mod, mod_self, add_assoc, add_comm, add-zero, mul_assoc, mul_comm, mul-one, mul-add}
use native.Mathlib.Omega.{arith}
use Rattle.residue.specs.Modular.{sum_mod, negation_mod, product_mod}
use Rattle.residue.proofs.Remainders.{mod-mul, mul-mod}

module _ (p : ℕ) where
  pub sum-zero : (a : ℕ) → a < p → sum_mod p a 0 ≡ a
  unfolding sum_mod
  sum-zero a h = ap (◌% p) (add-zero a) ∙ mod-eq_of_lt h

  pub sum_comm : (a b : ℕ) → sum_mod p a b ≡ sum_mod p b a
  unfolding sum_mod
  sum_comm a b = ap (◌% p) (add_comm a b)

  pub sum-assoc : (a b c : ℕ) → sum_mod p (sum_mod p a b) c ≡ sum_mod p a (sum_mod p b c)
  unfolding sum_mod
  sum-assoc a b c = mod-add-mod (a + b) p c ∙ ap (◌% p) (add_assoc a b c) ∙ sym (add-mod-mod a (b + c) p)

  pub negation-sum : (a : ℕ) → a < p → sum_mod p a (negation_mod p a) ≡ 0
  unfolding sum_mod negation_mod
  negation-sum a h =
      let e : a + (p - a) ≡ p = omega arith in
      add-mod-mod a (p - a) p ∙ ap (◌% p) e ∙ mod_self p

  pub product-one : (a : ℕ) → a < p → product_mod p a 1 ≡ a
  unfolding product_mod
  product-one a h = ap (◌% p) (mul-one a) ∙ mod-eq_of_lt h

  pub product_mod-comm : (a b : ℕ) → product_mod p a b ≡ product_mod p b a
  unfolding product_mod
  product_mod-comm a b = ap (◌% p) (mul_comm a b)

  pub product_mod-assoc : (a b c : ℕ) → product_mod p (product_mod p a b) c ≡ product_mod p a (product_mod p b c)
  unfolding product_mod
  product_mod-assoc a b c = mod-mul (a * b) c p ∙ ap (◌% p) (mul_assoc a b c) ∙ sym (mul-mod a (b * c) p)

  pub product-sum : (a b c : ℕ) → product_mod p a (sum_mod p b c) ≡ sum_mod p (product_mod p a b) (product_mod p a c)
  unfolding sum_mod product_mod
  product-sum a b c = mul-mod a (b + c) p ∙ ap (◌% p) (mul-add a b c) ∙ add-mod (a * b) (a * c) p
