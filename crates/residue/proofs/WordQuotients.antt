-- Remainders modulo p by a product with the quotient of the largest number of 16 bits by p.
--   over-fits                      this quotient is a number of 16 bits
--   quotient-below                 the product gives a quotient that is not too large
--   remainder-near                 what is left is below 2p
--   remainder_is, remainder-less   x modulo p, by whether p can be taken away
--   product-fits                   a product of numbers of 16 bits has 32
--   less-fits                      a + (p - c)·b is a number of 16 bits
use mathlib.Core.Path.{◌≡◌, sym, ◌∙◌, ap, subst}
use Prim.Native.Nat.{ℕ, ◌+◌, ◌-◌, ◌*◌, ◌/◌, ◌%◌, ◌≤◌, ◌<◌}
use native.Mathlib.Nat.{mul-le-mul, mul-le-mul_left, mul-le-mul_right, div-mul-le_self, lt-div-mul-add, div-le_self, add-mul-mod_self_right, mod-eq_of_lt}
use native.Mathlib.Omega.{arith}
use Rattle.residue.specs.Prime.{largest_modulus}
use Rattle.residue.specs.Word.{word}
use Rattle.residue.proofs.Remainders.{mod-subtract}

pub over-fits : (p : ℕ) → (word - 1) / p < word
over-fits p = omega (arith, div-le_self (word - 1) p)

module _ (p x m q : ℕ) (h : 0 < p) (e : m ≡ (word - 1) / p) (d : q ≡ x * m / word) where
  pub quotient-below : q * p ≤ x
  quotient-below =
      let a : m * p ≤ word - 1 = subst (λ z. z * p ≤ word - 1) (sym e) (div-mul-le_self (word - 1) p) in
      let b : q * word ≤ x * m = omega arith in
      omega (arith, mul-le-mul_right p b, mul-le-mul_left x a)

  pub remainder-near : x < word → x - q * p < p + p
  remainder-near l =
      let a : word ≤ m * p + p = subst (λ z. word ≤ z * p + p) (sym e) (omega (arith, lt-div-mul-add {a = word - 1} {b = p} h)) in
      let b : x * m + 1 ≤ q * word + word = omega arith in
      let k : x ≤ word = omega arith in
      omega (arith, mul-le-mul_left x a, mul-le-mul_right p b, mul-le-mul_right p k)

  left_over : (x - q * p) % p ≡ x % p
  left_over =
      let b : x - q * p + q * p ≡ x = omega (arith, quotient-below) in
      sym (add-mul-mod_self_right (x - q * p) q p) ∙ ap (◌% p) b

  pub remainder_is : x - q * p < p → x - q * p ≡ x % p
  remainder_is l = sym (mod-eq_of_lt l) ∙ left_over

  pub remainder-less : x < word → p ≤ x - q * p → x - q * p - p ≡ x % p
  remainder-less l k = sym (mod-subtract (x - q * p) p k (remainder-near l)) ∙ left_over

pub product-fits : (a b : ℕ) → a < word → b < word → a * b < word * word
product-fits a b h l =
    let u : a ≤ word - 1 = omega arith in
    let v : b ≤ word - 1 = omega arith in
    omega (arith, mul-le-mul u v)

module _ (p a c b : ℕ) (h : p ≤ largest_modulus) (l : a < p) (m : b < p) where
  pub less-fits : a + (p - c) * b < word
  less-fits =
      let u : p - c ≤ largest_modulus = omega arith in
      let v : b ≤ largest_modulus = omega arith in
      omega (arith, mul-le-mul u v)
