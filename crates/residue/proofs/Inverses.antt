-- Modulo a prime each residue but zero has exactly one reciprocal.
--   Reciprocal p a b    b is a residue modulo p whose product with a is 1
--   reciprocal-exists   for every prime p, each a with 0 < a < p has a reciprocal
--   reciprocal-unique   two reciprocals of a are equal
use mathlib.Core.Path.{◌≡◌, ◌∙◌, sym, ap}
use mathlib.Core.Logic.{⊎_elim, ◌≢◌}
use Prim.Native.Nat.{ℕ, zero, suc, ◌+◌, ◌-◌, ◌*◌, ◌/◌, ◌%◌, ◌≤◌, ◌<◌}
use native.Mathlib.Nat.{eq-or-lt_of_le, mod-lt, add-mod_right, mul-add-mod_self_right, mod-add-div, div-le_self, mul-sub, mul-le-mul_left}
use native.Mathlib.Omega.{arith}
use Rattle.residue.specs.Prime.{Prime}
use Rattle.residue.specs.Modular.{product_mod}
use Rattle.residue.proofs.Remainders.{mod-mul}
use Rattle.residue.proofs.ModularLaws.{product_mod-assoc, product_mod-comm, product-one}

pub record Reciprocal (p a b : ℕ) : Type 0 where
  pub below : b < p
  pub inverse : product_mod p a b ≡ 1

-- For p = r + a · q, the product of a and p - q is r.
product-complement : (p a q r : ℕ) → q ≤ p → r + a * q ≡ p → product_mod p a (p - q) ≡ r % p
unfolding product_mod
product-complement p a q r h e =
    let f : a * (p - q) + p ≡ a * p + r = omega (arith, mul-sub a p q, mul-le-mul_left a h) in
    sym (add-mod_right (a * (p - q)) p) ∙ ap (◌% p) f ∙ mul-add-mod_self_right a p r

-- The reciprocal of a, from the reciprocal b of the remainder of p by a.
from-remainder : (p a b : ℕ) → 0 < p → Reciprocal p (p % a) b → Reciprocal p a (product_mod p (p - p / a) b)
unfolding product_mod
from-remainder p a b h s = record {
  below = mod-lt _ h;
  inverse =
      sym (product_mod-assoc p a (p - p / a) b)
      ∙ ap (λ (n : ℕ). product_mod p n b) (product-complement p a (p / a) (p % a) (div-le_self p a) (mod-add-div p a))
      ∙ mod-mul (p % a) b p
      ∙ s.inverse;
}

-- By induction on a bound n of a: 1 is its own reciprocal, and for any other a the remainder of p by a is below a, and not zero.
reciprocal-bounded : (p : ℕ) → Prime p → (n a : ℕ) → a ≤ n → 0 < a → a < p → (b : ℕ) × Reciprocal p a b
reciprocal-bounded p prime zero a l h k = absurd (omega arith)
reciprocal-bounded p prime (suc n) a l h k =
    ⊎_elim
    (λ e. (1, record { below = prime.above_one; inverse = rw (← e) (product-one p 1 prime.above_one) }))
    (λ u.
    let m : p % a ≢ 0 = prime.no_divisor a u k in
    let v : p % a < a = mod-lt p h in
    let (b, s) = reciprocal-bounded p prime n (p % a) (omega arith) (omega arith) (omega arith) in
    (product_mod p (p - p / a) b, from-remainder p a b (omega arith) s))
    (eq-or-lt_of_le h)

pub reciprocal-exists : (p : ℕ) → Prime p → (a : ℕ) → 0 < a → a < p → (b : ℕ) × Reciprocal p a b
reciprocal-exists p prime a h k = reciprocal-bounded p prime a a (omega arith) h k

-- b = b · (a · c) = (a · b) · c = c
pub reciprocal-unique : (p a b c : ℕ) → Reciprocal p a b → Reciprocal p a c → b ≡ c
reciprocal-unique p a b c s t =
    sym (product-one p b s.below)
    ∙ ap (product_mod p b) (sym t.inverse)
    ∙ sym (product_mod-assoc p b a c)
    ∙ ap (λ (n : ℕ). product_mod p n c) (product_mod-comm p b a ∙ s.inverse)
    ∙ product_mod-comm p 1 c
    ∙ product-one p c t.below
