-- The laws of % that the library lacks: it has those of sums (mod-add-mod, add-mod-mod) and the bound (mod-lt).
--   mod-mul        the remainder of the left operand may be taken before a product
--   mul-mod        the remainder of the right operand may be taken before a product
--   mod-subtract   the remainder of a number from p to 2p - 1 is p less than the number
use mathlib.Core.Path.{◌≡◌, ◌∙◌, sym, ap}
use Prim.Native.Nat.{ℕ, ◌+◌, ◌-◌, ◌*◌, ◌/◌, ◌%◌, ◌≤◌, ◌<◌}
use native.Mathlib.Nat.{mod-add-div, add-mul-mod_self_right, mul_comm, mod-eq-sub-mod, mod-eq_of_lt}
use native.Mathlib.Omega.{arith}

pub mod-mul : (a b p : ℕ) → a % p * b % p ≡ a * b % p
mod-mul a b p =
    sym (add-mul-mod_self_right (a % p * b) (a / p * b) p) ∙ ap (◌% p) (parts (a % p) (a / p) (mod-add-div a p))
  where
    parts : (r q : ℕ) → r + p * q ≡ a → r * b + q * b * p ≡ a * b
    parts r q e = rw (← e) (omega arith)

pub mul-mod : (a b p : ℕ) → a * (b % p) % p ≡ a * b % p
mul-mod a b p = rw (mul_comm a (b % p), mod-mul, mul_comm b a)

pub mod-subtract : (x p : ℕ) → p ≤ x → x < p + p → x % p ≡ x - p
mod-subtract x p h k = mod-eq-sub-mod h ∙ mod-eq_of_lt (omega arith)
