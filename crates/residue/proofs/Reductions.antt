-- Sum, difference and negation of residues by a comparison, with no division.
--   sum_below, sum-above                 a + b, less p where it is not below p
--   difference-above, difference_below   a - b, with p added where b is above a
--   negation-zero, negation-above        0 for 0, and p - a for any other a
use mathlib.Core.Path.{◌≡◌, ◌∙◌, sym}
use Prim.Native.Nat.{ℕ, ◌+◌, ◌-◌, ◌≤◌, ◌<◌}
use native.Mathlib.Nat.{mod-eq_of_lt, mod_self, sub-zero}
use native.Mathlib.Omega.{arith}
use Rattle.residue.specs.Modular.{sum_mod, negation_mod}
use Rattle.residue.specs.Differences.{difference_mod}
use Rattle.residue.proofs.Remainders.{mod-subtract}

pub sum_below : (p a b : ℕ) → a + b < p → a + b ≡ sum_mod p a b
unfolding sum_mod
sum_below p a b h = sym (mod-eq_of_lt h)

pub sum-above : (p a b : ℕ) → a < p → b < p → p ≤ a + b → a + b - p ≡ sum_mod p a b
unfolding sum_mod
sum-above p a b h k l = sym (mod-subtract (a + b) p l (omega arith))

pub difference-above : (p a b : ℕ) → a < p → b ≤ a → a - b ≡ difference_mod p a b
unfolding difference_mod
difference-above p a b h l =
    let e : a - b ≡ a + (p - b) - p = omega arith in
    e ∙ sym (mod-subtract (a + (p - b)) p (omega arith) (omega arith))

pub difference_below : (p a b : ℕ) → b < p → a < b → a + (p - b) ≡ difference_mod p a b
unfolding difference_mod
difference_below p a b h l = sym (mod-eq_of_lt (omega arith))

pub negation-zero : (p a : ℕ) → a ≡ 0 → 0 ≡ negation_mod p a
unfolding negation_mod
negation-zero p a e = sym (rw (e, sub-zero) (mod_self p))

pub negation-above : (p a : ℕ) → a < p → ¬ (a ≡ 0) → p - a ≡ negation_mod p a
unfolding negation_mod
negation-above p a h n = sym (mod-eq_of_lt (omega arith))
