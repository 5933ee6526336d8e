-- The loop of `counted`: b counts up from a, with the product m of a and b beside it, until m is 1 or b is p - 1.
--   Counting p a b m      b is at most the reciprocal of a, and m is the product of a and b
--   counting-start        it holds at b = a if no reciprocal is below a
--   reciprocal-positive   zero is no reciprocal
--   counting-below        m is a residue
--   counting-turn         it holds at b + 1 if m is not 1
--   counting-stop         if m is 1, b is the reciprocal of a
--   counting-last         if b is p - 1, it is the reciprocal of a
use mathlib.Core.Path.{◌≡◌, refl, ◌∙◌, sym, ap, subst}
use mathlib.Core.Logic.{⊎_elim, by_cases}
use Prim.Native.Nat.{ℕ, zero, suc, ◌+◌, ◌-◌, ◌*◌, ◌%◌, ◌≤◌, ◌<◌}
use native.Mathlib.Nat.{eq-or-lt_of_le, mod-add-mod, mod-lt, mul-zero, zero-mod}
use native.Mathlib.Decide.{dec_lt}
use native.Mathlib.Omega.{arith}
use Rattle.residue.specs.Prime.{Prime}
use Rattle.residue.specs.Modular.{sum_mod, product_mod}
use Rattle.residue.proofs.Inverses.{Reciprocal, reciprocal-exists}

pub record Counting (p a b m : ℕ) : Type 0 where
  pub target : ℕ
  pub reciprocal : Reciprocal p a target
  pub within : b ≤ target
  pub multiple : m ≡ product_mod p a b

pub reciprocal-positive : (p a b : ℕ) → Reciprocal p a b → 0 < b
unfolding product_mod
reciprocal-positive p a zero s =
    let e : ◌≡◌ {A = ℕ} 0 1 = sym (zero-mod p) ∙ ap (◌% p) (sym (mul-zero a)) ∙ s.inverse in
    absurd (omega arith)
reciprocal-positive p a (suc b) s = omega arith

pub counting-start : (p a : ℕ) → Prime p → 0 < a → a < p → ((b : ℕ) → b < a → ¬ (product_mod p a b ≡ 1)) → Counting p a a (product_mod p a a)
counting-start p a prime h k n =
    let (b, s) = reciprocal-exists p prime a h k in
    record { target = b; reciprocal = s; within = by_cases (dec_lt b a) (λ l. absurd (n b l s.inverse)) (λ l. omega arith); multiple = refl }

module _ (p a b m : ℕ) (c : Counting p a b m) where
  pub counting-below : m < p
  unfolding product_mod
  counting-below = rw c.multiple (mod-lt (a * b) (omega arith))

  pub counting-turn : ¬ (m ≡ 1) → Counting p a (b + 1) (sum_mod p m a)
  unfolding sum_mod product_mod
  counting-turn n = record {
    target = c.target;
    reciprocal = c.reciprocal;
    within =
        ⊎_elim
        (λ e. absurd (n (c.multiple ∙ ap (product_mod p a) e ∙ c.reciprocal.inverse)))
        (λ l. omega arith)
        (eq-or-lt_of_le c.within);
    multiple = rw (c.multiple, mod-add-mod) (ap (◌% p) (omega arith));
  }

  pub counting-stop : m ≡ 1 → Reciprocal p a b
  counting-stop e = record { below = omega arith; inverse = sym c.multiple ∙ e }

  pub counting-last : p - 1 ≤ b → Reciprocal p a (p - 1)
  counting-last l =
      let e : c.target ≡ p - 1 = omega (arith, c.reciprocal.below) in
      subst (Reciprocal p a) e c.reciprocal
