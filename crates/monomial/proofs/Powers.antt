-- Powers of one variable.
--   exponent-power         the exponent of variable i in its power e is e
--   exponent-power-other   the exponents of the other variables are 0
--   power_divides          the power e of variable i divides m: the exponent of i in m is at least e
--   power-iff              the test says that a is a power of variable i
--   power-of-divisor       a divisor of a power of variable i is a power of it
use mathlib.Core.Path.{◌≡◌, refl, sym, ◌∙◌, ap}
use mathlib.Core.Logic.{◌↔◌, by_cases}
use mathlib.Core.Bool.{true}
use Prim.Native.Nat.{ℕ, zero, suc, ◌≤◌, ◌<◌}
use native.Mathlib.Decide.{ℕ_discrete}
use native.Mathlib.Omega.{arith}
use Rattle.monomial.specs.Rows.{Row, exponent, power}
use Rattle.monomial.specs.Quotients.{is_power}
use Rattle.monomial.specs.Ordering.{Divides, monomials}
use Rattle.monomial.proofs.Products.{row-extensional, exponent-one, divisible-at, power_at}

pub exponent-power : (n i e : ℕ) → i < n → exponent n (power n i e) i ≡ e
unfolding exponent
exponent-power zero i e h = absurd (omega arith)
exponent-power (suc n) zero e h = refl
exponent-power (suc n) (suc i) e h = exponent-power n i e (omega arith)

pub exponent-power-other : (n i e j : ℕ) → ¬ (j ≡ i) → exponent n (power n i e) j ≡ 0
unfolding exponent
exponent-power-other zero i e j q = refl
exponent-power-other (suc n) zero e zero q = absurd (q refl)
exponent-power-other (suc n) zero e (suc j) q = exponent-one n j
exponent-power-other (suc n) (suc i) e zero q = refl
exponent-power-other (suc n) (suc i) e (suc j) q = exponent-power-other n i e j (λ p. q (ap suc p))

module _ (n i : ℕ) where
  pub power_divides : i < n → (e : ℕ) (m : Row n) → Divides (monomials n) (power n i e) m ↔ (e ≤ exponent n m i)
  power_divides h e m = (
    λ d. omega (arith, (divisible-at n (power n i e) m).0 d i h, exponent-power n i e h),
    λ l. (divisible-at n (power n i e) m).1 (λ j _. by_cases (ℕ_discrete j i) (λ p. rw p (omega (arith, exponent-power n i e h))) (λ q. omega (arith, exponent-power-other n i e j q))),
  )

  pub power-iff : (a : Row n) → (is_power n i a ≡ true) ↔ ((e : ℕ) × (a ≡ power n i e))
  power-iff a = (λ t. (exponent n a i, row-extensional n (equal t)), λ r. (power_at n i a).1 (λ j h q. rw r.1 (exponent-power-other n i r.0 j q)))
    where
      equal : is_power n i a ≡ true → (j : ℕ) → j < n → exponent n a j ≡ exponent n (power n i (exponent n a i)) j
      equal t j h = by_cases (ℕ_discrete j i) (λ p. rw p (sym (exponent-power n i (exponent n a i) (omega arith)))) (λ q. (power_at n i a).0 t j h q ∙ sym (exponent-power-other n i _ j q))

  pub power-of-divisor : (a : Row n) (e : ℕ) → Divides (monomials n) a (power n i e) → (k : ℕ) × (a ≡ power n i k)
  power-of-divisor a e d = (power-iff a).0 ((power_at n i a).1 (λ j h q. omega (arith, (divisible-at n a (power n i e)).0 d j h, exponent-power-other n i e j q)))
