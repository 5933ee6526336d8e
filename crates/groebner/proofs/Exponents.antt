-- Monomials with some of their exponents changed.
--   Lowered n m             m is x_v·d for some v and d
-- Exponents of withExponent: with-same, with-zero, with-other
-- Of raise: raise-same, raise-other (its exponents), divides-raise, raise-proper (m is a proper divisor of x_v·m)
-- Exponents of clear: clear_in, clear-out
-- lowered: every monomial is 1 or some x_v·d
use mathlib.Core.Path.{◌≡◌, refl, ◌∙◌, ap, ap₂}
use mathlib.Core.List.Memᴰ
use mathlib.Core.List.{List, [], ◌∷◌}
use mathlib.Core.Logic.{◌⊎◌, inl, inr}
use Prim.Native.Nat.{ℕ, zero, suc, ◌≤◌, ◌<◌}
use native.Mathlib.Decide.{ℕ_discrete}
use native.Mathlib.Omega.{arith}
use Rattle.lists.specs.Lists.{◌∈◌}
use Rattle.monomial.specs.Rows.{Row, exponent, one}
use Rattle.monomial.specs.Ordering.{Divides, monomials}
use Rattle.monomial.proofs.Products.{divisible-at}
use Rattle.groebner.specs.Next.{with_exponent, raise, clear}

pub with-same : (n v e : ℕ) (m : Row n) → v < n → exponent n (with_exponent n v e m) v ≡ e
unfolding with_exponent exponent
with-same zero v e m l = absurd (omega arith)
with-same (suc n) zero e m l = refl
with-same (suc n) (suc v) e m l = with-same n v e m.1 (omega arith)

pub with-zero : (n v : ℕ) (m : Row n) → exponent n (with_exponent n v 0 m) v ≡ 0
unfolding with_exponent exponent
with-zero zero v m = refl
with-zero (suc n) zero m = refl
with-zero (suc n) (suc v) m = with-zero n v m.1

pub with-other : (n v e : ℕ) (m : Row n) (i : ℕ) → ¬ (i ≡ v) → exponent n (with_exponent n v e m) i ≡ exponent n m i
unfolding with_exponent exponent
with-other zero v e m i h = refl
with-other (suc n) zero e m zero h = absurd (h refl)
with-other (suc n) zero e m (suc i) h = refl
with-other (suc n) (suc v) e m zero h = refl
with-other (suc n) (suc v) e m (suc i) h = with-other n v e m.1 i (λ q. h (ap suc q))

module _ (n v : ℕ) (m : Row n) where
  pub raise-same : v < n → exponent n (raise n v m) v ≡ suc (exponent n m v)
  unfolding raise
  raise-same l = with-same n v _ m l

  pub raise-other : (i : ℕ) → ¬ (i ≡ v) → exponent n (raise n v m) i ≡ exponent n m i
  unfolding raise
  raise-other i h = with-other n v _ m i h

  pub divides-raise : v < n → Divides (monomials n) m (raise n v m)
  divides-raise l = (divisible-at n m (raise n v m)).1 (λ i _. at i (ℕ_discrete i v))
    where
      at : (i : ℕ) → Dec (i ≡ v) → exponent n m i ≤ exponent n (raise n v m) i
      at i (yes e) = rw e (omega (arith, raise-same l))
      at i (no q) = omega (arith, raise-other i q)

  pub raise-proper : v < n → ¬ (m ≡ raise n v m)
  raise-proper l e = omega (arith, raise-same l, ap (λ a. exponent n a v) e)

module _ (n : ℕ) (m : Row n) where
  pub clear_in : (s : List ℕ) (i : ℕ) → i ∈ s → exponent n (clear n s m) i ≡ 0
  unfolding clear
  clear_in [] i h = absurd (Memᴰ.not-nil h)
  clear_in (v ∷ s) i h = at (ℕ_discrete i v) (Memᴰ.cases_cons h) (clear_in s i)
    where
      at : Dec (i ≡ v) → (i ≡ v) ⊎ i ∈ s → (i ∈ s → exponent n (clear n s m) i ≡ 0) → exponent n (with_exponent n v 0 (clear n s m)) i ≡ 0
      at (yes e) _ _ = rw e (with-zero n v (clear n s m))
      at (no q) (inl e) _ = absurd (q e)
      at (no q) (inr k) rest = with-other n v 0 (clear n s m) i q ∙ rest k

  pub clear-out : (s : List ℕ) (i : ℕ) → ¬ (i ∈ s) → exponent n (clear n s m) i ≡ exponent n m i
  unfolding clear
  clear-out [] i h = refl
  clear-out (v ∷ s) i h = with-other n v 0 (clear n s m) i (λ e. h (Memᴰ.head e)) ∙ clear-out s i (λ k. h (Memᴰ.tail k))

-- m is x_v·d.
pub record Lowered (n : ℕ) (m : Row n) : Type 0 where
  pub variable : ℕ
  pub within : variable < n
  pub divisor : Row n
  pub raised : m ≡ raise n variable divisor

pub lowered : (n : ℕ) (m : Row n) → (m ≡ one n) ⊎ Lowered n m
unfolding raise with_exponent exponent one
lowered zero m = inl refl
lowered (suc n) m = go m.0 refl (lowered n m.1)
  where
    go : (e : ℕ) → m.0 ≡ e → (m.1 ≡ one n) ⊎ Lowered n m.1 → (m ≡ one (suc n)) ⊎ Lowered (suc n) m
    go zero p (inl q) = inl (ap₂ (λ x y. (x, y)) p q)
    go zero p (inr d) = inr (record { variable = suc d.variable; within = omega (arith, d.within); divisor = (m.0, d.divisor); raised = ap (λ y. (m.0, y)) d.raised })
    go (suc e) p _ = inr (record { variable = 0; within = omega arith; divisor = (e, m.1); raised = ap (λ x. (x, m.1)) p })
