-- The numbers C(d + k - 1, k).
--   below-monotone    they grow with d
--   below_wider       and with k
--   below_next        from k to k + 1: (k + 1)·C(d + k, k + 1) = (d + k)·C(d + k - 1, k)
--   below-divided     so the next is that product, divided by k + 1
--   space-value       there are 82,251 places
--   below-space       no number with k at most 4 and d at most 36 is larger
--   below-product     the product before the division is no larger than 40 times that
use mathlib.Core.Path.{◌≡◌, refl, sym, ap}
use Prim.Native.Nat.{ℕ, zero, suc, ◌+◌, ◌-◌, ◌*◌, ◌/◌, ◌≤◌}
use native.Mathlib.Nat.{mul-add, add-mul, suc-mul, mul-le-mul, div-eq_of_eq-mul_right}
use native.Mathlib.Omega.{arith}
use Rattle.monomial.specs.Sizes.{most_variables}
use Rattle.division.specs.GrevlexPlace.{monomials_below, most_degree, space}

pub below-monotone : (k d e : ℕ) → d ≤ e → monomials_below k d ≤ monomials_below k e
unfolding monomials_below
below-monotone zero d e h = omega arith
below-monotone (suc k) zero e h = omega arith
below-monotone (suc k) (suc d) zero h = absurd (omega arith)
below-monotone (suc k) (suc d) (suc e) h = omega (arith, below-monotone (suc k) d e (omega arith), below-monotone k (suc d) (suc e) h)

below-wider-by : (k j d : ℕ) → monomials_below k (suc d) ≤ monomials_below (j + k) (suc d)
unfolding monomials_below
below-wider-by k zero d = let e : 0 + k ≡ k = omega arith in omega (arith, ap (λ x. monomials_below x (suc d)) e)
below-wider-by k (suc j) d = let e : suc j + k ≡ suc (j + k) = omega arith in omega (arith, below-wider-by k j d, ap (λ x. monomials_below x (suc d)) e)

pub below_wider : (k l d : ℕ) → k ≤ l → monomials_below k (suc d) ≤ monomials_below l (suc d)
below_wider k l d h = let e : l - k + k ≡ l = omega arith in omega (arith, below-wider-by k (l - k) d, ap (λ x. monomials_below x (suc d)) e)

ruleset spread = (mul-add, add-mul, suc-mul)

-- d·C(d + k, k) = (d + k)·C(d + k - 1, k) at k, the step from k to k + 1, and so on by induction on k.
Wider : ℕ → Type 0
Wider k = (d : ℕ) → d * monomials_below k (suc d) ≡ (d + k) * monomials_below k d

Next : ℕ → Type 0
Next k = (d : ℕ) → suc k * monomials_below (suc k) d ≡ (d + k) * monomials_below k d

next-of-wider : (k : ℕ) → Wider k → Next k
unfolding Wider Next monomials_below
next-of-wider zero w zero = refl
next-of-wider (suc k) w zero = omega arith
next-of-wider k w (suc d) = simp spread (omega (arith, simp spread at (next-of-wider k w d), simp spread at (w d)))

wider-of-next : (k : ℕ) → Wider k → Next k → Wider (suc k)
unfolding Wider Next monomials_below
wider-of-next k w x d = simp spread (omega (arith, simp spread at (x d), simp spread at (w d)))

wider : (k : ℕ) → Wider k
unfolding Wider monomials_below
wider zero = λ d. omega arith
wider (suc k) = wider-of-next k (wider k) (next-of-wider k (wider k))

pub below_next : (k d : ℕ) → suc k * monomials_below (suc k) d ≡ (d + k) * monomials_below k d
unfolding Wider Next
below_next k = next-of-wider k (wider k)

pub below-divided : (k d : ℕ) → (d + k) * monomials_below k d / suc k ≡ monomials_below (suc k) d
below-divided k d = div-eq_of_eq-mul_right (omega arith) (sym (below_next k d))

pub space-value : space ≡ 82251
unfolding space monomials_below
space-value = refl

pub below-space : (k d : ℕ) → k ≤ most_variables → d ≤ suc most_degree → monomials_below k d ≤ space
unfolding space
below-space k d h g = omega (arith, below-monotone k d (suc most_degree) g, below_wider k most_variables most_degree h)

-- What the code computes on the way.
pub below-product : (k d c : ℕ) → k ≤ most_variables → d ≤ suc most_degree → c ≡ monomials_below k d → (d + k) * c ≤ 40 * space
below-product k d c h g e = mul-le-mul {n₂ = 40} {m₂ = space} (omega arith) (omega (arith, below-space k d h g))
