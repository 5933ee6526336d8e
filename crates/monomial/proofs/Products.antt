-- The monomials in n variables: products, quotients, divisibility and least common multiples.
--   row-extensional     rows with equal exponents are equal
--   exponent-one        each exponent of 1 is 0
--   exponent-product    the exponents of a product are sums
--   exponent-quotient   the exponents of a quotient are differences
--   exponent-lcm        the exponents of the least common multiple are the larger ones
--   degree-product      the degree of a product is the sum of the degrees
--   product-assoc       (a·b)·c = a·(b·c)
--   product-comm        a·b = b·a
--   one_product         1·a = a
--   quotient-product    (u·a) / a = u
--   product-quotient    (a / b)·b = a, where b divides a
--   divides-at          the test says that no exponent of a is larger than that of b
--   divisible-at        b is a product of a: no exponent of a is larger than that of b
--   divides-iff         the test says that b is a product of a
--   lcm-least           lcm a b is the least common multiple
--   one_at              the test says that all exponents are 0
--   power_at            the test says that all exponents but that of variable v are 0
--   rows-laws           the rows meet what the theory asks of monomials
use mathlib.Core.Path.{◌≡◌, refl, sym, ap₂}
use mathlib.Core.Logic.Dec
use mathlib.Core.Logic.Iff
use mathlib.Core.Logic.{◌↔◌}
use mathlib.Core.Bool.{Bool, true, false, Bool-discrete, false≢true}
use Prim.Native.Nat.{ℕ, zero, suc, ◌+◌, ◌-◌, ◌≤◌, ◌<◌, max}
use native.Mathlib.Omega.{arith}
use borrow.Author.Tests.{leb-true, le-leb, eqb-true, eq-eqb}
use Rattle.monomial.specs.Rows.{Row, exponent, one, product, degree}
use Rattle.monomial.specs.Quotients.{quotient, lcm, divides, is_one, is_power}
use Rattle.monomial.specs.Ordering.{Divides, Lcm, monomials}
use Rattle.monomial.proofs.OrderLaws.{MonomialLaws}

pub row-extensional : (n : ℕ) {a b : Row n} → ((i : ℕ) → i < n → exponent n a i ≡ exponent n b i) → a ≡ b
unfolding exponent
row-extensional zero e = refl
row-extensional (suc n) e = ap₂ (λ x y. (x, y)) (e 0 (omega arith)) (row-extensional n (λ i h. e (suc i) (omega arith)))

pub exponent-one : (n i : ℕ) → exponent n (one n) i ≡ 0
unfolding exponent one
exponent-one zero i = refl
exponent-one (suc n) zero = refl
exponent-one (suc n) (suc i) = exponent-one n i

pub exponent-product : (n : ℕ) (a b : Row n) (i : ℕ) → exponent n (product n a b) i ≡ exponent n a i + exponent n b i
unfolding exponent product
exponent-product zero a b i = refl
exponent-product (suc n) a b zero = refl
exponent-product (suc n) a b (suc i) = exponent-product n a.1 b.1 i

pub exponent-quotient : (n : ℕ) (a b : Row n) (i : ℕ) → exponent n (quotient n a b) i ≡ exponent n a i - exponent n b i
unfolding exponent quotient
exponent-quotient zero a b i = refl
exponent-quotient (suc n) a b zero = refl
exponent-quotient (suc n) a b (suc i) = exponent-quotient n a.1 b.1 i

pub exponent-lcm : (n : ℕ) (a b : Row n) (i : ℕ) → exponent n (lcm n a b) i ≡ max (exponent n a i) (exponent n b i)
unfolding exponent lcm
exponent-lcm zero a b i = refl
exponent-lcm (suc n) a b zero = refl
exponent-lcm (suc n) a b (suc i) = exponent-lcm n a.1 b.1 i

ruleset exponents = (exponent-one, exponent-product, exponent-quotient, exponent-lcm)

pub degree-product : (n : ℕ) (a b : Row n) → degree n (product n a b) ≡ degree n a + degree n b
unfolding degree product
degree-product zero a b = refl
degree-product (suc n) a b = omega (arith, degree-product n a.1 b.1)

-- A test of place 0 and then of the places after it tests all of them.
tested : {n : ℕ} {t u : Bool} (P : ℕ → Type 0) → (t ≡ true) ↔ P 0 → (u ≡ true) ↔ ((i : ℕ) → i < n → P (suc i))
    → (elim t [ true ↦ u | false ↦ false ] ≡ true) ↔ ((i : ℕ) → i < suc n → P i)
tested {n} {t = true} {u} P first rest = (each, λ p. rest.1 (λ i h. p (suc i) (omega arith)))
  where
    each : u ≡ true → (i : ℕ) → i < suc n → P i
    each e zero h = first.0 refl
    each e (suc i) h = rest.0 e i (omega arith)
tested {t = false} P first rest = (λ e. absurd (false≢true e), λ p. first.1 (p 0 (omega arith)))

pub divides-at : (n : ℕ) (a b : Row n) → (divides n a b ≡ true) ↔ ((i : ℕ) → i < n → exponent n a i ≤ exponent n b i)
unfolding divides exponent
divides-at zero a b = (λ e i h. absurd (omega arith), λ l. refl)
divides-at (suc n) a b = tested (λ i. exponent (suc n) a i ≤ exponent (suc n) b i) (leb-true a.0 b.0, le-leb a.0 b.0) (divides-at n a.1 b.1)

pub one_at : (n : ℕ) (a : Row n) → (is_one n a ≡ true) ↔ ((i : ℕ) → i < n → exponent n a i ≡ 0)
unfolding is_one exponent
one_at zero a = (λ e i h. absurd (omega arith), λ l. refl)
one_at (suc n) a = tested (λ i. exponent (suc n) a i ≡ 0) (eqb-true a.0 0, eq-eqb a.0 0) (one_at n a.1)

pub power_at : (n v : ℕ) (a : Row n) → (is_power n v a ≡ true) ↔ ((i : ℕ) → i < n → ¬ (i ≡ v) → exponent n a i ≡ 0)
unfolding is_power exponent
power_at zero v a = (λ e i h. absurd (omega arith), λ l. refl)
power_at (suc n) zero a = tested {t = true} (λ i. ¬ (i ≡ 0) → exponent (suc n) a i ≡ 0) (λ e q. absurd (q refl), λ z. refl)
    (Iff.trans (one_at n a.1) (λ z i h q. z i h, λ z i h. z i h (omega arith)))
power_at (suc n) (suc v) a = tested (λ i. ¬ (i ≡ suc v) → exponent (suc n) a i ≡ 0) (λ e q. eqb-true a.0 0 e, λ z. eq-eqb a.0 0 (z (omega arith)))
    (Iff.trans (power_at n v a.1) (λ z i h q. z i h (omega arith), λ z i h q. z i h (omega arith)))

module _ (n : ℕ) where
  pub product-assoc : (a b c : Row n) → product n (product n a b) c ≡ product n a (product n b c)
  product-assoc a b c = row-extensional n (λ i h. simp exponents (omega arith))

  pub product-comm : (a b : Row n) → product n a b ≡ product n b a
  product-comm a b = row-extensional n (λ i h. simp exponents (omega arith))

  pub one_product : (a : Row n) → product n (one n) a ≡ a
  one_product a = row-extensional n (λ i h. simp exponents (omega arith))

  pub quotient-product : (u a : Row n) → quotient n (product n u a) a ≡ u
  quotient-product u a = row-extensional n (λ i h. simp exponents (omega arith))

  pub product-quotient : (a b : Row n) → divides n b a ≡ true → product n (quotient n a b) b ≡ a
  product-quotient a b e = row-extensional n (λ i h. simp exponents (omega (arith, (divides-at n b a).0 e i h)))

  pub divisible-at : (a b : Row n) → Divides (monomials n) a b ↔ ((i : ℕ) → i < n → exponent n a i ≤ exponent n b i)
  unfolding monomials
  divisible-at a b = (λ d i h. rw d.1 (simp exponents (omega arith)), λ l. (quotient n b a, sym (product-quotient b a ((divides-at n a b).1 l))))

  pub divides-iff : (a b : Row n) → (divides n a b ≡ true) ↔ Divides (monomials n) a b
  divides-iff a b = Iff.trans (divides-at n a b) (Iff.symm (divisible-at a b))

  pub lcm-least : (a b : Row n) → Lcm (monomials n) a b (lcm n a b)
  lcm-least a b = record {
    left = (divisible-at a (lcm n a b)).1 (λ i h. simp exponents (omega arith));
    right = (divisible-at b (lcm n a b)).1 (λ i h. simp exponents (omega arith));
    least = λ k p q. (divisible-at (lcm n a b) k).1 (λ i h. simp exponents (omega (arith, (divisible-at a k).0 p i h, (divisible-at b k).0 q i h)));
  }

  pub rows-laws : MonomialLaws (monomials n)
  unfolding monomials
  rows-laws = record {
    mul_assoc = product-assoc;
    mul_comm = product-comm;
    one_mul = one_product;
    divides? = λ a b. Dec.of_iff (divides-iff a b) (Bool-discrete (divides n a b) true);
    lcm = λ a b. (lcm n a b, lcm-least a b);
  }
