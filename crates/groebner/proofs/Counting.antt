-- Counting monomials by the pigeonhole principle.
--   raises n m          the n monomials x_v·m
--   all_raises n B      those of all m of the list B
--   length-all-raises   they are n times as many as B has elements
--   in-all-raises       each x_v·m with m in B is one of them
--   Divisors n m B      the proper divisors of m are in the list B
--   one-or-raised       then m is 1 or one of the raises of B
--   exponent-bounded    and no exponent of m passes the length of B
--   few-above           different monomials with that property are at most 1 + n·length B
--   bound-monotone      such a bound on lines and standard monomials, where only a bound on the latter is known
use mathlib.Core.Path.{◌≡◌, sym, ◌∙◌, ap}
use mathlib.Core.List.Memᴰ
use mathlib.Core.List.{List, [], ◌∷◌, ◌++◌, map}
use mathlib.Core.Logic.{◌⊎◌, inl, inr}
use Prim.Native.Nat.{ℕ, zero, suc, ◌+◌, ◌*◌, ◌≤◌, ◌<◌}
use native.Mathlib.Nat.{mul-suc, suc-mul, mul-le-mul_left}
use native.Mathlib.Decide.{ℕ_discrete}
use native.Mathlib.Omega.{arith}
use lib.ListN.{length, length-append, length-map}
use Rattle.lists.specs.Lists.{◌∈◌, Once}
use Rattle.monomial.specs.Rows.{Row, exponent, one}
use Rattle.monomial.specs.Ordering.{Divides, monomials}
use Rattle.monomial.proofs.Products.{divisible-at}
use Rattle.groebner.specs.Next.{with_exponent, raise}
use Rattle.groebner.proofs.Lists.{pigeon, in_map, of_map, range, length-range, in-range, of_range, once-map-range}
use Rattle.groebner.proofs.Exponents.{with-same, with-other, divides-raise, raise-proper, Lowered, lowered}

-- The monomials x_v·m.
unfoldable pub raises : (n : ℕ) → Row n → List (Row n)
unfolding range raise
raises n m = map (λ v. raise n v m) (range n)

-- Those of all m of the list.
unfoldable pub all_raises : (n : ℕ) → List (Row n) → List (Row n)
unfolding raises
all_raises n [] = []
all_raises n (m ∷ B) = raises n m ++ all_raises n B

length-raises : (n : ℕ) (m : Row n) → length (raises n m) ≡ n
unfolding raises
length-raises n m = length-map (range n) (λ v. raise n v m) ∙ length-range n

pub length-all-raises : (n : ℕ) (B : List (Row n)) → length (all_raises n B) ≡ n * length B
unfolding all_raises
length-all-raises n [] = omega arith
length-all-raises n (m ∷ B) = omega (arith, length-append (raises n m) (all_raises n B), length-raises n m, length-all-raises n B, mul-suc n (length B))

pub in-all-raises : (n v : ℕ) (m : Row n) (B : List (Row n)) → v < n → m ∈ B → raise n v m ∈ all_raises n B
unfolding all_raises raises
in-all-raises n v m [] l i = absurd (Memᴰ.not-nil i)
in-all-raises n v m (k ∷ B) l i = at (Memᴰ.cases_cons i) (in-all-raises n v m B l)
  where
    at : (m ≡ k) ⊎ m ∈ B → (m ∈ B → raise n v m ∈ all_raises n B) → raise n v m ∈ (raises n k ++ all_raises n B)
    at (inl e) r = Memᴰ.append_left (all_raises n B) (Memᴰ.cast (ap (raise n v) e) (in_map (λ v. raise n v k) (in-range n v l)))
    at (inr j) r = Memᴰ.append_right (raises n k) (r j)

-- The proper divisors of m are in the list.
abbrev pub Divisors : (n : ℕ) → Row n → List (Row n) → Type 0
Divisors n m B = (d : Row n) → Divides (monomials n) d m → ¬ (d ≡ m) → d ∈ B

module _ (n : ℕ) (m : Row n) (B : List (Row n)) (divisors : Divisors n m B) where
  pub one-or-raised : m ∈ (one n ∷ all_raises n B)
  one-or-raised = at (lowered n m)
    where
      at : (m ≡ one n) ⊎ Lowered n m → m ∈ (one n ∷ all_raises n B)
      at (inl e) = Memᴰ.head e
      at (inr d) = Memᴰ.tail (Memᴰ.cast d.raised (in-all-raises n d.variable d.divisor B d.within
          (divisors d.divisor (rw d.raised (divides-raise n d.variable d.divisor d.within)) (λ e. raise-proper n d.variable d.divisor d.within (e ∙ d.raised)))))

  -- The smaller powers of a variable in m, with the rest of m, are that many proper divisors.
  pub exponent-bounded : (v : ℕ) → v < n → exponent n m v ≤ length B
  exponent-bounded v l = omega (arith, pigeon (map power (range e)) B (once-map-range power injective e) inside, length-map (range e) power, length-range e)
    where
      e : ℕ
      e = exponent n m v

      power : ℕ → Row n
      power j = with_exponent n v j m

      injective : (a b : ℕ) → power a ≡ power b → a ≡ b
      injective a b q = sym (with-same n v a m l) ∙ ap (λ x. exponent n x v) q ∙ with-same n v b m l

      divides : (j : ℕ) → j < e → Divides (monomials n) (power j) m
      divides j h = (divisible-at n (power j) m).1 (λ i _. at i (ℕ_discrete i v))
        where
          at : (i : ℕ) → Dec (i ≡ v) → exponent n (power j) i ≤ exponent n m i
          at i (yes q) = rw q (omega (arith, with-same n v j m l))
          at i (no q) = omega (arith, with-other n v j m i q)

      proper : (j : ℕ) → j < e → ¬ (power j ≡ m)
      proper j h q = omega (arith, with-same n v j m l, ap (λ x. exponent n x v) q)

      inside : (x : Row n) → x ∈ map power (range e) → x ∈ B
      inside x i = at (of_map power (range e) i)
        where
          at : (j : ℕ) × j ∈ range e × (x ≡ power j) → x ∈ B
          at j = let h = of_range e j.0 j.1 in Memᴰ.cast j.2 (divisors (power j.0) (divides j.0 h) (proper j.0 h))

-- Different monomials whose proper divisors are all in the list.
pub few-above : (n : ℕ) (B l : List (Row n)) → Once l → ((m : Row n) → m ∈ l → Divisors n m B) → length l ≤ 1 + n * length B
few-above n B l once divisors = omega (arith, pigeon l (one n ∷ all_raises n B) once (λ m i. one-or-raised n m B (divisors m i)), length-all-raises n B)

-- If g and b together are at most c + n·b, then g is at most c + (n - 1)·D where b is at most D.
pub bound-monotone : (n c g b D : ℕ) → g + b ≤ c + n * b → b ≤ D → 0 < n → g + D ≤ c + n * D
bound-monotone zero c g b D h l p = absurd (omega arith)
bound-monotone (suc k) c g b D h l p = omega (arith, suc-mul k b, suc-mul k D, mul-le-mul_left k l)
