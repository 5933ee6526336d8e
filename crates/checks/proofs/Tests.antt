-- Tests, and what they decide.
--   Decides P b                          P holds if b is true, and does not if b is false
--   not-decides, both-decides            the tests of ¬ P and of P × Q
--   le-decides, eq-decides               the tests of numbers
--   each, each-decides                   whether every element of a list passes a test
--   same_bytes, same-decides             whether two lists of numbers are equal
--   has_no_divisor, no-divisor-decides   whether no number d with 1 < d < 2 + k divides p
--   is_modulus, modulus-decides          whether p is a prime from 2 to 251
--   count-decides                        whether n is 1 to 4
--   smaller, smaller-decides             whether a row is smaller than another in grevlex
use Prim.Native.Nat.{ℕ, zero, suc, ◌+◌, ◌-◌, ◌%◌, ◌≤◌, ◌<◌}
use mathlib.Core.Bool.{Bool, true, false, not, ◌&&◌}
use mathlib.Core.List.{List, [], ◌∷◌, cons≢nil}
use mathlib.Core.Path.{◌≡◌, refl, sym}
use native.Mathlib.Omega.{arith}
use native.Mathlib.Nat.{eq-or-lt_of_le}
use mathlib.Core.Logic.{⊎_elim}
use lib.Dec.{leb, ltb, eqb}
use borrow.Author.Tests.{leb-true, leb-false, eqb-true, eqb-false}
use Rattle.lists.specs.Lists.{Bytes, Each}
use Rattle.residue.specs.Prime.{Modulus, largest_modulus}
use Rattle.monomial.specs.Sizes.{most_variables, VariableCount}
use Rattle.monomial.specs.Rows.{Row}
use Rattle.monomial.specs.Orders.{grevlex}
use Rattle.monomial.specs.Ordering.{Grevlex}
use Rattle.std.specs.declared.cmp.Ordering.{Ordering}
use Rattle.std.specs.declared.cmp.Ordering.TheVariants.{Less, Equal, Greater}

pub data Decides (P : Type 0) : Bool → Type 0 where
  holds : P → Decides P true
  fails : ¬ P → Decides P false

decides : {P : Type 0} (b : Bool) → (b ≡ true → P) → (b ≡ false → ¬ P) → Decides P b
decides true y n = holds (y refl)
decides false y n = fails (n refl)

decides-iff : {P Q : Type 0} {b : Bool} → (P → Q) → (Q → P) → Decides P b → Decides Q b
decides-iff f g (holds p) = holds (f p)
decides-iff f g (fails n) = fails (λ q. n (g q))

pub not-decides : {P : Type 0} {b : Bool} → Decides P b → Decides (¬ P) (not b)
not-decides (holds p) = fails (λ n. n p)
not-decides (fails n) = holds n

pub both-decides : {P Q : Type 0} {a b : Bool} → Decides P a → Decides Q b → Decides (P × Q) (a && b)
both-decides (holds p) (holds q) = holds (p, q)
both-decides (holds p) (fails n) = fails (λ q. n q.1)
both-decides (fails n) d = fails (λ q. n q.0)

pub le-decides : (a b : ℕ) → Decides (a ≤ b) (leb a b)
le-decides a b = decides (leb a b) (leb-true a b) (λ e. let l = leb-false a b e in omega arith)

pub eq-decides : (a b : ℕ) → Decides (a ≡ b) (eqb a b)
eq-decides a b = decides (eqb a b) (eqb-true a b) (eqb-false a b)

-- Whether every element passes the test.
unfoldable pub each : {A : Type 0} → (A → Bool) → List A → Bool
each f [] = true
each f (x ∷ l) = f x && each f l

pub each-decides : {A : Type 0} {P : A → Type 0} {f : A → Bool} → ((x : A) → Decides (P x) (f x)) → (l : List A) → Decides (Each P l) (each f l)
unfolding each
each-decides d [] = holds tt
each-decides d (x ∷ l) = both-decides (d x) (each-decides d l)

-- Whether two lists are equal.
unfoldable pub same_bytes : Bytes → Bytes → Bool
same_bytes [] [] = true
same_bytes [] (b ∷ t) = false
same_bytes (a ∷ s) [] = false
same_bytes (a ∷ s) (b ∷ t) = eqb a b && same_bytes s t

pub same-decides : (s t : Bytes) → Decides (s ≡ t) (same_bytes s t)
unfolding same_bytes
same-decides [] [] = holds refl
same-decides [] (b ∷ t) = fails (λ e. cons≢nil (sym e))
same-decides (a ∷ s) [] = fails cons≢nil
same-decides (a ∷ s) (b ∷ t) = decides-iff (λ q i. q.0 i ∷ q.1 i) (λ e. (cc, cc)) (both-decides (eq-decides a b) (same-decides s t))

-- Whether no number d with 1 < d < 2 + k divides p.
unfoldable pub has_no_divisor : (p k : ℕ) → Bool
has_no_divisor p zero = true
has_no_divisor p (suc k) = not (eqb (p % (2 + k)) 0) && has_no_divisor p k

pub no-divisor-decides : (p k : ℕ) → Decides ((d : ℕ) → 1 < d → d < 2 + k → ¬ (p % d ≡ 0)) (has_no_divisor p k)
unfolding has_no_divisor
no-divisor-decides p zero = holds (λ d h l. absurd (omega arith))
no-divisor-decides p (suc k) =
    decides-iff
    (λ q d h l e. ⊎_elim (λ u. q.0 (rw u at e)) (λ u. q.1 d h u e) (eq-or-lt_of_le (omega arith)))
    (λ q. (q (2 + k) (omega arith) (omega arith), λ d h l. q d h (omega arith)))
    (both-decides (not-decides (eq-decides (p % (2 + k)) 0)) (no-divisor-decides p k))

-- Whether p is a prime from 2 to 251. (A larger p is not searched for divisors.)
unfoldable pub is_modulus : ℕ → Bool
unfolding has_no_divisor
is_modulus p = let prime : Bool = ltb 1 p && has_no_divisor p (p - 2) in leb p largest_modulus && prime

pub modulus-decides : (p : ℕ) → Decides (Modulus p) (is_modulus p)
unfolding is_modulus
modulus-decides p =
    decides-iff
    (λ q. record { prime = record { above_one = q.1.0; no_divisor = λ d h l. q.1.1 d h (omega arith) }; size = q.0 })
    (λ m. (m.size, (m.prime.above_one, λ d h l. m.prime.no_divisor d h (omega arith))))
    (both-decides (le-decides p largest_modulus) (both-decides (le-decides 2 p) (no-divisor-decides p (p - 2))))

pub count-decides : (n : ℕ) → Decides (VariableCount n) (leb 1 n && leb n most_variables)
count-decides n = decides-iff (λ q. record { some = q.0; most = q.1 }) (λ v. (v.some, v.most)) (both-decides (le-decides 1 n) (le-decides n most_variables))

-- Whether a is smaller than b in grevlex.
unfoldable pub smaller : (n : ℕ) → Row n → Row n → Bool
unfolding grevlex
smaller n a b = elim (grevlex n a b) [ Less ↦ true | Equal ↦ false | Greater ↦ false ]

pub smaller-decides : (n : ℕ) (a b : Row n) → Decides (Grevlex n a b) (smaller n a b)
unfolding smaller
smaller-decides n a b = less (grevlex n a b)
  where
    less : (c : Ordering) → Decides (c ≡ Less) (elim c as (λ _. Bool) [ Less ↦ true | Equal ↦ false | Greater ↦ false ])
    less Less = holds refl
    less Equal = fails (λ e. let z : ◌≡◌ {A = ℕ} 0 1 = cc in omega arith)
    less Greater = fails (λ e. let z : ◌≡◌ {A = ℕ} 0 1 = cc in omega arith)
