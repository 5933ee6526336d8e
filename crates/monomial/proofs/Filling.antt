-- A value that is filled with a row from the front, one store a turn.
--   filled n a i                                    its array after i turns: the first i exponents of a, and 0 from place i on
--   filled_none                                     after no turn it is the array of 1
--   filled_more                                     a turn stores the exponent of variable i at place i
--   filled-all                                      after n turns it is the array of the value with the exponents a
--   Pointwise                                       a row that is made of two by an operation on exponents, as product, quotient and lcm are
--   pointwise-none, pointwise-more, pointwise-all   before the first turn, after a turn, and after the last
use mathlib.Core.Path.{◌≡◌, refl, sym, ◌∙◌, ap, ap₂}
use mathlib.Core.List.{List, ◌++◌, append_assoc}
use Prim.Native.Nat.{ℕ, suc, ◌+◌, ◌-◌, ◌<◌, ◌≤◌}
use native.Mathlib.Numerals.{add-one}
use native.Mathlib.Omega.{arith}
use lib.ListN.{length, get_or, set, take, replicate}
use lib.Seq.{set_at, take-suc, take_all, length-take-le}
use Rattle.monomial.specs.Sizes.{most_variables}
use Rattle.monomial.specs.Rows.{Row, exponent, one}
use Rattle.monomial.specs.Represented.{exponent_list, row, monomial}
use Rattle.monomial.specs.declared.Exponent.{Exponent}
use Rattle.monomial.specs.declared.Monomial.{Monomial}
use Rattle.monomial.proofs.Places.{exponents-at, exponents-length}

pub filled : (n : ℕ) → Row n → ℕ → List Exponent
filled n a i = take i (exponent_list n a) ++ replicate (most_variables - i) (record { 0 = 0 })

pub filled_none : (n : ℕ) (a : Row n) → (monomial most_variables (one most_variables)).e ≡ filled n a 0
unfolding filled monomial one
filled_none n a = refl

pub filled_more : (n i : ℕ) (a : Row n) (v : Exponent) {l : List Exponent} → i < n → n ≤ most_variables →
    l ≡ filled n a i → v.0 ≡ exponent n a i → set l i v ≡ filled n a (i + 1)
unfolding filled
filled_more n i a v h g f e =
    let z : Exponent = record { 0 = 0 } in
    let t : List Exponent = exponent_list n a in
    let p : (get_or t i z).0 ≡ v.0 = exponents-at n i a z h ∙ sym e in
    let q : get_or t i z ≡ v = λ k. record { 0 = p k } in
    let r : most_variables - i ≡ suc (most_variables - (i + 1)) = omega arith in
    let s : i < length t = omega (arith, exponents-length n a) in
    rw (f, r, add-one, take-suc t i z, q, append_assoc)
    (set_at (take i t) z (replicate (most_variables - suc i) z) v i (length-take-le i t (omega arith)))

pub filled-all : (n i : ℕ) (a : Row n) {m : Monomial} → i ≤ n → n ≤ i → m.e ≡ filled n a i → m ≡ monomial n a
unfolding filled monomial
filled-all n i a {m} h g f =
    let p : i ≡ n = omega arith in
    let q : take n (exponent_list n a) ≡ exponent_list n a = take_all n (exponent_list n a) (omega (arith, exponents-length n a)) in
    let r : m.e ≡ (monomial n a).e = rw (p, q) at f in
    λ k. record { e = r k }

-- The exponents of a are made of those of two monomials by f, and l has the first i of them.
pub record Pointwise (f : ℕ → ℕ → ℕ) (m k : Monomial) (n : ℕ) (a : Row n) (l : List Exponent) (i : ℕ) : Type 0 where
  pub made : (j : ℕ) → exponent n a j ≡ f (exponent n (row n m) j) (exponent n (row n k) j)
  pub within : i ≤ n
  pub stored : l ≡ filled n a i

module _ {f : ℕ → ℕ → ℕ} {m k : Monomial} {n : ℕ} {a : Row n} where
  pub pointwise-none : {r : Monomial} → ((j : ℕ) → exponent n a j ≡ f (exponent n (row n m) j) (exponent n (row n k) j))
      → r ≡ monomial most_variables (one most_variables) → Pointwise f m k n a r.e 0
  pointwise-none made e = record { made = made; within = omega arith; stored = ap (λ r. r.e) e ∙ filled_none n a }

  -- x and y are exponent i of the two monomials.
  pub pointwise-more : {l : List Exponent} {i : ℕ} {x y v : Exponent} → n ≤ most_variables → Pointwise f m k n a l i → i < n
      → ((n : ℕ) → i < n → x.0 ≡ exponent n (row n m) i) → ((n : ℕ) → i < n → y.0 ≡ exponent n (row n k) i) → v.0 ≡ f x.0 y.0
      → Pointwise f m k n a (set l i v) (i + 1)
  pointwise-more {i = i} g so_far h p q e = record {
    made = so_far.made;
    within = omega arith;
    stored = filled_more n i a _ h g so_far.stored (e ∙ ap₂ f (p n h) (q n h) ∙ sym (so_far.made i));
  }

  pub pointwise-all : {r : Monomial} {i : ℕ} → Pointwise f m k n a r.e i → n ≤ i → r ≡ monomial n a
  pointwise-all {i = i} so_far h = filled-all n i a so_far.within h so_far.stored
