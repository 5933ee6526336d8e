-- Lex over a list of variables, greatest first: for every ranking of the n variables it is a monomial ordering.
--   lex-cons             the first variable of the list decides, and then the others
--   lex-cons-less        what Less says of a list with a first variable
--   lex-cons-equal       what Equal says of it
--   lex-cons-greater     what Greater says of it
--   lex-flip             b against a is a against b, turned round
--   lex-product          a monomial multiplied to both changes no answer
--   lex-equal            where all variables are ranked, only equal rows are called equal
--   lex-order            and lex is a monomial ordering
--   Leftmost n s a b     the leftmost nonzero entry of a - b is positive, the variables read in the order s
--   lex-leftmost         that is what Greater says (document 01)
--   variables-rank       x1, .., xn are all the variables
--   backwards-rank       xn, .., x1 are all the variables
--   variables-length     they are n
--   variables-at         variable j stands at place j
--   variables-leftmost   lex in document 01's order of the variables
use mathlib.Core.Path.{◌≡◌, refl, sym, ap}
use mathlib.Core.Logic.Iff
use mathlib.Core.Logic.{◌↔◌, ◌⊎◌, inl, inr, ⊎_elim}
use mathlib.Core.List.{List, [], ◌∷◌, Memᴰ}
use mathlib.Core.WellFounded.Acc
use mathlib.Core.WellFounded.Subrelation
use mathlib.Core.WellFounded.{WellFounded}
use Prim.Native.Nat.{ℕ, zero, suc, ◌+◌, ◌≤◌, ◌<◌}
use native.Mathlib.Decide.{ℕ_discrete}
use native.Mathlib.Omega.{arith}
use lib.ListN.{length, get_or}
use Rattle.monomial.specs.Rows.{Row, exponent, product}
use Rattle.monomial.specs.Orders.{compared, lex, variables_from, variables, backwards}
use Rattle.monomial.specs.Ordering.{monomials, LessBy}
use Rattle.monomial.proofs.OrderLaws.{MonomialOrder, Ranks}
use Rattle.std.specs.declared.cmp.Ordering.TheVariants.{Less, Equal, Greater}
use Rattle.monomial.proofs.Products.{row-extensional, exponent-product}
use Rattle.monomial.proofs.Comparisons.{compared-sum, equal-not-less, equal-not-greater, then, then_less, then_equal, then-greater, otherwise, below-wf, comparison-order}

module _ (n i : ℕ) (s : List ℕ) (a b : Row n) where
  pub lex-cons : lex n (i ∷ s) a b ≡ then (compared (exponent n a i) (exponent n b i)) (lex n s a b)
  unfolding lex
  lex-cons = refl

  pub lex-cons-less : (lex n (i ∷ s) a b ≡ Less) ↔ ((exponent n a i < exponent n b i) ⊎ ((exponent n a i ≡ exponent n b i) × (lex n s a b ≡ Less)))
  unfolding lex
  lex-cons-less = then_less (exponent n a i) (exponent n b i) (lex n s a b)

  pub lex-cons-equal : (lex n (i ∷ s) a b ≡ Equal) ↔ ((exponent n a i ≡ exponent n b i) × (lex n s a b ≡ Equal))
  unfolding lex
  lex-cons-equal = then_equal (exponent n a i) (exponent n b i) (lex n s a b)

  pub lex-cons-greater : (lex n (i ∷ s) a b ≡ Greater) ↔ ((exponent n b i < exponent n a i) ⊎ ((exponent n a i ≡ exponent n b i) × (lex n s a b ≡ Greater)))
  unfolding lex
  lex-cons-greater = then-greater (exponent n a i) (exponent n b i) (lex n s a b)

pub lex-flip : (n : ℕ) (s : List ℕ) (a b : Row n) → (lex n s a b ≡ Greater) ↔ (lex n s b a ≡ Less)
unfolding lex
lex-flip n [] a b = (λ e. absurd (equal-not-greater e), λ e. absurd (equal-not-less e))
lex-flip n (i ∷ s) a b = Iff.trans (lex-cons-greater n i s a b) (Iff.trans (otherwise (sym, sym) (lex-flip n s a b)) (Iff.symm (lex-cons-less n i s b a)))

pub lex-product : (n : ℕ) (s : List ℕ) (u a b : Row n) → lex n s (product n u a) (product n u b) ≡ lex n s a b
unfolding lex
lex-product n [] u a b = refl
lex-product n (i ∷ s) u a b = simp (lex-cons, exponent-product, compared-sum, lex-product n s u a b)

-- Rows that lex calls equal have the same exponent of each variable of the list.
lex-same : (n : ℕ) {i : ℕ} {s : List ℕ} → Memᴰ i s → (a b : Row n) → lex n s a b ≡ Equal → exponent n a i ≡ exponent n b i
lex-same n (Memᴰ.head {x = v} {xs = s} q) a b e = rw q ((lex-cons-equal n v s a b).0 e).0
lex-same n (Memᴰ.tail {x = v} {xs = s} m) a b e = lex-same n m a b ((lex-cons-equal n v s a b).0 e).1

lex-self : (n : ℕ) (s : List ℕ) (a : Row n) → lex n s a a ≡ Equal
unfolding lex
lex-self n [] a = refl
lex-self n (i ∷ s) a = (lex-cons-equal n i s a a).1 (refl, lex-self n s a)

-- Smaller in the first variable of the list and, where that is equal, in the others: by induction on the list.
lex-wf : (n : ℕ) (s : List ℕ) → WellFounded (LessBy (lex n s))
unfolding lex
lex-wf n [] = record { apply = λ a. Acc.intro a (λ b e. absurd (equal-not-less e)) }
lex-wf n (i ∷ s) = Subrelation.wf (λ a b. (lex-cons-less n i s a b).0) (below-wf (λ a. exponent n a i) (lex-wf n s))

module _ (n : ℕ) (s : List ℕ) (ranks : Ranks n s) where
  pub lex-equal : (a b : Row n) → (lex n s a b ≡ Equal) ↔ (a ≡ b)
  lex-equal a b = (λ e. row-extensional n (λ i h. lex-same n (ranks i h) a b e), λ e. rw e (lex-self n s b))

  pub lex-order : MonomialOrder (monomials n) (LessBy (lex n s))
  unfolding monomials
  lex-order = comparison-order (monomials n) (lex n s) (λ a b. (lex-equal a b).0) (λ a b. (lex-flip n s a b).0) (lex-product n s) (lex-wf n s)

-- There is a place i of the list such that the exponents of the variables at all earlier places j are equal, and that of the variable at i is larger in a.
abbrev pub Leftmost : (n : ℕ) → List ℕ → Row n → Row n → Type 0
Leftmost n s a b = (i : ℕ) × (i < length s) × ((j : ℕ) → j < i → exponent n a (get_or s j 0) ≡ exponent n b (get_or s j 0)) × (exponent n b (get_or s i 0) < exponent n a (get_or s i 0))

leftmost-cons : (n v : ℕ) (s : List ℕ) (a b : Row n)
    → ((exponent n b v < exponent n a v) ⊎ ((exponent n a v ≡ exponent n b v) × Leftmost n s a b)) ↔ Leftmost n (v ∷ s) a b
leftmost-cons n v s a b = (⊎_elim (λ l. (0, omega arith, λ j h. absurd (omega arith), l)) (λ p. further p.0 p.1), back)
  where
    further : exponent n a v ≡ exponent n b v → Leftmost n s a b → Leftmost n (v ∷ s) a b
    further e (i, h, same, l) = (suc i, omega arith, places, l)
      where
        places : (j : ℕ) → j < suc i → exponent n a (get_or (v ∷ s) j 0) ≡ exponent n b (get_or (v ∷ s) j 0)
        places zero k = e
        places (suc j) k = same j (omega arith)

    back : Leftmost n (v ∷ s) a b → (exponent n b v < exponent n a v) ⊎ ((exponent n a v ≡ exponent n b v) × Leftmost n s a b)
    back (zero, h, same, l) = inl l
    back (suc i, h, same, l) = inr (same 0 (omega arith), (i, omega arith, λ j k. same (suc j) (omega arith), l))

pub lex-leftmost : (n : ℕ) (s : List ℕ) (a b : Row n) → (lex n s a b ≡ Greater) ↔ Leftmost n s a b
unfolding lex
lex-leftmost n [] a b = (λ e. absurd (equal-not-greater e), λ d. absurd (omega arith))
lex-leftmost n (v ∷ s) a b = Iff.trans (lex-cons-greater n v s a b) (Iff.trans (otherwise Iff.rfl (lex-leftmost n s a b)) (leftmost-cons n v s a b))

member-cons : {v : ℕ} {s : List ℕ} (i : ℕ) → (¬ (i ≡ v) → Memᴰ i s) → Memᴰ i (v ∷ s)
member-cons {v} {s} i rest = go (ℕ_discrete i v)
  where
    go : Dec (i ≡ v) → Memᴰ i (v ∷ s)
    go (yes e) = Memᴰ.head e
    go (no q) = Memᴰ.tail (rest q)

variables-from-rank : (k v i : ℕ) → v ≤ i → i < v + k → Memᴰ i (variables_from v k)
unfolding variables_from
variables-from-rank zero v i l h = absurd (omega arith)
variables-from-rank (suc k) v i l h = member-cons i (λ q. variables-from-rank k (suc v) i (omega arith) (omega arith))

pub variables-rank : (n : ℕ) → Ranks n (variables n)
unfolding variables
variables-rank n i h = variables-from-rank n 0 i (omega arith) (omega arith)

pub backwards-rank : (n : ℕ) → Ranks n (backwards n)
unfolding backwards
backwards-rank zero i h = absurd (omega arith)
backwards-rank (suc k) i h = member-cons i (λ q. backwards-rank k i (omega arith))

variables-from-length : (k v : ℕ) → length (variables_from v k) ≡ k
unfolding variables_from
variables-from-length zero v = refl
variables-from-length (suc k) v = ap suc (variables-from-length k (suc v))

variables-from-at : (k v j : ℕ) → j < k → get_or (variables_from v k) j 0 ≡ v + j
unfolding variables_from
variables-from-at zero v j h = absurd (omega arith)
variables-from-at (suc k) v zero h = omega arith
variables-from-at (suc k) v (suc j) h = omega (arith, variables-from-at k (suc v) j (omega arith))

module _ (n : ℕ) where
  pub variables-length : length (variables n) ≡ n
  unfolding variables
  variables-length = variables-from-length n 0

  pub variables-at : (j : ℕ) → j < n → get_or (variables n) j 0 ≡ j
  unfolding variables
  variables-at j h = omega (arith, variables-from-at n 0 j h)

  pub variables-leftmost : (a b : Row n) → (lex n (variables n) a b ≡ Greater)
      ↔ ((i : ℕ) × (i < n) × ((j : ℕ) → j < i → exponent n a j ≡ exponent n b j) × (exponent n b i < exponent n a i))
  variables-leftmost a b = Iff.trans (lex-leftmost n (variables n) a b) (
    λ d. let h : d.0 < n = omega (arith, variables-length) in (d.0, h, λ j k. rw (variables-at j (omega arith)) at (d.2 j k), rw (variables-at d.0 h) at d.3),
    λ d. (d.0, omega (arith, variables-length), λ j k. rw (variables-at j (omega arith)) (d.2 j k), rw (variables-at d.0 d.1) d.3),
  )
