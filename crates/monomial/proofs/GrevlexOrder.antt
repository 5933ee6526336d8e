-- Grevlex is a monomial ordering.
--   grevlex-then        the degrees decide, and then lex from the last variable on, with a and b exchanged
--   grevlex-tie         at equal degree that lex decides
--   grevlex-by          so say the library's comparison of the degrees and what is answered by it
--   grevlex-less        what Less says
--   grevlex-greater     what Greater says
--   grevlex-equal       only equal rows are called equal
--   grevlex-flip        b against a is a against b, turned round
--   grevlex-product     a monomial multiplied to both changes no answer
--   grevlex-order       grevlex is a monomial ordering
--   Rightmost n k a b   of the first k entries of a - b, the rightmost nonzero one is negative
--   grevlex-rightmost   the degree is higher, or it is equal and the rightmost nonzero entry of a - b is negative (document 01)
use mathlib.Core.Path.{◌≡◌, refl, sym, ◌∙◌, ap}
use mathlib.Core.Logic.Iff
use mathlib.Core.Logic.{◌↔◌, ◌⊎◌, inl, inr, ⊎_elim, ⊎_map}
use mathlib.Core.WellFounded.Acc
use mathlib.Core.WellFounded.Subrelation
use mathlib.Core.WellFounded.{WellFounded}
use Prim.Native.Nat.{ℕ, zero, suc, ◌+◌, ◌<◌}
use native.Mathlib.Decide.{ℕ_discrete}
use native.Mathlib.Omega.{arith}
use Rattle.monomial.specs.Rows.{Row, exponent, product, degree}
use Rattle.monomial.specs.Orders.{compared, lex, backwards, grevlex}
use Rattle.monomial.specs.Ordering.{monomials, LessBy}
use Rattle.monomial.proofs.OrderLaws.{MonomialOrder}
use Rattle.std.specs.declared.cmp.Ordering.{Ordering}
use Rattle.std.specs.Ordering.{MatchOrdering, nat_cmp}
use Rattle.std.proofs.lemmas.Cmp.{by_ranked}
use Rattle.std.specs.declared.cmp.Ordering.TheVariants.{Less, Equal, Greater}
use Rattle.monomial.proofs.Products.{degree-product}
use Rattle.monomial.proofs.Comparisons.{compared-equal, compared-cmp, compared-sum, equal-not-less, equal-not-greater, then, then_less, then_equal, then-greater}
use Rattle.monomial.proofs.Comparisons.{otherwise, BelowBy, below-wf, comparison-order}
use Rattle.monomial.proofs.LexOrder.{lex-cons-less, lex-cons-greater, lex-flip, lex-equal, lex-product, backwards-rank}

module _ (n : ℕ) (a b : Row n) where
  pub grevlex-then : grevlex n a b ≡ then (compared (degree n a) (degree n b)) (lex n (backwards n) b a)
  unfolding grevlex
  grevlex-then = refl

  pub grevlex-tie : degree n a ≡ degree n b → grevlex n a b ≡ lex n (backwards n) b a
  grevlex-tie e = rw (grevlex-then, (compared-equal (degree n a) (degree n b)).1 e)

  -- o is the library's comparison of the degrees.
  module _ {x y : ℕ} {o : Ordering} (d : x ≡ degree n a) (e : y ≡ degree n b) (of-degrees : o ≡ nat_cmp x y) where
    decides : then o (lex n (backwards n) b a) ≡ grevlex n a b
    decides = rw (of-degrees, compared-cmp, d, e) (sym grevlex-then)

    pub grevlex-by : {r : Ordering} {Tie : Type 0} → MatchOrdering o (r ≡ Less) Tie (r ≡ Greater) → (Tie → r ≡ lex n (backwards n) b a) → r ≡ grevlex n a b
    grevlex-by h tie = by_ranked _ _ _ o h (λ l q. q ∙ rw l at decides) (λ l q. tie q ∙ rw l at decides) (λ l q. q ∙ rw l at decides)

  pub grevlex-less : (grevlex n a b ≡ Less) ↔ ((degree n a < degree n b) ⊎ ((degree n a ≡ degree n b) × (lex n (backwards n) b a ≡ Less)))
  unfolding grevlex
  grevlex-less = then_less (degree n a) (degree n b) (lex n (backwards n) b a)

  pub grevlex-greater : (grevlex n a b ≡ Greater) ↔ ((degree n b < degree n a) ⊎ ((degree n a ≡ degree n b) × (lex n (backwards n) b a ≡ Greater)))
  unfolding grevlex
  grevlex-greater = then-greater (degree n a) (degree n b) (lex n (backwards n) b a)

  pub grevlex-equal : (grevlex n a b ≡ Equal) ↔ (a ≡ b)
  unfolding grevlex
  grevlex-equal = let same = lex-equal n (backwards n) (backwards-rank n) b a in
      Iff.trans (then_equal (degree n a) (degree n b) (lex n (backwards n) b a)) (λ p. sym (same.0 p.1), λ e. (ap (degree n) e, same.1 (sym e)))

module _ (n : ℕ) where
  pub grevlex-flip : (a b : Row n) → (grevlex n a b ≡ Greater) ↔ (grevlex n b a ≡ Less)
  grevlex-flip a b = Iff.trans (grevlex-greater n a b) (Iff.trans (otherwise (sym, sym) (lex-flip n (backwards n) b a)) (Iff.symm (grevlex-less n b a)))

  pub grevlex-product : (u a b : Row n) → grevlex n (product n u a) (product n u b) ≡ grevlex n a b
  grevlex-product u a b = simp (grevlex-then, degree-product, compared-sum, lex-product)

-- The sum of the exponents of the first k variables.
abbrev prefix_sum : (n : ℕ) → ℕ → Row n → ℕ
prefix_sum n zero a = 0
prefix_sum n (suc k) a = prefix_sum n k a + exponent n a k

prefix-sum-cons : (n k : ℕ) (a : Row (suc n)) → prefix_sum (suc n) (suc k) a ≡ a.0 + prefix_sum n k a.1
unfolding exponent
prefix-sum-cons n zero a = omega arith
prefix-sum-cons n (suc k) a = omega (arith, prefix-sum-cons n k a)

degree-prefix-sum : (n : ℕ) (a : Row n) → degree n a ≡ prefix_sum n n a
unfolding degree
degree-prefix-sum zero a = refl
degree-prefix-sum (suc n) a = omega (arith, degree-prefix-sum n a.1, prefix-sum-cons n n a)

-- Equal sums of the first k exponents, and the last of these in which a and b differ is larger in a.
abbrev Reversed : (n k : ℕ) → Row n → Row n → Type 0
Reversed n k a b = (prefix_sum n k a ≡ prefix_sum n k b) × (lex n (backwards k) b a ≡ Less)

-- Grevlex is lex on the prefix sums, last one first: at equal sums of the first k + 1 exponents, a larger exponent k is a smaller sum of the first k.
reversed-wf : (n k : ℕ) → WellFounded (Reversed n k)
unfolding lex backwards
reversed-wf n zero = record { apply = λ a. Acc.intro a (λ b p. absurd (equal-not-less p.1)) }
reversed-wf n (suc k) = Subrelation.wf smaller (below-wf (prefix_sum n k) (reversed-wf n k))
  where
    smaller : (a b : Row n) → Reversed n (suc k) a b → BelowBy (prefix_sum n k) (Reversed n k) a b
    smaller a b (e, l) = ⊎_map (λ h. omega arith) (λ p. let q : prefix_sum n k a ≡ prefix_sum n k b = omega arith in (q, (q, p.1))) ((lex-cons-less n k (backwards k) b a).0 l)

grevlex-wf : (n : ℕ) → WellFounded (LessBy (grevlex n))
grevlex-wf n = Subrelation.wf smaller (below-wf (prefix_sum n n) (reversed-wf n n))
  where
    smaller : (a b : Row n) → grevlex n a b ≡ Less → BelowBy (prefix_sum n n) (Reversed n n) a b
    smaller a b e = rw (← degree-prefix-sum n a, ← degree-prefix-sum n b) (⊎_map (λ l. l) (λ p. (p.0, p)) ((grevlex-less n a b).0 e))

pub grevlex-order : (n : ℕ) → MonomialOrder (monomials n) (LessBy (grevlex n))
unfolding monomials
grevlex-order n = comparison-order (monomials n) (grevlex n) (λ a b. (grevlex-equal n a b).0) (λ a b. (grevlex-flip n a b).0) (grevlex-product n) (grevlex-wf n)

-- Of the first k variables, i is the last in which the exponents differ, and its exponent in a is the smaller.
abbrev pub Rightmost : (n k : ℕ) → Row n → Row n → Type 0
Rightmost n k a b = (i : ℕ) × (i < k) × ((j : ℕ) → i < j → j < k → exponent n a j ≡ exponent n b j) × (exponent n a i < exponent n b i)

rightmost-suc : (n k : ℕ) (a b : Row n) → ((exponent n a k < exponent n b k) ⊎ ((exponent n a k ≡ exponent n b k) × Rightmost n k a b)) ↔ Rightmost n (suc k) a b
rightmost-suc n k a b = (⊎_elim (λ l. (k, omega arith, λ j h m. absurd (omega arith), l)) (λ p. further p.0 p.1), back)
  where
    further : exponent n a k ≡ exponent n b k → Rightmost n k a b → Rightmost n (suc k) a b
    further e (i, h, same, l) = (i, omega arith, λ j m p. places j m p (ℕ_discrete j k), l)
      where
        places : (j : ℕ) → i < j → j < suc k → Dec (j ≡ k) → exponent n a j ≡ exponent n b j
        places j m p (yes q) = rw q e
        places j m p (no q) = same j m (omega arith)

    back : Rightmost n (suc k) a b → (exponent n a k < exponent n b k) ⊎ ((exponent n a k ≡ exponent n b k) × Rightmost n k a b)
    back (i, h, same, l) = go (ℕ_discrete i k)
      where
        go : Dec (i ≡ k) → (exponent n a k < exponent n b k) ⊎ ((exponent n a k ≡ exponent n b k) × Rightmost n k a b)
        go (yes q) = inl (rw q at l)
        go (no q) = inr (same k (omega arith) (omega arith), (i, omega arith, λ j m p. same j m (omega arith), l))

backwards-rightmost : (n k : ℕ) (a b : Row n) → (lex n (backwards k) b a ≡ Greater) ↔ Rightmost n k a b
unfolding lex backwards
backwards-rightmost n zero a b = (λ e. absurd (equal-not-greater e), λ d. absurd (omega arith))
backwards-rightmost n (suc k) a b = Iff.trans (lex-cons-greater n k (backwards k) b a) (Iff.trans (otherwise (sym, sym) (backwards-rightmost n k a b)) (rightmost-suc n k a b))

pub grevlex-rightmost : (n : ℕ) (a b : Row n) → (grevlex n a b ≡ Greater) ↔ ((degree n b < degree n a) ⊎ ((degree n a ≡ degree n b) × Rightmost n n a b))
grevlex-rightmost n a b = Iff.trans (grevlex-greater n a b) (otherwise Iff.rfl (backwards-rightmost n n a b))
