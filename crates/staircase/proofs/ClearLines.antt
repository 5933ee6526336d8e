-- Check 12 is the condition of a reduced basis: it speaks of no line exactly if the lines are clear.
--   before_at, at_before   f stands before g: at an earlier place
--   on-before              the earlier of two lines of the text stands before the later
--   divided-clear          check 12 speaks of no line: no monomial of a line is divisible by another line's leading monomial
--   divided-reduced        that is: each line stands once, and part (2) of 001's definition 1.6 holds
use mathlib.Core.Path.{◌≡◌}
use mathlib.Core.List.{List, [], ◌∷◌}
use mathlib.Core.Logic.Iff
use mathlib.Core.Logic.{inl, inr, ◌↔◌, by_cases}
use Prim.Native.Nat.{ℕ, zero, suc, ◌<◌}
use native.Mathlib.Decide.{dec_lt}
use native.Mathlib.Omega.{arith}
use Rattle.lists.specs.Lists.{◌∈◌, Once, At}
use Rattle.lists.specs.Pairs.{Before}
use Rattle.lists.proofs.Elements.{at_in, at_of}
use Rattle.residue.specs.Field.{Arithmetic}
use Rattle.monomial.specs.Ordering.{Monomials, Divides}
use Rattle.monomial.proofs.OrderLaws.{MonomialLaws}
use Rattle.groebner.specs.Polynomials.{All}
use Rattle.groebner.specs.Lines.{Line, polynomial}
use Rattle.groebner.specs.Criteria.{Clear}
use Rattle.groebner.proofs.Terms.{all-at, all_of}
use Rattle.groebner.proofs.Clear.{clear-iff}
use Rattle.staircase.specs.Conditions.{On, Divided}

module _ {A : Type 0} where
  pub before_at : (f g : A) (l : List A) → Before f g l → (i : ℕ) × (j : ℕ) × (i < j) × At l i f × At l j g
  before_at f g [] b = absurd b
  before_at f g (x ∷ l) (inl (e, q)) = let (j, a) = at_of l q in (0, suc j, omega arith, e, a)
  before_at f g (x ∷ l) (inr b) = let (i, j, h, p, q) = before_at f g l b in (suc i, suc j, omega arith, p, q)

  pub at_before : (f g : A) (l : List A) (i j : ℕ) → i < j → At l i f → At l j g → Before f g l
  at_before f g [] i j h p q = absurd p
  at_before f g (x ∷ l) zero zero h p q = absurd (omega arith)
  at_before f g (x ∷ l) zero (suc j) h p q = inl (p, at_in l j q)
  at_before f g (x ∷ l) (suc i) zero h p q = absurd (omega arith)
  at_before f g (x ∷ l) (suc i) (suc j) h p q = inr (at_before f g l i j (omega arith) p q)

  -- Two lines of the text.
  pub on-before : (f g : A) (l : List A) (i j : ℕ) → i < j → On l i f → On l j g → Before f g l
  on-before f g l zero j h p q = absurd p
  on-before f g l (suc zero) j h p q = absurd p
  on-before f g l (suc (suc i)) zero h p q = absurd q
  on-before f g l (suc (suc i)) (suc zero) h p q = absurd q
  on-before f g l (suc (suc i)) (suc (suc j)) h p q = at_before f g l i j (omega arith) p q

module _ {F M : Type 0} (R : Arithmetic F) (𝓜 : Monomials M) (G : List (Line F M)) where
  clear-of-undivided : ((k : ℕ) → ¬ Divided R 𝓜 G k) → Clear R 𝓜 G
  clear-of-undivided none f g b =
      let (i, j, h, p, q) = before_at f g G b in (
        free f g (suc (suc i)) (suc (suc j)) p q (λ e. omega arith),
        free g f (suc (suc j)) (suc (suc i)) q p (λ e. omega arith),
      )
    where
      free : (f g : Line F M) (i j : ℕ) → On G i f → On G j g → ¬ (j ≡ i) → All (λ m. ¬ Divides 𝓜 g.0 m) (polynomial R f)
      free f g i j p q n = all_of (polynomial R f) (λ c m t v. none i (record { g = f; h = g; j = j; line = p; other = q; different = n; term = (c, m); of_line = t; divides = v }))

  undivided-of-clear : Clear R 𝓜 G → (k : ℕ) → ¬ Divided R 𝓜 G k
  undivided-of-clear clear k w = by_cases (dec_lt k w.j)
      (λ l. all-at (clear w.g w.h (on-before w.g w.h G k w.j l w.line w.other)).0 w.of_line w.divides)
      (λ l. all-at (clear w.h w.g (on-before w.h w.g G w.j k (after l) w.other w.line)).1 w.of_line w.divides)
    where
      after : ¬ (k < w.j) → w.j < k
      after l = by_cases (dec_lt w.j k) (λ m. m) (λ m. absurd (w.different (omega arith)))

  pub divided-clear : ((k : ℕ) → ¬ Divided R 𝓜 G k) ↔ Clear R 𝓜 G
  divided-clear = (clear-of-undivided, undivided-of-clear)

  pub divided-reduced : MonomialLaws 𝓜 → ((k : ℕ) → ¬ Divided R 𝓜 G k)
      ↔ (Once G × ((p q : Line F M) → p ∈ G → q ∈ G → ¬ (p ≡ q) → All (λ m. ¬ Divides 𝓜 q.0 m) (polynomial R p)))
  divided-reduced laws = Iff.trans divided-clear (clear-iff R laws G)
