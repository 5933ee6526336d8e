-- Decisions over the lines of a text, and the smallest line of which a decided check speaks.
--   at?                whether some element of a list has a decided property, with its place
--   on?                whether some line of the text has one
--   on_below           the lines of the text come before line 2 + their number
--   smallest_or_none   the smallest number that has a decided property of bounded numbers, or that none has it
use mathlib.Core.Path.{refl, sym, subst}
use mathlib.Core.List.{List, [], ◌∷◌}
use mathlib.Core.Logic.{◌⊎◌, inl, inr, by_cases}
use Prim.Native.Nat.{ℕ, zero, suc, ◌+◌, ◌<◌}
use native.Mathlib.Decide.{ℕ_discrete}
use native.Mathlib.Omega.{arith}
use lib.ListN.{length}
use Rattle.lists.specs.Lists.{At}
use Rattle.groebner.proofs.Deciding.{as?}
use Rattle.staircase.specs.Conditions.{On}

module _ {A : Type 0} where
  unfoldable pub at? : (l : List A) {P : ℕ → A → Type 0} → ((i : ℕ) (x : A) → Dec (P i x)) → Dec ((i : ℕ) × (x : A) × At l i x × P i x)
  at? [] P? = no (λ (i, x, a, p). a)
  at? (y ∷ l) {P} P? = go (P? 0 y) (at? l (λ i x. P? (suc i) x))
    where
      neither : ¬ P 0 y → ¬ ((i : ℕ) × (x : A) × At l i x × P (suc i) x) → (i : ℕ) (x : A) → At (y ∷ l) i x → ¬ P i x
      neither n r zero x e p = n (subst (P 0) e p)
      neither n r (suc i) x a p = r (i, x, a, p)

      go : Dec (P 0 y) → Dec ((i : ℕ) × (x : A) × At l i x × P (suc i) x) → Dec ((i : ℕ) × (x : A) × At (y ∷ l) i x × P i x)
      go (yes p) r = yes (0, y, refl, p)
      go (no n) (yes (i, x, a, p)) = yes (suc i, x, a, p)
      go (no n) (no r) = no (λ (i, x, a, p). neither n r i x a p)

  unfoldable pub on? : (l : List A) {P : ℕ → A → Type 0} → ((k : ℕ) (x : A) → Dec (P k x)) → Dec ((k : ℕ) × (x : A) × On l k x × P k x)
  unfolding at? as?
  on? l {P} P? = as? (λ (i, x, a, p). (suc (suc i), x, a, p)) (λ (k, x, o, p). back k x o p) (at? l (λ i x. P? (suc (suc i)) x))
    where
      back : (k : ℕ) (x : A) → On l k x → P k x → (i : ℕ) × (x : A) × At l i x × P (suc (suc i)) x
      back zero x o p = absurd o
      back (suc zero) x o p = absurd o
      back (suc (suc i)) x o p = (i, x, o, p)

  at-below : (l : List A) (i : ℕ) (x : A) → At l i x → i < length l
  at-below [] i x a = absurd a
  at-below (y ∷ l) zero x a = omega arith
  at-below (y ∷ l) (suc i) x a = omega (arith, at-below l i x a)

  pub on_below : (l : List A) (k : ℕ) (x : A) → On l k x → k < 2 + length l
  on_below l zero x o = absurd o
  on_below l (suc zero) x o = absurd o
  on_below l (suc (suc i)) x o = omega (arith, at-below l i x o)

module _ {Of : ℕ → Type 0} (of? : (k : ℕ) → Dec (Of k)) where
  unfoldable search_below : (n : ℕ) → ((k : ℕ) × Of k × ((j : ℕ) → j < k → ¬ Of j)) ⊎ ((k : ℕ) → k < n → ¬ Of k)
  search_below zero = inr (λ k l. absurd (omega arith))
  search_below (suc n) = go (search_below n) (of? n)
    where
      go : ((k : ℕ) × Of k × ((j : ℕ) → j < k → ¬ Of j)) ⊎ ((k : ℕ) → k < n → ¬ Of k) → Dec (Of n) → ((k : ℕ) × Of k × ((j : ℕ) → j < k → ¬ Of j)) ⊎ ((k : ℕ) → k < suc n → ¬ Of k)
      go (inl w) d = inl w
      go (inr none) (yes p) = inl (n, p, none)
      go (inr none) (no q) = inr (λ k l. by_cases (ℕ_discrete k n) (λ e. subst (λ (x : ℕ). ¬ Of x) (sym e) q) (λ e. none k (omega arith)))

  unfoldable pub smallest_or_none : (n : ℕ) → ((k : ℕ) → Of k → k < n) → ((k : ℕ) × Of k × ((j : ℕ) → j < k → ¬ Of j)) ⊎ ((k : ℕ) → ¬ Of k)
  unfolding search_below
  smallest_or_none n h = elim (search_below n) [ inl w ↦ inl w | inr none ↦ inr (λ k o. none k (h k o) o) ]
