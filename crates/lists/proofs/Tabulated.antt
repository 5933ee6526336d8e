-- Lists by their places.
--   length-tabulate, get_d_tabulate   the length, and what stands at a place
--   tabulate-same                    functions that agree give the same list
--   tabulate-of                      a list is tabulated by what stands at its places
--   tabulate-set                     one place of a tabulated list is changed
use mathlib.Core.Path.{◌≡◌, refl, sym, ◌∙◌, ap, ap₂}
use mathlib.Core.List.{List, [], ◌∷◌}
use mathlib.Core.Logic.{◌⊎◌, inl, inr, ⊎_elim, by_cases}
use Prim.Native.Nat.{ℕ, zero, suc, ◌<◌}
use native.Mathlib.Decide.{dec_lt}
use native.Mathlib.Omega.{arith}
use lib.ListN.{length, get_or, set, length-set}
use lib.Seq.{get_or-set_same, get_or-set_other}
use Rattle.lists.specs.Tabulated.{tabulate}

equal-or : (i k : ℕ) → (i ≡ k) ⊎ (¬ (i ≡ k))
equal-or i k = by_cases (dec_lt i k) (λ h. inr (λ e. omega (arith, h, e))) (λ h. by_cases (dec_lt k i) (λ q. inr (λ e. omega (arith, q, e))) (λ q. inl (omega (arith, h, q))))

module _ {A : Type 0} where
  pub length-tabulate : (n : ℕ) (f : ℕ → A) → length (tabulate n f) ≡ n
  unfolding tabulate
  length-tabulate zero f = refl
  length-tabulate (suc n) f = ap suc (length-tabulate n (λ k. f (suc k)))

  pub get_d_tabulate : (n : ℕ) (f : ℕ → A) (k : ℕ) (d : A) → k < n → get_or (tabulate n f) k d ≡ f k
  unfolding tabulate
  get_d_tabulate zero f k d h = absurd (omega (arith, h))
  get_d_tabulate (suc n) f zero d h = refl
  get_d_tabulate (suc n) f (suc k) d h = get_d_tabulate n (λ k. f (suc k)) k d (omega (arith, h))

  pub tabulate-of : (n : ℕ) (f : ℕ → A) (l : List A) (d : A) → length l ≡ n → ((k : ℕ) → k < n → get_or l k d ≡ f k) → l ≡ tabulate n f
  unfolding tabulate
  tabulate-of zero f [] d e h = refl
  tabulate-of zero f (x ∷ l) d e h = absurd (omega (arith, e))
  tabulate-of (suc n) f [] d e h = absurd (omega (arith, e))
  tabulate-of (suc n) f (x ∷ l) d e h = ap₂ ◌∷◌ (h 0 (omega arith)) (tabulate-of n (λ k. f (suc k)) l d (omega (arith, e)) (λ k q. h (suc k) (omega (arith, q))))

  pub tabulate-same : (n : ℕ) (f g : ℕ → A) → ((k : ℕ) → k < n → f k ≡ g k) → tabulate n f ≡ tabulate n g
  unfolding tabulate
  tabulate-same zero f g h = refl
  tabulate-same (suc n) f g h = ap₂ ◌∷◌ (h 0 (omega arith)) (tabulate-same n (λ k. f (suc k)) (λ k. g (suc k)) (λ k q. h (suc k) (omega (arith, q))))

  pub tabulate-set : (n : ℕ) (f g : ℕ → A) (k : ℕ) (x : A) → k < n → g k ≡ x → ((i : ℕ) → ¬ (i ≡ k) → g i ≡ f i) → tabulate n g ≡ set (tabulate n f) k x
  tabulate-set n f g k x h here other = sym (tabulate-of n g (set (tabulate n f) k x) x (simp length-set (length-tabulate n f)) (λ i q. ⊎_elim
      (λ e. ap (λ i. get_or (set (tabulate n f) k x) i x) e ∙ get_or-set_same (tabulate n f) k x x (omega (arith, length-tabulate n f)) ∙ sym here ∙ ap g (sym e))
      (λ e. get_or-set_other (tabulate n f) k i x x e ∙ get_d_tabulate n f i x q ∙ sym (other i e)) (equal-or i k)))
