-- The elements of a list: deciding whether one is there, and what holds of each when the list grows.
--   member?         whether an element stands in the list
--   each-extended   what holds of the elements of xs and of q holds of those of xs ++ [q]
--   each-inserted   the same for the images of the elements of xs, and q
use mathlib.Core.Path.{◌≡◌, sym, subst}
use mathlib.Core.List.Memᴰ
use mathlib.Core.List.{List, [], ◌∷◌, ◌++◌, map}
use mathlib.Core.Logic.{◌⊎◌, inl, inr}
use Rattle.lists.specs.Lists.{◌∈◌}
use Rattle.groebner.proofs.Lists.{of_map}

pub member? : {A : Type 0} → ((a b : A) → Dec (a ≡ b)) → (a : A) (l : List A) → Dec (a ∈ l)
member? same? a [] = no Memᴰ.not-nil
member? {A} same? a (b ∷ l) = step (same? a b) (member? same? a l)
  where
    step : Dec (a ≡ b) → Dec (a ∈ l) → Dec (a ∈ (b ∷ l))
    step (yes e) d = yes (Memᴰ.head e)
    step (no n) (yes i) = yes (Memᴰ.tail i)
    step (no n) (no k) = no (λ i. none (Memᴰ.cases_cons i))
      where
        none : (a ≡ b) ⊎ a ∈ l → ⊥
        none (inl e) = n e
        none (inr i) = k i

module _ {A : Type 0} (P : A → Type 0) where
  pub each-extended : (xs : List A) (q : A) → ((x : A) → x ∈ xs → P x) → P q → (y : A) → y ∈ (xs ++ (q ∷ [])) → P y
  each-extended xs q h p y i = step (Memᴰ.append_cases xs i)
    where
      step : y ∈ xs ⊎ y ∈ (q ∷ []) → P y
      step (inl j) = h y j
      step (inr j) = subst P (sym (Memᴰ.eq_of_singleton j)) p

  pub each-inserted : {X : Type 0} (f : X → A) (xs : List X) (q : A) → ((x : X) → x ∈ xs → P (f x)) → P q → (y : A) → y ∈ (map f xs ++ (q ∷ [])) → P y
  each-inserted {X} f xs q h = each-extended (map f xs) q (λ y i. step y (of_map f xs i))
    where
      step : (y : A) → (x : X) × x ∈ xs × (y ≡ f x) → P y
      step y s = subst P (sym s.2) (h s.0 s.1)
