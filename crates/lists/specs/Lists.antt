-- Believed. Lists: their elements, and what holds of them.
--   x ∈ l          x is an element of the list (◌∈◌)
--   Bytes          lists of bytes
--   Each P l       every element of the list has P
--   Once l         no element stands twice in the list
--   At l i x       x is element i of the list, from 0
use Rattle.std.specs.Prelude.{◌≡◌, ℕ, zero, suc}
use mathlib.Core.List.{List, [], ◌∷◌, Memᴰ}

infix 50 ◌∈◌
-- x is an element of the list.
abbrev pub ◌∈◌ : {A : Type 0} → A → List A → Type 0
x ∈ l = Memᴰ x l

-- A list of bytes.
abbrev pub Bytes : Type 0
Bytes = List ℕ

-- Every element has P.
abbrev pub Each : {A : Type 0} → (A → Type 0) → List A → Type 0
Each P [] = Unit
Each P (x ∷ l) = P x × Each P l

-- No element stands twice.
abbrev pub Once : {A : Type 0} → List A → Type 0
Once [] = Unit
Once (x ∷ l) = ¬ (x ∈ l) × Once l

-- Element i of a list, from 0.
abbrev pub At : {A : Type 0} → List A → ℕ → A → Type 0
At [] i x = ⊥
At (y ∷ l) zero x = x ≡ y
At (y ∷ l) (suc i) x = At l i x
