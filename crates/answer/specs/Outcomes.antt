-- Believed. Outcomes of a text, and the checks that they come from (document 01, "Refused texts").
--   Judged                     refused with a number and a line, or passed
--   refuse◌if◌else◌            a check of a line, and those after it
--   pass                       no check is left
--   refuse◌at_smallest◌else◌   a check that names the smallest line of which it speaks, and those after it
--   refuse◌at_0_if◌else◌       a check that names no line, and those after it
use Rattle.std.specs.Prelude.{ℕ, ◌<◌, ◌≡◌, ◌⊎◌}
use Rattle.std.proofs.Math.Option.{Option, none, some}

-- Refused with document 01's number and line, or passed.
pub data Judged (A : Type 0) : Type 0 where
  refused : (number line : ℕ) → Judged A
  passed : A → Judged A

infixr 10 refuse◌if◌else◌
-- The number is the outcome if P holds; otherwise the checks after it decide. The outcome of a line's checks is a number, or none if all pass.
abbrev pub refuse◌if◌else◌ : ℕ → Type 0 → (Option ℕ → Type 0) → Option ℕ → Type 0
refuse number if P else later = λ o. (P × (o ≡ some number)) ⊎ ((¬ P) × later o)

-- No check is left.
abbrev pub pass : Option ℕ → Type 0
pass o = o ≡ none

infixr 10 refuse◌at_smallest◌else◌ refuse◌at_0_if◌else◌
-- Refused with the smallest line of which the check speaks, or else what the later checks say.
abbrev pub refuse◌at_smallest◌else◌ : {A : Type 0} → ℕ → (ℕ → Type 0) → (Judged A → Type 0) → Judged A → Type 0
refuse number at_smallest Of else later =
    λ o. ((k : ℕ) × Of k × ((j : ℕ) → j < k → ¬ Of j) × (o ≡ refused number k)) ⊎ (((k : ℕ) → ¬ Of k) × later o)

-- Refused with line 0, or else what the later checks say.
abbrev pub refuse◌at_0_if◌else◌ : {A : Type 0} → ℕ → Type 0 → (Judged A → Type 0) → Judged A → Type 0
refuse number at_0_if P else later = λ o. (P × (o ≡ refused number 0)) ⊎ ((¬ P) × later o)
