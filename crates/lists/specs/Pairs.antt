-- Inner contracts. Pairs of elements of a list.
--   Before f g l   f stands before g in the list
use Rattle.std.specs.Prelude.{◌≡◌, List, [], ◌∷◌, ◌⊎◌}
use Rattle.lists.specs.Lists.{◌∈◌}

-- f stands before g in the list.
abbrev pub Before : {A : Type 0} → A → A → List A → Type 0
Before f g [] = ⊥
Before f g (h ∷ l) = ((f ≡ h) × (g ∈ l)) ⊎ Before f g l
