-- Inner contracts. Rising lists of monomials, for any order.
--   ListsRising lt P l   l lists the monomials that have P, in rising order
--   leads G              the leading monomials of the lines G
use Rattle.std.specs.Prelude.{List, map}
use Rattle.lists.specs.Lists.{◌∈◌}
use Rattle.groebner.specs.Lines.{Line, RisingList}

-- The monomials that have P, in rising order.
pub record ListsRising {M : Type 0} (lt : M → M → Type 0) (P : M → Type 0) (l : List M) : Type 0 where
  pub rising : RisingList lt l
  pub all : (k : M) → P k → k ∈ l
  pub only : (k : M) → k ∈ l → P k

-- The leading monomials of the lines.
abbrev pub leads : {F M : Type 0} → List (Line F M) → List M
leads G = map (λ g. g.0) G
