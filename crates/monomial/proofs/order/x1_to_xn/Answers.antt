-- `x1_to_xn` meets its contract.
use Prim.Native.Nat.{ℕ, zero, suc, ◌≤◌}
use mathlib.Core.Path.{◌≡◌, refl}
use mathlib.Core.List.{[], ◌∷◌}
use native.Mathlib.Omega.{arith}
use lib.ListN.{take}
use Rattle.monomial.specs.Sizes.{most_variables}
use Rattle.monomial.specs.Orders.{variables}
use Rattle.monomial.proofs.order.x1_to_xn.Goals as goal

first : (n : ℕ) → n ≤ most_variables → take n (0 ∷ 1 ∷ 2 ∷ 3 ∷ []) ≡ variables n
unfolding variables
first zero h = refl
first (suc zero) h = refl
first (suc (suc zero)) h = refl
first (suc (suc (suc zero))) h = refl
first (suc (suc (suc (suc zero)))) h = refl
first (suc (suc (suc (suc (suc n))))) h = absurd (omega arith)

pub returns : goal.returns
returns c n h = first n h
