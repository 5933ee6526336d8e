-- The smallest line of which a check speaks, refused.
--   smallest-refuses    the line that is found is that of the refusal
use mathlib.Core.Path.{refl}
use mathlib.Core.Logic.{inl}
use Prim.Native.Nat.{ℕ}
use Rattle.std.specs.Prelude.{Some}
use Rattle.answer.specs.Outcomes.{Judged, refused, refuse◌at_smallest◌else◌}
use Rattle.staircase.specs.LeastNumber.{Smallest}

module _ {Of : ℕ → Type 0} where
  pub smallest-refuses : {A : Type 0} (number : ℕ) {r : ℕ} (later : Judged A → Type 0) → Smallest Of (Some r) → (refuse number at_smallest Of else later) (refused number r)
  smallest-refuses number {r} later (a, p) = inl (r, a, p, refl)
