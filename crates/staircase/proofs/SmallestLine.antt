-- The smallest line of which a check speaks (checks 12 and 15).
--   smallest-unique   there is one answer
--   ByPlaces Of P n   line k of n poly lines has Of exactly if P holds at its place
--   smallest-found    the first place at which P holds is that of the smallest line
--   smallest-none     if P holds at no place, the answer is that there is none
--   smallest-passes   that answer says that the check speaks of no line
use mathlib.Core.Path.{◌≡◌, refl, ap}
use mathlib.Core.Logic.{◌↔◌, by_cases}
use Prim.Native.Nat.{ℕ, ◌+◌, ◌<◌}
use native.Mathlib.Decide.{dec_lt}
use native.Mathlib.Omega.{arith}
use Rattle.std.specs.Prelude.{Option, Some, None}
use Rattle.staircase.specs.LeastNumber.{Smallest}

pub smallest-unique : (Of : ℕ → Type 0) {r s : Option ℕ} → Smallest Of r → Smallest Of s → r ≡ s
smallest-unique Of {r = Some r} {s = Some s} (a, p) (b, q) =
    ap Some (by_cases (dec_lt r s) (λ l. absurd (q r l a)) (λ n. by_cases (dec_lt s r) (λ l. absurd (p s l b)) (λ m. omega arith)))
smallest-unique Of {r = Some r} {s = None} (a, p) q = absurd (q r a)
smallest-unique Of {r = None} {s = Some s} p (b, q) = absurd (p s b)
smallest-unique Of {r = None} {s = None} p q = refl

pub smallest-passes : {Of : ℕ → Type 0} → Smallest Of None → (k : ℕ) → ¬ Of k
smallest-passes p = p

-- Line k has Of exactly if P holds at its place, k - 2, which is one of n.
abbrev pub ByPlaces : (ℕ → Type 0) → (ℕ → Type 0) → ℕ → Type 0
ByPlaces Of P n = (k : ℕ) → Of k ↔ ((i : ℕ) × (k ≡ i + 2) × (i < n) × P i)

module _ {Of P : ℕ → Type 0} {n : ℕ} (places : ByPlaces Of P n) where
  pub smallest-found : (i : ℕ) → i < n → P i → ((k : ℕ) → k < i → ¬ P k) → Smallest Of (Some (i + 2))
  smallest-found i l a none = ((places (i + 2)).1 (i, refl, l, a), λ j m o. let (k, e, h, q) = (places j).0 o in none k (omega arith) q)

  pub smallest-none : ((k : ℕ) → k < n → ¬ P k) → Smallest Of None
  smallest-none none = λ j o. let (k, e, h, q) = (places j).0 o in none k h q
