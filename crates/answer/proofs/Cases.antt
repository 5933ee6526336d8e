-- Outcomes, the checks that they come from, and the output bytes afterwards, on small cases.
--   bytes-after      a refusal leaves the bytes as they were; a text stands before those that it leaves
--   first-check      of two checks that hold the first decides
--   smallest-line    a check names the smallest line of which it holds
use mathlib.Core.Path.{◌≡◌, refl, ◌∙◌, ap}
use mathlib.Core.List.{[], ◌∷◌}
use mathlib.Core.Logic.{inl, inr, by_cases}
use mathlib.Core.Option.{Option, some}
use Prim.Native.Nat.{ℕ, ◌≤◌}
use native.Mathlib.Decide.{dec_lt}
use native.Mathlib.Omega.{arith}
use Rattle.lists.specs.Lists.{Bytes}
use Rattle.answer.specs.Outcomes.{Judged, refused, passed, refuse◌if◌else◌, pass, refuse◌at_smallest◌else◌}
use Rattle.answer.specs.Answers.{returned, after}

pub bytes-after : (returned (refused 6 3) ≡ (6, 3)) × (after (refused 6 3) (7 ∷ 8 ∷ 9 ∷ []) ≡ 7 ∷ 8 ∷ 9 ∷ [])
    × (returned (passed (4 ∷ 5 ∷ [])) ≡ (0, 2)) × (after (passed (4 ∷ 5 ∷ [])) (7 ∷ 8 ∷ 9 ∷ []) ≡ 4 ∷ 5 ∷ 9 ∷ [])
bytes-after = (refl, refl, refl, refl)

pub first-check : (o : Option ℕ) → (refuse 6 if Unit else refuse 7 if Unit else pass) o → o ≡ some 6
first-check o (inl (_, e)) = e
first-check o (inr (n, _)) = absurd (n tt)

pub smallest-line : (o : Judged Bytes) → (refuse 12 at_smallest (λ k. 2 ≤ k) else λ _. ⊥) o → o ≡ refused 12 2
smallest-line o (inl (k, h, least, e)) =
    let same : k ≡ 2 = by_cases (dec_lt 2 k) (λ l. absurd (least 2 l (omega arith))) (λ l. omega arith) in
    e ∙ ap (refused 12) same
smallest-line o (inr (n, _)) = absurd (n 2 (omega arith))
