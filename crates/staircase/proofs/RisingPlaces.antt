-- The places of a rising list.
--   rising-at   an earlier element is smaller
use mathlib.Core.List.{List, [], ◌∷◌}
use Prim.Native.Nat.{ℕ, zero, suc, ◌<◌}
use native.Mathlib.Omega.{arith}
use lib.ListN.{length, get_or}
use Rattle.lists.proofs.Elements.{element-in}
use Rattle.groebner.specs.Lines.{RisingList}

pub rising-at : {M : Type 0} (lt : M → M → Type 0) (l : List M) (d : M) → RisingList lt l → (i j : ℕ) → i < j → j < length l → lt (get_or l i d) (get_or l j d)
rising-at lt [] d r i j h k = absurd (omega arith)
rising-at lt (x ∷ l) d r i zero h k = absurd (omega arith)
rising-at lt (x ∷ l) d r zero (suc j) h k = r.0 (get_or l j d) (element-in d l j (omega arith))
rising-at lt (x ∷ l) d r (suc i) (suc j) h k = rising-at lt l d r.1 i j (omega arith) (omega arith)
