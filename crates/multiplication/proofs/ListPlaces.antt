-- The place of a rank among those of a list.
--   list-place   it is that of the monomial
--   place-some   there is one, where the monomial is in the list
use mathlib.Core.Path.{◌≡◌, refl, subst}
use mathlib.Core.List.{List}
use Prim.Native.Nat.{ℕ}
use lib.ListN.{length}
use Rattle.std.specs.Prelude.{Option, Some, None, IsSome}
use Rattle.monomial.specs.Rows.{Row}
use Rattle.monomial.specs.Ranks.{RanksOf, FirstRank}
use Rattle.monomial.specs.declared.Monomial.{Monomial}
use Rattle.staircase.specs.Listed.{listed, Place}
use Rattle.staircase.proofs.ArrayRows.{rows-length}
use Rattle.staircase.proofs.RankedLists.{IsRank, rank-place}

pub list-place : (n : ℕ) (l : List Monomial) {ranks : List ℕ} {m : Row n} {w : ℕ} → length ranks ≡ length l → RanksOf n (listed n l) (length l) ranks
    → IsRank n m w → (r : Option ℕ) → FirstRank ranks (length ranks) w r → Place n (listed n l) m r
list-place n l {ranks} {w = w} size are is r first = rank-place n are (rows-length n l) is r (subst (λ k. FirstRank ranks k w r) size first)

pub place-some : (n : ℕ) (B : List (Row n)) {m : Row n} (r : Option ℕ) → Place n B m r → ¬ Place n B m None → IsSome r
place-some n B None none h = absurd (h none)
place-some n B (Some k) _ _ = refl
