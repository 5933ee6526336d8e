-- The calls of `enumerate` that are told the number of variables.
--   next-asks    what `next` asks at the number that it is told
--   next-gives   what it gives
--   rank-gives   what `rank` gives
use mathlib.Core.Path.{◌≡◌}
use mathlib.Core.List.{List}
use Prim.Native.Nat.{ℕ, ◌<◌}
use lib.ListN.{take}
use Rattle.std.specs.Prelude.{Option}
use Rattle.monomial.specs.Rows.{exponent}
use Rattle.monomial.specs.Represented.{row, most_entry}
use Rattle.monomial.specs.Ranks.{rank_of, Short}
use Rattle.monomial.specs.declared.Monomial.{Monomial}
use Rattle.groebner.specs.Next.{RanksOnce}
use Rattle.lines.specs.Bases.{Padded}
use Rattle.staircase.specs.Leads.{lead_monomials, multiple, FoundNext}

module _ {k n : ℕ} (m : Monomial) where
  pub next-asks : (s : List ℕ) → RanksOnce n (take n s) × Padded n m × ((i : ℕ) → i < n → exponent n (row n m) i < most_entry) → k ≡ n
      → RanksOnce k (take k s) × Padded k m × ((i : ℕ) → i < k → exponent k (row k m) i < most_entry)
  next-asks s asked e = rw e asked

  pub next-gives : (s : List ℕ) (ls : List Monomial) {r : Option Monomial} → FoundNext k (take k s) (multiple k (lead_monomials k ls)) (row k m) r → k ≡ n
      → FoundNext n (take n s) (multiple n (lead_monomials n ls)) (row n m) r
  next-gives s ls found e = rw e at found

  pub rank-gives : {u : ℕ} → (u ≡ rank_of k (row k m)) × Short k (row k m) → k ≡ n → (u ≡ rank_of n (row n m)) × Short n (row n m)
  rank-gives given e = rw e at given
