-- The rows of exponents of a list of monomials, one after the other, and of one that grows.
--   rows-from    the rows from place k on: that of monomial k, and those from place k + 1 on
--   rows_end     past the last place there is none
--   rows-push    a monomial that is pushed behind the others adds its row
--   rows-store   so does one that is stored behind the first ones
use mathlib.Core.Path.{◌≡◌, ◌∙◌, ap}
use mathlib.Core.List.{List, [], ◌∷◌, ◌++◌, map-append}
use Prim.Native.Nat.{ℕ, suc, ◌+◌, ◌≤◌, ◌<◌}
use native.Mathlib.Numerals.{add-one}
use native.Mathlib.Omega.{arith}
use lib.ListN.{length, get_or, take, drop, set, drop_of_length-le}
use lib.Seq.{drop-cons, take-suc-set}
use Rattle.monomial.specs.Rows.{one}
use Rattle.monomial.specs.Represented.{row}
use Rattle.monomial.specs.declared.Monomial.{Monomial}
use Rattle.staircase.specs.Leads.{rows_of}
use Rattle.staircase.proofs.ArrayRows.{no_monomial, rows-length, rows_at}

module _ (n : ℕ) (ms : List Monomial) where
  pub rows-from : (k : ℕ) → k < length ms → drop k (rows_of n ms) ≡ row n (get_or ms k no_monomial) ∷ drop (k + 1) (rows_of n ms)
  rows-from k h = rw (add-one, ← rows_at n ms k) (drop-cons (rows_of n ms) k (one n) (omega (arith, rows-length n ms)))

  pub rows_end : (k : ℕ) → length ms ≤ k → drop k (rows_of n ms) ≡ []
  rows_end k h = drop_of_length-le (rows_of n ms) {i = k} (omega (arith, rows-length n ms))

  pub rows-push : (m : Monomial) → rows_of n (ms ++ (m ∷ [])) ≡ rows_of n ms ++ (row n m ∷ [])
  unfolding rows_of
  rows-push m = map-append (row n) ms (m ∷ [])

pub rows-store : (n count : ℕ) (ms : List Monomial) (m : Monomial) → count < length ms
    → rows_of n (take (suc count) (set ms count m)) ≡ rows_of n (take count ms) ++ (row n m ∷ [])
rows-store n count ms m h = ap (rows_of n) (take-suc-set ms count m h) ∙ rows-push n (take count ms) m
