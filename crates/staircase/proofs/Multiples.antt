-- The search for one of the monomials of a list that divides m.
--   multiple-any        what it finds
--   divides-lead        what the test says of monomial k that is read
--   Searched n ms m k   the monomials from place k on decide
--   searched-none       at first all of them do
--   searched-found      monomial k divides m
--   searched-more       it does not: those from place k + 1 on decide
--   searched-all        none is left
use mathlib.Core.Path.{◌≡◌, refl, sym, ◌∙◌, ap}
use mathlib.Core.Bool.{Bool, true, false, ◌||◌}
use mathlib.Core.List.{List, [], ◌∷◌}
use Prim.Native.Nat.{ℕ, ◌+◌, ◌≤◌, ◌<◌}
use native.Mathlib.Omega.{arith}
use lib.ListN.{length, get_or, drop}
use Rattle.std.specs.List.{list_any}
use Rattle.std.proofs.lemmas.List.{get_or_default}
use Rattle.monomial.specs.Rows.{Row, one}
use Rattle.monomial.specs.Quotients.{divides}
use Rattle.monomial.specs.Represented.{row}
use Rattle.monomial.specs.declared.Monomial.{Monomial}
use Rattle.staircase.specs.Leads.{rows_of, multiple}
use Rattle.staircase.proofs.ArrayRows.{no_monomial, rows_at}
use Rattle.staircase.proofs.RowsInTurn.{rows-from, rows_end}

pub multiple-any : (n : ℕ) (m : Row n) (l : List Monomial) → list_any (λ d. divides n (row n d) m) l ≡ multiple n (rows_of n l) m
unfolding multiple rows_of
multiple-any n m [] = refl
multiple-any n m (d ∷ l) = go (divides n (row n d) m) (multiple-any n m l)
  where
    go : (t : Bool) {u v : Bool} → u ≡ v → (t || u) ≡ elim t [ true ↦ true | false ↦ v ]
    go true e = refl
    go false e = e

pub divides-lead : (n : ℕ) (m : Row n) (ms : List Monomial) (k : ℕ) {d : Monomial} {t : Bool} → t ≡ divides n (row n d) m → d ≡ get_or ms k d → k < length ms
    → t ≡ divides n (get_or (rows_of n ms) k (one n)) m
divides-lead n m ms k {d} e read l = e ∙ ap (λ (r : Row n). divides n r m) (ap (row n) (read ∙ get_or_default ms k d no_monomial l) ∙ sym (rows_at n ms k))

pub record Searched (n : ℕ) (ms : List Monomial) (m : Row n) (k : ℕ) : Type 0 where
  pub within : k ≤ length ms
  pub decides : multiple n (drop k (rows_of n ms)) m ≡ multiple n (rows_of n ms) m

multiple-cons : (n : ℕ) (d : Row n) (s : List (Row n)) (m : Row n) → multiple n (d ∷ s) m ≡ elim (divides n d m) [ true ↦ true | false ↦ multiple n s m ]
unfolding multiple
multiple-cons n d s m = refl

multiple-nil : (n : ℕ) (m : Row n) → multiple n [] m ≡ false
unfolding multiple
multiple-nil n m = refl

pub searched-none : {n : ℕ} {ms : List Monomial} {m : Row n} → Searched n ms m 0
searched-none = record { within = omega arith; decides = refl }

module _ {n : ℕ} {ms : List Monomial} {m : Row n} {k : ℕ} (so_far : Searched n ms m k) where
  -- t is whether monomial k divides m.
  module _ {t : Bool} (here : k < length ms) (e : t ≡ divides n (row n (get_or ms k no_monomial)) m) where
    tested : elim t [ true ↦ true | false ↦ multiple n (drop (k + 1) (rows_of n ms)) m ] ≡ multiple n (rows_of n ms) m
    tested = rw (e, ← multiple-cons, ← rows-from n ms k here) so_far.decides

    pub searched-found : t ≡ true → true ≡ multiple n (rows_of n ms) m
    searched-found q = rw q at tested

    pub searched-more : t ≡ false → Searched n ms m (k + 1)
    searched-more q = record { within = omega arith; decides = rw q at tested }

  pub searched-all : length ms ≤ k → false ≡ multiple n (rows_of n ms) m
  searched-all h = rw (rows_end n ms k h, multiple-nil) at so_far.decides
