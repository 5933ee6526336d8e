-- The ranks of lists of monomials of the code.
--   IsRank n m w   w is the rank of m
--   list-ranked    the ranks that `ranks_of` has listed after the last turn
--   ranks-rising   the ranks of a rising list rise
--   rank-place     the place of a rank is that of the monomial
use mathlib.Core.Path.{◌≡◌, refl, sym, ◌∙◌, ap}
use mathlib.Core.List.{List}
use Prim.Native.Nat.{ℕ, ◌<◌}
use native.Mathlib.Omega.{arith}
use lib.ListN.{length, get_or}
use Rattle.std.specs.Prelude.{Option, Some, None}
use Rattle.lists.proofs.Pushing.{Pushed}
use Rattle.monomial.specs.Rows.{Row, one}
use Rattle.monomial.specs.Ordering.{Grevlex}
use Rattle.monomial.specs.Represented.{row}
use Rattle.monomial.specs.Ranks.{rank_of, Short, RanksOf, FirstRank, RisingRanks}
use Rattle.monomial.specs.declared.Monomial.{Monomial}
use Rattle.monomial.proofs.RankOrder.{rank-injective}
use Rattle.monomial.proofs.RankPlaces.{ranks-less}
use Rattle.groebner.specs.Lines.{RisingList}
use Rattle.staircase.specs.Leads.{rows_of}
use Rattle.staircase.specs.Listed.{Place}
use Rattle.staircase.proofs.ArrayRows.{no_monomial, rows_at}
use Rattle.staircase.proofs.RisingPlaces.{rising-at}

-- w is the rank of m, whose exponents are digits.
abbrev pub IsRank : (n : ℕ) → Row n → ℕ → Type 0
IsRank n m w = (w ≡ rank_of n m) × Short n m

pub list-ranked : (n : ℕ) (ms : List Monomial) {ranks : List ℕ} {k : ℕ} → Pushed (λ j w. IsRank n (row n (get_or ms j no_monomial)) w) 0 ranks k
    → k ≡ length ms → (length ranks ≡ length ms) × RanksOf n (rows_of n ms) (length ms) ranks
list-ranked n ms pushed e = (
  pushed.size ∙ e,
  record {
    many = omega (arith, pushed.size, e);
    rank = λ j u. (pushed.stored j (omega (arith, u, e))).0 ∙ ap (rank_of n) (sym (rows_at n ms j));
    short = λ j u. rw (rows_at n ms j) (pushed.stored j (omega (arith, u, e))).1;
  },
)

pub ranks-rising : (n : ℕ) {B : List (Row n)} {count : ℕ} {ranks : List ℕ} → RanksOf n B count ranks → RisingList (Grevlex n) B → length B ≡ count → RisingRanks ranks count
ranks-rising n {B} are rising size j k h u = (ranks-less n are j k (omega (arith, h, u)) u).0 (rising-at (Grevlex n) B (one n) rising j k h (omega (arith, u, size)))

pub rank-place : (n : ℕ) {B : List (Row n)} {count : ℕ} {ranks : List ℕ} {m : Row n} {w : ℕ} → RanksOf n B count ranks → length B ≡ count
    → IsRank n m w → (r : Option ℕ) → FirstRank ranks count w r → Place n B m r
rank-place n {B} {count} {ranks} {m} are size (e, s) (Some r) p =
    let q = p.some r refl in record {
      within = omega (arith, q.within, size);
      found = rank-injective n _ m (are.short r q.within) s (sym (are.rank r q.within) ∙ q.found ∙ e);
      first = λ j h f. let u : j < count = omega (arith, q.within) in q.first j h (are.rank j u ∙ ap (rank_of n) f ∙ sym e);
    }
rank-place n {B} {count} {ranks} {m} are size (e, s) None p =
    λ k u f. let v : k < count = omega (arith, size) in p.none refl k v (are.rank k v ∙ ap (rank_of n) f ∙ sym e)
