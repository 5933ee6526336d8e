-- Ranks and their places: equal ranks are those of equal monomials.
--   rank_same                              the test of two ranks is that of their monomials
--   ranks-less                             a smaller rank of a list is that of a smaller monomial
--   ranks-bounded, variables-bounded       the ranks of a list are below above_ranks, and those of the variables
--   bounded-front                          the first ranks, as a list of their own, are bounded
--   first-front, next-front                what was found among them was found among the first ranks
--   rank-found, rank-nowhere               a rank is sought one by one: it is found, and it is nowhere
--   unseen_from, rank-passed               in rising ranks: it is sought from a place on, and a greater rank is found
--   sought-from                            what `place_after` finds
--   RanksStored n f count ranks₀ ranks k   the loop of `put_variable_ranks`: the first k ranks of the monomials f 0, f 1, .. are stored
--   ranks-none, ranks-more, ranks-all      before the first turn, after a turn, and after the last
--   variables-ranked                       after the last, of the variables
use mathlib.Core.Path.{◌≡◌, sym, ◌∙◌, ap, subst}
use mathlib.Core.List.{List}
use mathlib.Core.Bool.{true}
use mathlib.Core.Logic.{◌↔◌, ⊎_elim, by_cases}
use Prim.Native.Nat.{ℕ, ◌+◌, ◌≤◌, ◌<◌}
use native.Mathlib.Decide.{dec_lt}
use native.Mathlib.Omega.{arith}
use borrow.Author.Tests.{eq-eqb, eqb-true}
use lib.Dec.{eqb}
use lib.ListN.{length, get_or, set, take, drop}
use Rattle.std.proofs.lemmas.List.{get_or-take, length-take-le, get_or-drop, length-drop, take_all}
use Rattle.std.proofs.lemmas.Bool.{cases_lt}
use Rattle.std.proofs.lemmas.List.Sorted.{searched}
use Rattle.std.specs.Prelude.{◌-◌, Option, Some, None, Result, Ok, Err, MatchOption}
use Rattle.std.specs.Result.{result_ok}
use Rattle.std.specs.Ordering.{nat_cmp}
use Rattle.std.specs.List.Sorted.{IsBinarySearchResult}
use Rattle.lists.proofs.Sought.{Unseen}
use Rattle.lists.proofs.Storing.{FilledTo, stored-none, stored_more}
use Rattle.monomial.specs.Sizes.{most_variables}
use Rattle.monomial.specs.Rows.{Row, one}
use Rattle.monomial.specs.Quotients.{variable}
use Rattle.monomial.specs.Ordering.{Grevlex}
use Rattle.monomial.specs.Ranks.{rank_of, Short, RanksOf, VariableRanks, RankAt, FirstRank, RisingRanks, Bounded, NextRank}
use Rattle.monomial.proofs.RankOrder.{rank_less, rank-injective, rank-small}

module _ (n : ℕ) where
  pub rank_same : {a b : Row n} {x y : ℕ} → (x ≡ rank_of n a) × Short n a → (y ≡ rank_of n b) × Short n b → (eqb x y ≡ true) ↔ (a ≡ b)
  rank_same {a} {b} {x} {y} (p, s) (q, t) = (λ e. rank-injective n a b s t (sym p ∙ eqb-true x y e ∙ q), λ e. eq-eqb x y (p ∙ ap (rank_of n) e ∙ sym q))

  pub ranks-less : {B : List (Row n)} {count : ℕ} {ranks : List ℕ} → RanksOf n B count ranks → (j k : ℕ) → j < count → k < count
      → Grevlex n (get_or B j (one n)) (get_or B k (one n)) ↔ (get_or ranks j 0 < get_or ranks k 0)
  ranks-less are j k u v = rw (are.rank j u, are.rank k v) (rank_less n _ _ (are.short j u) (are.short k v))

  pub variables-bounded : n ≤ most_variables → {ranks : List ℕ} → VariableRanks n ranks → Bounded ranks n
  variables-bounded h are k u = omega (arith, are.rank k u, rank-small n h _ (are.short k u))

  pub ranks-bounded : n ≤ most_variables → {B : List (Row n)} {count : ℕ} {ranks : List ℕ} → RanksOf n B count ranks → Bounded ranks count
  ranks-bounded h are k u = omega (arith, are.rank k u, rank-small n h _ (are.short k u))

-- The first ranks, as a list of their own.
module _ (ranks : List ℕ) {count : ℕ} (h : count ≤ length ranks) where
  front-size : length (take count ranks) ≡ count
  front-size = length-take-le count ranks h

  front-at : {k : ℕ} → k < count → get_or (take count ranks) k 0 ≡ get_or ranks k 0
  front-at {k} u = get_or-take count ranks k 0 u

  pub bounded-front : Bounded ranks count → Bounded (take count ranks) (length (take count ranks))
  bounded-front bounded k u =
      let v : k < count = omega (arith, front-size) in
      omega (arith, bounded k v, front-at v)

  pub first-front : {w : ℕ} {r : Option ℕ} → FirstRank (take count ranks) (length (take count ranks)) w r → FirstRank ranks count w r
  first-front first = record {
    some = λ k e.
        let s = first.some k e in
        let v : k < count = omega (arith, s.within, front-size) in
        record { within = v; found = sym (front-at v) ∙ s.found; first = λ j u q. s.first j u (front-at (omega arith) ∙ q) };
    none = λ e k u q. first.none e k (omega (arith, front-size)) (front-at u ∙ q);
  }

  pub next-front : {from : ℕ} {best : Option ℕ} → NextRank (take count ranks) from best (length (take count ranks)) → NextRank ranks from best count
  next-front {from} next = record {
    some = λ b e.
        let s = next.some b e in
        let v : b < count = omega (arith, s.within, front-size) in
        record {
          within = v;
          has = omega (arith, s.has, front-at v);
          least = λ k u p l. s.least k (omega (arith, front-size)) (omega (arith, p, front-at u)) (omega (arith, l, front-at u, front-at v));
        };
    none = λ e k u p. next.none e k (omega (arith, front-size)) (omega (arith, p, front-at u));
  }

-- The rank w is sought.
module _ (ranks : List ℕ) {count w k : ℕ} (so_far : Unseen (λ j. get_or ranks j 0 ≡ w) count k) where
  pub rank-found : k < count → get_or ranks k 0 ≡ w → FirstRank ranks count w (Some k)
  rank-found h e = record {
    some = λ j q. let same : k ≡ j = cc in subst (RankAt ranks count w) same (record { within = h; found = e; first = so_far.nowhere });
    none = λ q. cc;
  }

  pub rank-nowhere : count ≤ k → FirstRank ranks count w None
  rank-nowhere h = record { some = λ j q. cc; none = λ _ j u. so_far.nowhere j (omega arith) }

-- Rising ranks, of which the first are smaller than w.
module _ (ranks : List ℕ) {count w : ℕ} (rising : RisingRanks ranks count) where
  pub unseen_from : {k : ℕ} → k ≤ count → ((j : ℕ) → j < k → get_or ranks j 0 < w) → Unseen (λ j. get_or ranks j 0 ≡ w) count k
  unseen_from h low = record { within = h; nowhere = λ j u e. omega (arith, low j u, e) }

  pub rank-passed : {k : ℕ} → Unseen (λ j. get_or ranks j 0 ≡ w) count k → k < count → w ≤ get_or ranks k 0 → ¬ (get_or ranks k 0 ≡ w) → FirstRank ranks count w None
  rank-passed {k} so_far h more other = record {
    some = λ j q. cc;
    none = λ _ j u e. by_cases (dec_lt j k) (λ v. so_far.nowhere j v e) (λ v. by_cases (dec_lt k j)
        (λ q. omega (arith, rising k j q u, more, e))
        (λ q. other (ap (λ i. get_or ranks i 0) (omega (arith, v, q)) ∙ e)));
  }

-- What a search of rising ranks from a place on finds, counted from there, is the first place of all.
module _ (ranks : List ℕ) {from w : ℕ} (sought : RisingRanks ranks (length ranks) × (from ≤ length ranks) × ((k : ℕ) → k < from → get_or ranks k 0 < w)) where
  back-size : length (drop from ranks) ≡ length ranks - from
  back-size = length-drop from ranks

  back-at : (k : ℕ) → get_or (drop from ranks) k 0 ≡ get_or ranks (from + k) 0
  back-at k = get_or-drop from ranks k 0

  back-rising : (j k : ℕ) → j ≤ k → k < length (drop from ranks) → get_or (drop from ranks) j 0 ≤ get_or (drop from ranks) k 0
  back-rising j k h u =
      let (rising, _, _) = sought in
      let less : j < k → get_or ranks (from + j) 0 < get_or ranks (from + k) 0 = λ v. rising (from + j) (from + k) (omega arith) (omega (arith, back-size)) in
      rw (back-at j, back-at k) (⊎_elim (λ v. omega (arith, less v)) (λ (v : k ≤ j). let same : j ≡ k = omega arith in rw same (omega arith)) (cases_lt j k))

  found-from : (r : Result ℕ ℕ) → IsBinarySearchResult (λ x. nat_cmp x w) (drop from ranks) r → {o : Option ℕ} → MatchOption (result_ok r) (o ≡ None) (λ k. o ≡ Some (from + k))
      → FirstRank ranks (length ranks) w o
  found-from (Ok k) says is =
      let (rising, _, _) = sought in
      let (h, e) = searched (drop from ranks) w (Ok k) says back-rising in
      let v : from + k < length ranks = omega (arith, h, back-size) in
      record {
        some = λ j q.
            let same : from + k ≡ j = cc in
            subst (RankAt ranks (length ranks) w) same (record { within = v; found = sym (back-at k) ∙ e; first = λ i u p. omega (arith, rising i (from + k) u v, p, back-at k, e) });
        none = λ q. cc;
      }
  found-from (Err k) says is =
      let (_, _, below) = sought in
      let (_, less, more) = searched (drop from ranks) w (Err k) says back-rising in
      let other : (j : ℕ) → from + j < length ranks → ¬ (get_or ranks (from + j) 0 ≡ w) = λ j u p.
      ⊎_elim (λ v. omega (arith, less j v, back-at j, p)) (λ v. omega (arith, more j v (omega (arith, back-size)), back-at j, p)) (cases_lt j k) in
      record {
        some = λ j q. cc;
        none = λ q j u p.
            ⊎_elim (λ v. omega (arith, below j v, p)) (λ v. let same : from + (j - from) ≡ j = omega arith in other (j - from) (omega arith) (ap (λ i. get_or ranks i 0) same ∙ p)) (cases_lt j from);
      }

  pub sought-from : (r : Result ℕ ℕ) → IsBinarySearchResult (λ x. nat_cmp x w) (take (length ranks - from) (drop from ranks)) r → {o : Option ℕ}
      → MatchOption (result_ok r) (o ≡ None) (λ k. o ≡ Some (from + k)) → FirstRank ranks (length ranks) w o
  sought-from r says is = found-from r (rw (take_all (length ranks - from) (drop from ranks) (omega (arith, back-size))) at says) is

-- Of the ranks of the monomials f 0, f 1, .. the first k are stored.
pub record RanksStored (n : ℕ) (f : ℕ → Row n) (count : ℕ) (ranks₀ ranks : List ℕ) (k : ℕ) : Type 0 where
  pub within : k ≤ count
  pub room : count ≤ length ranks₀
  pub filled : FilledTo (λ j x. (x ≡ rank_of n (f j)) × Short n (f j)) 0 ranks₀ ranks k

module _ {n : ℕ} {f : ℕ → Row n} {count : ℕ} where
  pub ranks-none : {ranks : List ℕ} → count ≤ length ranks → RanksStored n f count ranks ranks 0
  ranks-none h = record { within = omega arith; room = h; filled = stored-none _ _ _ }

  module _ {ranks₀ ranks : List ℕ} {k : ℕ} (so_far : RanksStored n f count ranks₀ ranks k) where
    pub ranks-more : {x : ℕ} → k < count → (x ≡ rank_of n (f k)) × Short n (f k) → RanksStored n f count ranks₀ (set ranks k x) (k + 1)
    ranks-more h e = record {
      within = omega arith;
      room = so_far.room;
      filled = stored_more _ _ _ _ k _ so_far.filled (omega (arith, so_far.room)) e;
    }

    pub ranks-all : count ≤ k → (count ≤ length ranks) × ((j : ℕ) → j < count → (get_or ranks j 0 ≡ rank_of n (f j)) × Short n (f j))
    ranks-all h = (omega (arith, so_far.room, so_far.filled.size), λ j u. so_far.filled.stored j (omega arith))

pub variables-ranked : {n : ℕ} {ranks₀ ranks : List ℕ} {k : ℕ} → RanksStored n (variable n) n ranks₀ ranks k → n ≤ k → VariableRanks n ranks
variables-ranked so_far h = let (many, at) = ranks-all so_far h in record { many = many; rank = λ j u. (at j u).0; short = λ j u. (at j u).1 }
