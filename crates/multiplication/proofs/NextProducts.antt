-- The next products of the variables, of which the smallest has its row filled next, and their ranks that the code holds.
--   cursor c i             the number of the rows of x_i that are filled
--   next_product n l c i   the next product of x_i
--   Nexts n l c next       the ranks of the next products are held
--   BestAt n l c i         of the variables, x_i has the smallest next product
--   Best n l c best        of the variables, `best` has it; it is None where none of them has one
--   product-rank-is        the rank that `product_rank` answers
--   nexts-first            the ranks of the first products
--   nexts-more             one of them changed, for the row after one that is filled
--   nexts-bounded          they are below above_ranks
--   nexts-front            so are those of the n variables, as a list of their own
--   nexts-best             the least of them is that of the smallest next product
use mathlib.Core.Path.{◌≡◌, sym, ◌∙◌, ap}
use mathlib.Core.List.{List}
use mathlib.Core.Logic.{by_cases}
use Prim.Native.Nat.{ℕ, ◌+◌, ◌≤◌, ◌<◌}
use native.Mathlib.Decide.{ℕ_discrete, dec_lt}
use native.Mathlib.Omega.{arith}
use lib.ListN.{length, get_or, set, take, length-set}
use lib.Seq.{get_or-set_same, get_or-set_other}
use Rattle.std.specs.Prelude.{Option}
use Rattle.monomial.specs.Sizes.{most_variables}
use Rattle.monomial.specs.Rows.{Row, product}
use Rattle.monomial.specs.Quotients.{variable}
use Rattle.monomial.specs.Ordering.{Grevlex}
use Rattle.monomial.specs.Least.{LeastAt, Least}
use Rattle.monomial.specs.Ranks.{rank_of, RanksOf, VariableRanks, Bounded, NextRank}
use Rattle.monomial.proofs.RankOrder.{rank_less, rank-product, rank-small}
use Rattle.monomial.proofs.RankPlaces.{bounded-front, next-front}
use Rattle.monomial.proofs.RankSearch.{least-as}
use Rattle.staircase.specs.Listed.{listed, listed_at}
use Rattle.monomial.specs.declared.Monomial.{Monomial}
use Rattle.multiplication.specs.RankedLists.{Listing, ProductRank, FirstRanks}
use Rattle.multiplication.specs.declared.fill.Cursors.{Cursors}
use Rattle.multiplication.proofs.RankQuotients.{product-short, product-positive}

-- The number of the rows of x_i that are filled.
abbrev pub cursor : Cursors → ℕ → ℕ
cursor c i = get_or c.at i 0

-- The next product of x_i.
abbrev pub next_product : (n : ℕ) → List Monomial → Cursors → ℕ → Row n
next_product n l c i = product n (variable n i) (listed_at n l (cursor c i))

-- The ranks of the next products are held, and 0 where there is none.
pub record Nexts (n : ℕ) (l : List Monomial) (c : Cursors) (next : List ℕ) : Type 0 where
  pub size : length next ≡ most_variables
  pub held : (i : ℕ) → i < n → cursor c i < length l → get_or next i 0 ≡ rank_of n (next_product n l c i)
  pub none : (i : ℕ) → i < n → length l ≤ cursor c i → get_or next i 0 ≡ 0

-- Of the variables, x_i has the smallest next product.
abbrev pub BestAt : (n : ℕ) → List Monomial → Cursors → ℕ → Type 0
BestAt n l c = LeastAt (Grevlex n) (λ k. cursor c k < length l) (next_product n l c) n

-- Of the variables, `best` has the smallest next product; it is None where none of them has one.
abbrev pub Best : (n : ℕ) → List Monomial → Cursors → Option ℕ → Type 0
Best n l c best = Least (Grevlex n) (λ k. cursor c k < length l) (next_product n l c) best n

module _ (n : ℕ) (l : List Monomial) {ranks variables : List ℕ} (size : length ranks ≡ length l) (are : RanksOf n (listed n l) (length l) ranks) (of-variables : VariableRanks n variables) where
  pub product-rank-is : {i s r : ℕ} → i < n → ProductRank ranks (get_or variables i 0) s r → s < length l → r ≡ rank_of n (product n (variable n i) (listed_at n l s))
  product-rank-is {i} {s} hi p u = omega (arith, p.listed (omega (arith, u, size)), are.rank s u, of-variables.rank i hi, rank-product n (variable n i) (listed_at n l s))

  pub nexts-first : {c : Cursors} {next : List ℕ} → ((i : ℕ) → cursor c i ≡ 0) → FirstRanks ranks variables n next → Nexts n l c next
  nexts-first z f = record {
    size = f.size;
    held = λ i h u. product-rank-is h (f.first i h) (omega (arith, z i)) ∙ ap (λ s. rank_of n (product n (variable n i) (listed_at n l s))) (sym (z i));
    none = λ i h u. (f.first i h).none (omega (arith, u, size, z i));
  }

  module _ {c : Cursors} {next : List ℕ} (nexts : Nexts n l c next) (i : ℕ) (hi : i < n) (small : i < most_variables) (cursors : length c.at ≡ most_variables) where
    pub nexts-more : (r : ℕ) → ProductRank ranks (get_or variables i 0) (cursor c i + 1) r → Nexts n l (record { at = set c.at i (cursor c i + 1) }) (set next i r)
    nexts-more r p = record {
      size = length-set next i r ∙ nexts.size;
      held = λ j h u. by_cases (ℕ_discrete j i)
          (λ q. own j q (moved j q) u)
          (λ q. get_or-set_other next i j r 0 q ∙ nexts.held j h (omega (arith, kept j q)) ∙ ap (λ s. rank_of n (product n (variable n j) (listed_at n l s))) (sym (kept j q)));
      none = λ j h u. by_cases (ℕ_discrete j i)
          (λ q. rw q (get_or-set_same next i r 0 (omega (arith, nexts.size)) ∙ p.none (omega (arith, u, size, moved j q))))
          (λ q. get_or-set_other next i j r 0 q ∙ nexts.none j h (omega (arith, kept j q)));
    }
      where
        moved : (j : ℕ) → j ≡ i → get_or (set c.at i (cursor c i + 1)) j 0 ≡ cursor c i + 1
        moved j q = rw q (get_or-set_same c.at i (cursor c i + 1) 0 (omega arith))

        kept : (j : ℕ) → ¬ (j ≡ i) → get_or (set c.at i (cursor c i + 1)) j 0 ≡ cursor c j
        kept j q = get_or-set_other c.at i j (cursor c i + 1) 0 q

        own : (j : ℕ) → j ≡ i → get_or (set c.at i (cursor c i + 1)) j 0 ≡ cursor c i + 1 → get_or (set c.at i (cursor c i + 1)) j 0 < length l
            → get_or (set next i r) j 0 ≡ rank_of n (product n (variable n j) (listed_at n l (get_or (set c.at i (cursor c i + 1)) j 0)))
        own j q e u = rw (e, q) (get_or-set_same next i r 0 (omega (arith, nexts.size)) ∙ product-rank-is hi p (omega arith))

module _ {n : ℕ} {l : List Monomial} (listing : Listing n l) {c : Cursors} {next : List ℕ} (nexts : Nexts n l c next) where
  pub nexts-bounded : Bounded next n
  nexts-bounded k u = by_cases (dec_lt (cursor c k) (length l))
      (λ h. omega (arith, nexts.held k u h, rank-small n listing.variables (next_product n l c k) (product-short listing (cursor c k) h k u)))
      (λ h. omega (arith, nexts.none k u (omega arith)))

  nexts-room : n ≤ length next
  nexts-room = omega (arith, nexts.size, listing.variables)

  pub nexts-front : Bounded (take n next) (length (take n next))
  nexts-front = bounded-front next nexts-room nexts-bounded

  pub nexts-best : {best : Option ℕ} → NextRank (take n next) 1 best (length (take n next)) → Best n l c best
  nexts-best found = least-as (next-front next nexts-room found)
      (λ k u. (
        λ p. by_cases (dec_lt (cursor c k) (length l)) (λ h. h) (λ h. absurd (omega (arith, nexts.none k u (omega arith)))),
        λ h. omega (arith, nexts.held k u h, product-positive listing (cursor c k) h k u),
      ))
      (λ j k u v g h m. omega (
        arith,
        nexts.held j u g,
        nexts.held k v h,
        (rank_less n (next_product n l c j) (next_product n l c k) (product-short listing (cursor c j) g j u) (product-short listing (cursor c k) h k v)).0 m,
      ))
