-- The loop of `fill`.
--   fillable-listing   the list is one of at most 32 monomials in at most 4 variables
--   Prepared           what is known when it begins: the list and the leading monomials with their ranks
--   prepared           so it is
--   all-bounded        the ranks of the list are bounded
--   FillLoop           what holds at its head
--   fill_start         before the first turn
--   fill-bounded       the ranks of the next products are bounded
--   fill-distinct      no monomial stands twice in the list
--   fill-inside        a row of the variable is to be filled
--   fill-place         the variable and the place of the row that is filled next
--   fill-product       the product that it is of
--   fill-line          a place among the leading monomials is that of a line
--   fill-led           the row, where a line leads with the product
--   fill-through       where none does, and it is not listed, it comes through a smaller product
--   fill-made          the row, where none does
--   fill-nexts         the next products, after a turn
--   fill-turn          a turn
--   fill_stop          after the last turn
use mathlib.Core.Path.{◌≡◌, sym, subst}
use mathlib.Core.List.{List}
use Prim.Native.Nat.{ℕ, ◌+◌, ◌<◌}
use native.Mathlib.Omega.{arith}
use lib.ListN.{length, get_or, set, take, replicate}
use Rattle.std.specs.Prelude.{Option, Some, None}
use Rattle.monomial.specs.Sizes.{most_variables}
use Rattle.monomial.specs.Rows.{product}
use Rattle.monomial.specs.Quotients.{variable}
use Rattle.monomial.specs.Ranks.{RanksOf, VariableRanks, FirstRank, RisingRanks, Bounded, NextRank}
use Rattle.monomial.proofs.RankPlaces.{ranks-bounded}
use Rattle.lines.specs.Sizes.{most_standard}
use Rattle.lines.specs.declared.StoredBasis.{StoredBasis}
use Rattle.staircase.specs.Leads.{rows_of, leads_in}
use Rattle.staircase.specs.Sound.{generator_at}
use Rattle.staircase.specs.Listed.{listed, listed_at, PlaceAt, Place}
use Rattle.monomial.specs.declared.Monomial.{Monomial}
use Rattle.staircase.proofs.ArrayRows.{rows-length}
use Rattle.staircase.proofs.LineLeads.{leads-length}
use Rattle.staircase.proofs.RankedLists.{ranks-rising}
use Rattle.coordinates.specs.declared.Coordinates.{Coordinates}
use Rattle.multiplication.specs.Rows.{NoRows, RowPut}
use Rattle.multiplication.specs.declared.rows.Tables.{Tables}
use Rattle.multiplication.specs.Tails.{TailRow, DistinctRanks}
use Rattle.multiplication.specs.Rules.{Unlisted, Through, MadeRow}
use Rattle.multiplication.specs.RankedLists.{Listing, RankedList, ProductAt, ProductRank}
use Rattle.multiplication.specs.Filling.{Fillable, FilledRows}
use Rattle.multiplication.specs.declared.fill.Cursors.{Cursors}
use Rattle.multiplication.proofs.ListPlaces.{list-place}
use Rattle.multiplication.proofs.NewRows.{RowFor}
use Rattle.multiplication.proofs.RankQuotients.{product-short}
use Rattle.multiplication.proofs.NextProducts.{cursor, Nexts, BestAt, Best, nexts-more, nexts-front, nexts-best}
use Rattle.multiplication.proofs.RowRules.{listed-once, comes-through, row_made, row-led}
use Rattle.multiplication.proofs.AllRows.{Filling, filling-none, filling-more, filling-all}

pub fillable-listing : {b : StoredBasis} {l : List Monomial} → Fillable b l → Listing b.n l
fillable-listing given = record { variables = given.sound.variables.most; few = given.irreducibles.few; exponents = given.irreducibles.exponents }

-- The list has the ranks rs, the variables xs, and the leading monomials gs.
pub record Prepared (b : StoredBasis) (l : List Monomial) (rs xs gs : List ℕ) : Type 0 where
  pub given : Fillable b l
  pub ranked : RankedList b.n l rs xs
  pub lead_size : length gs ≡ length (leads_in b)
  pub lead_ranks : RanksOf b.n (rows_of b.n (leads_in b)) (length (leads_in b)) gs

pub prepared : {b : StoredBasis} {l : List Monomial} {rs xs : List ℕ} {gs : List ℕ} → Fillable b l
    → (length rs ≡ length l) × RanksOf b.n (listed b.n l) (length l) rs → VariableRanks b.n xs
    → (length gs ≡ length (leads_in b)) × RanksOf b.n (rows_of b.n (leads_in b)) (length (leads_in b)) gs → Prepared b l rs xs gs
prepared {b} {l} given (size, ranks) variables (lead_size, lead_ranks) =
    let h = given.sound.modulus.prime.above_one in
    let rising = subst (RisingRanks _) (sym size) (ranks-rising _ ranks (given.irreducibles.lists h).rising (rows-length b.n l)) in
    record {
      given = given;
      ranked = record { listing = fillable-listing given; size = size; ranks = ranks; rising = rising; variables = variables };
      lead_size = lead_size;
      lead_ranks = lead_ranks;
    }

pub all-bounded : {n : ℕ} {l : List Monomial} {rs xs : List ℕ} → RankedList n l rs xs → Bounded rs (length rs)
all-bounded {n} ranked k u = ranks-bounded n ranked.listing.variables ranked.ranks k (omega (arith, u, ranked.size))

-- The rows below the cursors are filled, and the ranks of the next products are held.
pub record FillLoop (b : StoredBasis) (l : List Monomial) (rs xs gs : List ℕ) (t : Tables) (c : Cursors) (next : List ℕ) : Type 0 where
  pub known : Prepared b l rs xs gs
  pub filling : Filling b l t c
  pub nexts : Nexts b.n l c next

module _ {b : StoredBasis} {l : List Monomial} {rs xs gs : List ℕ} {t : Tables} {c : Cursors} {next : List ℕ} where
  pub fill_start : Prepared b l rs xs gs → NoRows t → c.at ≡ replicate most_variables 0 → Nexts b.n l c next → FillLoop b l rs xs gs t c next
  fill_start known none z nexts = record {
    known = known;
    filling = filling-none (omega (arith, known.given.sound.modulus.prime.above_one)) none z;
    nexts = nexts;
  }

  module _ (loop : FillLoop b l rs xs gs t c next) where
    open loop use {known, filling, nexts}

    pub fill-bounded : Bounded (take b.n next) (length (take b.n next))
    fill-bounded = nexts-front known.ranked.listing nexts

    pub fill-distinct : DistinctRanks b.n l rs
    fill-distinct = record {
      size = known.ranked.size;
      ranks = known.ranked.ranks;
      once = listed-once b l known.given.irreducibles known.given.sound.modulus.prime.above_one;
    }

    -- The place of the least of the ranks.
    module _ {first : Option ℕ} (found : NextRank (take b.n next) 1 first (length (take b.n next))) where
      best : Best b.n l c first
      best = nexts-best known.ranked.listing nexts found

      pub fill_stop : first ≡ None → FilledRows b l t
      fill_stop e = record { below = filling.below; filled = filling-all filling known.given best e }

      module _ {i : ℕ} (is : first ≡ Some i) where
        at_i : BestAt b.n l c i
        at_i = best.some i is

        hi : i < b.n
        hi = at_i.within

        pub fill-inside : cursor c i < length l
        fill-inside = at_i.has

        pub fill-place : (i < b.n) × (i < most_variables) × (cursor c i < most_standard)
        fill-place = (hi, omega (arith, hi, known.ranked.listing.variables), omega (arith, fill-inside, known.ranked.listing.few))

        pub fill-product : ProductAt b.n l i (cursor c i) (get_or next i 0)
        fill-product = record { within = hi; inside = fill-inside; rank = nexts.held i hi fill-inside }

        -- By the first place of the product's rank among those of the leading monomials.
        module _ {r : Option ℕ} (ranked : FirstRank gs (length gs) (get_or next i 0) r) where
          lead : Place b.n (rows_of b.n (leads_in b)) (product b.n (variable b.n i) (listed_at b.n l (cursor c i))) r
          lead = list-place _ (leads_in b) known.lead_size known.lead_ranks (nexts.held i hi fill-inside, product-short known.ranked.listing _ fill-inside _ hi) _ ranked

          module _ {k : ℕ} (s : r ≡ Some k) where
            led : PlaceAt b.n (rows_of b.n (leads_in b)) (product b.n (variable b.n i) (listed_at b.n l (cursor c i))) k
            led = rw s at lead

            pub fill-line : k < length b.lines.items
            fill-line = omega (arith, led.within, rows-length b.n (leads_in b), leads-length b)

            pub fill-led : {w : Coordinates} → TailRow b.p b.n (generator_at b k) l w → RowFor b l t i (cursor c i) w
            fill-led = row-led b known.given.sound l known.given.irreducibles t i (cursor c i) hi fill-inside led

          module _ (s : r ≡ None) where
            pub fill-through : Unlisted b.n l i (cursor c i) → Through b.n l i (cursor c i)
            fill-through = comes-through b known.given.sound l known.given.irreducibles t i (cursor c i) hi fill-inside (rw s at lead)

            pub fill-made : {w : Coordinates} → MadeRow b.p b.n l t i (cursor c i) w → RowFor b l t i (cursor c i) w
            fill-made = row_made b known.given.sound l known.given.irreducibles t i (cursor c i) hi fill-inside

        module _ {r : ℕ} (rank : ProductRank rs (get_or xs i 0) (cursor c i + 1) r) where
          pub fill-nexts : Nexts b.n l (record { at = set c.at i (cursor c i + 1) }) (set next i r)
          fill-nexts = nexts-more _ _ known.ranked.size known.ranked.ranks known.ranked.variables nexts i hi fill-place.1 filling.cursors r rank

          pub fill-turn : {w : Coordinates} {t' : Tables} → RowFor b l t i (cursor c i) w → RowPut t i (cursor c i) w t'
              → FillLoop b l rs xs gs t' (record { at = set c.at i (cursor c i + 1) }) (set next i r)
          fill-turn new put = record { known = known; filling = filling-more filling known.given at_i new put; nexts = fill-nexts }
