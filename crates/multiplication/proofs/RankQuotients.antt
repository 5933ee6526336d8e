-- The ranks of products with a variable and of quotients by one, and the test of `is_detour` by them.
--   product-short                   the exponents of x_i·B_s are digits
--   product-greater                 its rank is greater than that of B_s
--   product-positive                its rank is not 0
--   divided-by                      x_j divides m exactly where its exponent is not 0
--   quotient-short, quotient-rank   the exponents of B_s / x_j are digits, and its rank
--   passes-by                       the test of `is_detour`
--   some-passes                     some variable passes it
use mathlib.Core.Path.{◌≡◌, sym, ◌∙◌, ap}
use mathlib.Core.Bool.{true}
use mathlib.Core.List.{List}
use mathlib.Core.Logic.{◌↔◌, by_cases}
use Prim.Native.Nat.{ℕ, ◌+◌, ◌-◌, ◌≤◌, ◌<◌}
use native.Mathlib.Decide.{ℕ_discrete}
use native.Mathlib.Omega.{arith}
use lib.ListN.{length, get_or}
use Rattle.monomial.specs.Represented.{most_entry}
use Rattle.monomial.specs.Rows.{Row, exponent, product}
use Rattle.monomial.specs.Quotients.{quotient, divides, variable}
use Rattle.monomial.specs.Ranks.{rank_of, Short}
use Rattle.monomial.proofs.Products.{exponent-product, exponent-quotient, divides-at, product-quotient}
use Rattle.monomial.proofs.GrevlexOrder.{grevlex-order}
use Rattle.monomial.proofs.Powers.{exponent-power, exponent-power-other}
use Rattle.monomial.proofs.Variables.{variable-fits}
use Rattle.monomial.proofs.RankOrder.{rank_less, rank-injective, rank-product}
use Rattle.groebner.proofs.Variables.{variable-above}
use Rattle.staircase.specs.Listed.{listed_at}
use Rattle.monomial.specs.declared.Monomial.{Monomial}
use Rattle.multiplication.specs.Passes.{Detour}
use Rattle.multiplication.specs.RankedLists.{Listing, RankedList, ProductAt}
use Rattle.multiplication.specs.Rules.{PassesBy, SomePasses, Through}

pub divided-by : (n : ℕ) (m : Row n) (j : ℕ) → j < n → (divides n (variable n j) m ≡ true) ↔ (0 < exponent n m j)
divided-by n m j h = (
  λ d. omega (arith, (divides-at n (variable n j) m).0 d j h, exponent-power n j 1 h),
  λ p. (divides-at n (variable n j) m).1 (λ k u. by_cases (ℕ_discrete k j)
      (λ e. rw e (omega (arith, exponent-power n j 1 h))) (λ e. omega (arith, exponent-power-other n j 1 k e))),
)

module _ {n : ℕ} {l : List Monomial} (listing : Listing n l) (s : ℕ) (hs : s < length l) where
  listed-short : Short n (listed_at n l s)
  listed-short = record { short = λ k u. omega (arith, listing.exponents s hs k u) }

  pub product-short : (i : ℕ) → i < n → Short n (product n (variable n i) (listed_at n l s))
  product-short i hi = record { short = λ k u. omega (arith, exponent-product n (variable n i) (listed_at n l s) k, variable-fits n i k hi (listing.exponents s hs k u)) }

  pub product-greater : (i : ℕ) → i < n → rank_of n (listed_at n l s) < rank_of n (product n (variable n i) (listed_at n l s))
  product-greater i hi = (rank_less n _ _ listed-short (product-short i hi)).0 (variable-above n (grevlex-order n) i hi (listed_at n l s))

  pub product-positive : (i : ℕ) → i < n → 0 < rank_of n (product n (variable n i) (listed_at n l s))
  product-positive i hi = omega (arith, product-greater i hi)

  module _ (j : ℕ) where
    pub quotient-short : Short n (quotient n (listed_at n l s) (variable n j))
    quotient-short = record { short = λ k u. omega (arith, exponent-quotient n (listed_at n l s) (variable n j) k, listing.exponents s hs k u) }

    through-short : (i : ℕ) → i < n → Short n (product n (variable n i) (quotient n (listed_at n l s) (variable n j)))
    through-short i hi = record {
      short = λ k u.
          let f : exponent n (quotient n (listed_at n l s) (variable n j)) k < most_entry = omega (arith, exponent-quotient n (listed_at n l s) (variable n j) k, listing.exponents s hs k u) in
          omega (arith, exponent-product n (variable n i) (quotient n (listed_at n l s) (variable n j)) k, variable-fits n i k hi f);
    }

    pub quotient-rank : divides n (variable n j) (listed_at n l s) ≡ true → rank_of n (quotient n (listed_at n l s) (variable n j)) + rank_of n (variable n j) ≡ rank_of n (listed_at n l s)
    quotient-rank d = sym (rank-product n _ _) ∙ ap (rank_of n) (product-quotient n (listed_at n l s) (variable n j) d)

    through-rank : (i : ℕ) → divides n (variable n j) (listed_at n l s) ≡ true
        → rank_of n (product n (variable n i) (quotient n (listed_at n l s) (variable n j))) + rank_of n (variable n j) ≡ rank_of n (product n (variable n i) (listed_at n l s))
    through-rank i d = omega (arith, rank-product n (variable n i) (quotient n (listed_at n l s) (variable n j)), rank-product n (variable n i) (listed_at n l s), quotient-rank d)

-- By the ranks of the list and of the variables, and the rank w of x_i·B_s.
module _ {n : ℕ} {l : List Monomial} {ranks variables : List ℕ} (ranked : RankedList n l ranks variables) {i s w : ℕ} (of : ProductAt n l i s w) where
  module _ (j : ℕ) (hj : j < n) where
    of-through : divides n (variable n j) (listed_at n l s) ≡ true → rank_of n (product n (variable n i) (quotient n (listed_at n l s) (variable n j))) + get_or variables j 0 ≡ w
    of-through d = omega (arith, of.rank, ranked.variables.rank j hj, through-rank ranked.listing s of.inside j i d)

    variable-least : 0 < exponent n (listed_at n l s) j → get_or variables j 0 ≤ w
    variable-least p = omega (arith, of-through ((divided-by n (listed_at n l s) j hj).1 p))

    difference : divides n (variable n j) (listed_at n l s) ≡ true → rank_of n (product n (variable n i) (quotient n (listed_at n l s) (variable n j))) ≡ w - get_or variables j 0
    difference d = omega (arith, of-through d)

    pub passes-by : PassesBy ranks (exponent n (listed_at n l s) j) w (get_or variables j 0) ↔ Detour n l (listed_at n l s) i j
    passes-by = let are = ranked.ranks in (
      λ p. let d = (divided-by n (listed_at n l s) j hj).1 p.divisor in record {
        divisor = d;
        outside = λ k u e. p.outside k (omega (arith, u, ranked.size)) (are.rank k u ∙ ap (rank_of n) e ∙ difference d);
      },
      λ p. record {
        divisor = (divided-by n (listed_at n l s) j hj).0 p.divisor;
        outside = λ k u e.
            let v : k < length l = omega (arith, u, ranked.size) in
            p.outside k v (rank-injective n _ _ (are.short k v) (through-short ranked.listing s of.inside j i of.within)
            (sym (are.rank k v) ∙ e ∙ sym (difference p.divisor)));
      },
    )

  pub some-passes : Through n l i s → SomePasses n (listed_at n l s) ranks variables w
  some-passes through = let (j, hj, p) = through.some in record { least = variable-least; some = (j, hj, (passes-by j hj).1 p) }
