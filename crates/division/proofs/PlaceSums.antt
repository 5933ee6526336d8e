-- The place of a monomial, summed up over its exponents, one variable a turn.
--   PlaceSum n a i sum at   after i turns: the sum and the place of the first i exponents
--   place-sum-start         before the first turn
--   place-sum-small         the next sum is at most the largest degree
--   place-sum-bound         the next place is at most twice the number of places
--   place-sum-turn          one turn
--   place-fits              a place is one of them
--   place-sum-stop          after the last turn
use mathlib.Core.Path.{◌≡◌, refl, ◌∙◌, ap}
use Prim.Native.Nat.{ℕ, suc, ◌+◌, ◌*◌, ◌≤◌, ◌<◌}
use native.Mathlib.Omega.{arith}
use Rattle.monomial.specs.Sizes.{most_variables}
use Rattle.monomial.specs.Rows.{Row, exponent, degree}
use Rattle.division.specs.GrevlexPlace.{monomials_below, prefix_sum, place_of_first, place, most_degree, space}
use Rattle.division.proofs.Binomials.{below-space}
use Rattle.division.proofs.GrevlexPlaces.{prefix-degree, prefix-more, place-more, first-bound, place-bound}

pub record PlaceSum (n : ℕ) (a : Row n) (i sum at : ℕ) : Type 0 where
  pub the_sum : sum ≡ prefix_sum n a i
  pub the_place : at ≡ place_of_first n a i

module _ (n : ℕ) (a : Row n) where
  pub place-sum-start : PlaceSum n a 0 0 0
  unfolding place_of_first
  place-sum-start = record { the_sum = refl; the_place = refl }

  module _ (few : n ≤ most_variables) (low : degree n a ≤ most_degree) where
    pub place-fits : place n a < space
    place-fits = omega (arith, place-bound n most_degree a low, below-space n (suc most_degree) few (omega arith))

    module _ (i sum at : ℕ) (s : PlaceSum n a i sum at) (h : i < n) where
      pub place-sum-small : sum + exponent n a i ≤ most_degree
      place-sum-small = omega (arith, prefix-degree n a (i + 1) (omega arith), prefix-more n a i)

      pub place-sum-bound : (v x t : ℕ) → t ≡ sum + x → x ≡ exponent n a i → v ≡ monomials_below (i + 1) t → at + v ≤ 2 * space
      place-sum-bound v x t f d e =
          let q : t ≤ suc most_degree = omega (arith, place-sum-small) in
          let first = first-bound n i most_degree a (omega (arith, prefix-degree n a i (omega arith))) in
          omega (arith, first, below-space (i + 1) t (omega arith) q, below-space i (suc most_degree) (omega arith) (omega arith))

      pub place-sum-turn : (v x t : ℕ) → t ≡ sum + x → x ≡ exponent n a i → v ≡ monomials_below (i + 1) t → PlaceSum n a (i + 1) t (at + v)
      place-sum-turn v x t f d e = record { the_sum = q; the_place = omega (arith, place-more n a i, e, ap (monomials_below (i + 1)) q) }
        where
          q : t ≡ prefix_sum n a (i + 1)
          q = omega (arith, prefix-more n a i)

  pub place-sum-stop : (i sum at : ℕ) → PlaceSum n a i sum at → i ≡ n → at ≡ place n a
  unfolding place
  place-sum-stop i sum at s e = s.the_place ∙ ap (place_of_first n a) e
