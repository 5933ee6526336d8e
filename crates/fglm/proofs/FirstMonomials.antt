-- The standard monomials found so far: the first of a full list.
--   FirstOf k l    l is full, and has k elements or more
--   first-none     a full list has the first none
--   first-count    the first k are k
--   first-more     with m at place k, the first k + 1 are the first k and m
--   first-kept     the list stays full
--   cut-to         the list is cut to the number that is told
use mathlib.Core.Path.{◌≡◌}
use mathlib.Core.List.{List, [], ◌∷◌, ◌++◌}
use Prim.Native.Nat.{ℕ, ◌+◌, ◌≤◌, ◌<◌}
use native.Mathlib.Omega.{arith}
use lib.ListN.{length, take, set, replicate, length-set}
use lib.Seq.{length-take-le}
use Rattle.std.proofs.lemmas.List.{length-replicate, take_more_set}
use Rattle.monomial.specs.declared.Monomial.{Monomial}
use Rattle.lines.specs.Sizes.{most_standard}

pub record FirstOf (k : ℕ) (l : List Monomial) : Type 0 where
  pub full : length l ≡ most_standard
  pub fits : k ≤ most_standard

pub first-none : {l : List Monomial} {m : Monomial} → l ≡ replicate most_standard m → FirstOf 0 l
first-none {l} {m} e = record { full = rw e (length-replicate most_standard m); fits = omega arith }

module _ {k : ℕ} {l : List Monomial} (f : FirstOf k l) where
  pub first-count : length (take k l) ≡ k
  first-count = length-take-le k l (omega (arith, f.full, f.fits))

  module _ (lt : k < most_standard) (m : Monomial) where
    pub first-more : take (k + 1) (set l k m) ≡ take k l ++ (m ∷ [])
    first-more = take_more_set l k m (omega (arith, f.full, lt))

    pub first-kept : FirstOf (k + 1) (set l k m)
    first-kept = record { full = omega (arith, length-set l k m, f.full); fits = omega (arith, lt) }

pub cut-to : {j k : ℕ} (l : List Monomial) {l' : List Monomial} → l' ≡ take j l → j ≡ k → l' ≡ take k l
cut-to l cut e = rw e at cut
