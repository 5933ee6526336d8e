-- The loop of `read_exponents`, over plain lists.
--   no-separator   the separator does not stand at the place
--   ExponentsInv   what holds at the loop's head: the first j exponents, and what is left to read
--   start, turn    it holds where the loop begins, and again after an exponent more
--   stop           all exponents are read
--   no-exponent    no exponent stands there
use Prim.Native.Nat.{ℕ, zero, suc, ◌+◌, ◌-◌, ◌≤◌, ◌<◌}
use mathlib.Core.Path.{◌≡◌, refl, ◌∙◌}
use mathlib.Core.List.{List, [], ◌∷◌, ◌++◌}
use native.Mathlib.Omega.{arith}
use native.Mathlib.Nat.{sub-zero}
use native.Mathlib.Numerals.{add-one, sub-one}
use lib.ListN.{length, drop, take, set, length-set}
use lib.Seq.{length-take-le, take-suc-set}
use Rattle.lists.specs.Lists.{Bytes}
use Rattle.tabtext.specs.Readers.{got, bad, pure, read_byte, read_exponent, more_exponents, read_row}
use Rattle.tabtext.specs.Answers.{Reading}
use Rattle.tabtext.proofs.Steps.{then-got, then-bad, after-got, after-bad}

pub no-separator : (n sep : ℕ) (s : Bytes) → read_byte sep s ≡ bad → read_row n sep s ≡ bad
unfolding read_row
no-separator n sep s e = after-bad _ _ _ e

exponents-more : (k : ℕ) (e : List ℕ) (s : Bytes) {v : ℕ} {rest : Bytes} → 0 < k → read_exponent (length e) s ≡ got v rest →
    more_exponents k e s ≡ more_exponents (k - 1) (e ++ (v ∷ [])) rest
unfolding more_exponents
exponents-more zero e s p q = absurd (omega arith)
exponents-more (suc k) e s p q = rw sub-one (then-got _ _ _ q)

exponents-bad : (k : ℕ) (e : List ℕ) (s : Bytes) → 0 < k → read_exponent (length e) s ≡ bad → more_exponents k e s ≡ bad
unfolding more_exponents
exponents-bad zero e s p q = absurd (omega arith)
exponents-bad (suc k) e s p q = then-bad _ _ _ q

exponents-all : (k : ℕ) (e : List ℕ) (s : Bytes) → k ≤ 0 → more_exponents k e s ≡ got e s
unfolding more_exponents pure
exponents-all zero e s h = refl
exponents-all (suc k) e s h = absurd (omega arith)

pub record ExponentsInv (s : Bytes) (at n sep : ℕ) (row : List ℕ) (i j : ℕ) : Type 0 where
  pub rest : read_row n sep (drop at s) ≡ more_exponents (n - j) (take j row) (drop i s)
  pub after : at < i
  pub inside : i ≤ length s
  pub most : j ≤ n
  pub room : n ≤ length row

module _ (s : Bytes) (at n sep : ℕ) where
  pub start : (row : List ℕ) {i : ℕ} {v : Unit} → Reading (read_byte sep) s at v i → n ≤ length row → ExponentsInv s at n sep row i 0
  unfolding read_row
  start row r h = record { rest = after-got _ _ _ r.reads ∙ rw sub-zero; after = r.after; inside = r.inside; most = omega arith; room = h }

  module _ (row : List ℕ) (i j : ℕ) (inv : ExponentsInv s at n sep row i j) where
    -- The row so far has j exponents.
    count : length (take j row) ≡ j
    count = length-take-le j row (omega (arith, inv.most, inv.room))

    pub turn : {v k place : ℕ} → j < n → Reading (read_exponent j) s i v k → place ≡ j → ExponentsInv s at n sep (set row place v) k (j + 1)
    turn {v} {k} h e p =
        let less : n - j - 1 ≡ n - (j + 1) = omega arith in
        let within : j < length row = omega (arith, inv.room) in
        let more : read_exponent (length (take j row)) (drop i s) ≡ got v (drop k s) = rw count e.reads in
        rw p record {
          rest = inv.rest ∙ exponents-more (n - j) (take j row) (drop i s) (omega arith) more ∙ rw (less, add-one j, take-suc-set);
          after = omega (arith, inv.after, e.after);
          inside = e.inside;
          most = omega arith;
          room = rw length-set inv.room;
        }

    pub stop : n ≤ j → Reading (read_row n sep) s at (take n row) i
    stop h =
        let all : j ≡ n = omega (arith, inv.most) in
        record {
          reads = inv.rest ∙ exponents-all (n - j) (take j row) (drop i s) (omega arith) ∙ rw all;
          after = inv.after;
          inside = inv.inside;
        }

    pub no-exponent : j < n → read_exponent j (drop i s) ≡ bad → read_row n sep (drop at s) ≡ bad
    no-exponent h e = inv.rest ∙ exponents-bad (n - j) (take j row) (drop i s) (omega arith) (rw count e)
