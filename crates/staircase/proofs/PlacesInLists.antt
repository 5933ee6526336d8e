-- The places of monomials in lists of the code.
--   Is n m d      d is the monomial m
--   Other n m d   it is another one
--   place-first   what a search for a monomial finds is its first place
use mathlib.Core.Path.{◌≡◌, sym, ◌∙◌}
use mathlib.Core.List.{List}
use Prim.Native.Nat.{ℕ, ◌<◌}
use native.Mathlib.Omega.{arith}
use lib.ListN.{length}
use Rattle.std.specs.Prelude.{Option, Some, None, MatchOption}
use Rattle.std.specs.List.{AllWithin, HoldsAt}
use Rattle.monomial.specs.Represented.{row}
use Rattle.monomial.specs.declared.Monomial.{Monomial}
use Rattle.staircase.specs.Listed.{listed, Place}
use Rattle.staircase.proofs.ArrayRows.{no_monomial, rows-length, rows_at}

module _ (n : ℕ) (m : Monomial) where
  -- d is m.
  abbrev pub Is : Monomial → Type 0
  Is d = row n d ≡ row n m

  -- It is another monomial.
  abbrev pub Other : Monomial → Type 0
  Other d = ¬ Is d

  pub place-first : (l : List Monomial) (r : Option ℕ) → MatchOption r (AllWithin Other l 0 (length l)) (λ i. (i < length l) × HoldsAt Is l i × AllWithin Other l 0 i) → Place n (listed n l) (row n m) r
  place-first l (Some k) (within, here, before) = record {
    within = omega (arith, within, rows-length n l);
    found = rows_at n l k ∙ here no_monomial;
    first = λ j h e. before j no_monomial (omega arith) h (sym (rows_at n l j) ∙ e);
  }
  place-first l None nowhere = λ k h e. nowhere k no_monomial (omega arith) (omega (arith, h, rows-length n l)) (sym (rows_at n l k) ∙ e)
