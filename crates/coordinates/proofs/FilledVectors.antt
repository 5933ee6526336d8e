-- A vector that is filled, one entry after another.
--   FilledVector p f w k    the first k entries of w are those of f, and below p
--   filled-start            before the first turn
--   filled-turn             a turn stores entry k
--   filled-below            all entries of the whole vector are below p
--   filled-entries          and they are those of f
use mathlib.Core.Path.{◌≡◌, sym, ◌∙◌, subst}
use mathlib.Core.Logic.{◌≢◌, ⊎_elim, by_cases}
use Prim.Native.Nat.{ℕ, ◌+◌, ◌<◌, ◌≤◌}
use native.Mathlib.Nat.{eq-or-lt_of_le}
use native.Mathlib.Decide.{dec_lt}
use native.Mathlib.Omega.{arith}
use lib.ListN.{get_or, set, length-set}
use lib.Seq.{get_or-set_same, get_or-set_other}
use Rattle.residue.specs.declared.Residue.{Residue}
use Rattle.lines.specs.Sizes.{most_standard}
use Rattle.coordinates.specs.Vectors.{coordinate, Below, FullLength}
use Rattle.coordinates.specs.declared.Coordinates.{Coordinates}
use Rattle.coordinates.proofs.VectorEntries.{past_end}

pub record FilledVector (p : ℕ) (f : ℕ → ℕ) (w : Coordinates) (k : ℕ) : Type 0 where
  pub within : k ≤ most_standard
  pub whole : FullLength w
  pub entries : (j : ℕ) → j < k → (coordinate w j ≡ f j) × (coordinate w j < p)

module _ {p : ℕ} {f : ℕ → ℕ} {w : Coordinates} where
  pub filled-start : FullLength w → FilledVector p f w 0
  filled-start l = record { within = omega arith; whole = l; entries = λ j m. absurd (omega arith) }

  module _ {k : ℕ} (filled : FilledVector p f w k) where
    pub filled-turn : {x : Residue} → k < most_standard → (x.0 ≡ f k) × (x.0 < p) → FilledVector p f (record { c = set w.c k x }) (k + 1)
    filled-turn {x} l e = record {
      within = omega arith;
      whole = length-set w.c k x ∙ filled.whole;
      entries = λ j m. ⊎_elim (here j) (before j) (eq-or-lt_of_le (omega arith));
    }
      where
        here : (j : ℕ) → j ≡ k → ((get_or (set w.c k x) j (record { 0 = 0 })).0 ≡ f j) × ((get_or (set w.c k x) j (record { 0 = 0 })).0 < p)
        here j q = rw (q, get_or-set_same w.c k x (record { 0 = 0 }) (omega (arith, filled.whole))) e

        before : (j : ℕ) → j < k → ((get_or (set w.c k x) j (record { 0 = 0 })).0 ≡ f j) × ((get_or (set w.c k x) j (record { 0 = 0 })).0 < p)
        before j m = let n : j ≢ k = omega arith in rw get_or-set_other (filled.entries j m)

    pub filled-below : 0 < p → most_standard ≤ k → Below p w
    filled-below h l = record {
      below = λ j. by_cases (dec_lt j most_standard) (λ m. (filled.entries j (omega arith)).1)
          (λ m. subst (◌< p) (sym (past_end w j (omega (arith, filled.whole)))) h);
    }

    pub filled-entries : most_standard ≤ k → (j : ℕ) → j < most_standard → coordinate w j ≡ f j
    filled-entries l j m = (filled.entries j (omega arith)).0
