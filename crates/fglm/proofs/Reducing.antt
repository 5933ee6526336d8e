-- The loop of `residual`: what is left of v, less one row a turn.
--   Reducing p s v x₀ x i   x is x₀ less the first i rows times v's entries at their pivots
--   reducing-start          before the first turn
--   reducing-turn           a turn subtracts row i
--   reducing-skip           or passes it over where the entry is zero
--   reducing-is             so it is of what is equal to x
--   reducing-stop           after the last turn
use mathlib.Core.Path.{◌≡◌, refl, sym, ◌∙◌, ap, subst}
use mathlib.Core.List.{[], ◌∷◌}
use Prim.Native.Nat.{ℕ, suc, ◌+◌, ◌<◌, ◌≤◌}
use native.Mathlib.Numerals.{add-one}
use native.Mathlib.Omega.{arith}
use lib.ListN.{length, take, drop, length-map, get_or-map}
use lib.Seq.{drop-cons, drop-length, get_or-take, length-take-le}
use Rattle.residue.specs.Field.{modulo, residue}
use Rattle.residue.specs.RingLaws.{Field}
use Rattle.coordinates.specs.Vectors.{coordinate, vector, Represents, unit_vector}
use Rattle.coordinates.specs.declared.Coordinates.{Coordinates}
use Rattle.coordinates.proofs.VectorEntries.{vector-entry}
use Rattle.fglm.specs.RowState.{augmented_row, reduced_row, no_row, row_at, state_of, SoundVector, SoundRow}
use Rattle.fglm.specs.Elimination.{reduced, nothing, LeftOf}
use Rattle.fglm.specs.Steps.{LessMultiple}
use Rattle.fglm.specs.declared.elimination.AugmentedVector.{AugmentedVector}
use Rattle.fglm.specs.declared.elimination.Rows.{Rows}
use Rattle.fglm.proofs.RowSteps.{less-sound, less_none}
use Rattle.fglm.proofs.ListElimination.{less, reduced-none, reduced-more}

module _ (p : ℕ) (h : 1 < p) where
  -- The rows from the i-th on.
  state-from : (s : Rows) (i : ℕ) → i < s.used → s.used ≤ length s.rows → drop i (state_of p h s) ≡ reduced_row p h (row_at s i) ∷ drop (i + 1) (state_of p h s)
  unfolding state_of
  state-from s i l m = rw add-one (drop-cons (state_of p h s) i (reduced_row p h no_row) (omega (arith, length-map (take s.used s.rows) (reduced_row p h), length-take-le s.used s.rows m))
      ∙ ap (◌∷ drop (suc i) (state_of p h s)) (get_or-map (reduced_row p h) (take s.used s.rows) i no_row ∙ ap (reduced_row p h) (get_or-take s.used s.rows i no_row l)))

  no-rows-from : (s : Rows) (i : ℕ) → i ≡ s.used → s.used ≤ length s.rows → drop i (state_of p h s) ≡ []
  unfolding state_of
  no-rows-from s i e m = ap (λ n. drop n (state_of p h s)) (e ∙ sym (length-map (take s.used s.rows) (reduced_row p h) ∙ length-take-le s.used s.rows m)) ∙ drop-length (state_of p h s)

pub record Reducing (p : ℕ) (s : Rows) (v : Coordinates) (x₀ x : AugmentedVector) (i : ℕ) : Type 0 where
  pub within : i ≤ s.used
  pub sound : SoundVector p x
  pub left : (h : 1 < p) (field : Field (modulo p h))
      → reduced p h field (nothing p) (drop i (state_of p h s)) (augmented_row p h x) (vector p h v) ≡ reduced p h field (nothing p) (state_of p h s) (augmented_row p h x₀) (vector p h v)

pub reducing-is : {p : ℕ} {s : Rows} {v : Coordinates} {x₀ x y : AugmentedVector} {i : ℕ} → y ≡ x → Reducing p s v x₀ x i → Reducing p s v x₀ y i
reducing-is {p} {s} {v} {x₀} {i = i} e r = subst (λ z. Reducing p s v x₀ z i) (sym e) r

module _ {p : ℕ} {s : Rows} {v : Coordinates} {x₀ : AugmentedVector} where
  pub reducing-start : SoundVector p x₀ → Reducing p s v x₀ x₀ 0
  reducing-start sound = record { within = omega arith; sound = sound; left = λ h field. refl }

  pub reducing-turn : {x y : AugmentedVector} {i c : ℕ} → Reducing p s v x₀ x i → i < s.used → s.used ≤ length s.rows
      → c ≡ coordinate v (row_at s i).pivot → LessMultiple p x c (row_at s i).row y → Reducing p s v x₀ y (i + 1)
  reducing-turn {x} {y} {i} {c} r l m e q = record {
    within = omega arith;
    sound = less-sound q;
    left = λ h field.
        sym (ap (λ rs. reduced p h field (nothing p) rs (augmented_row p h x) (vector p h v)) (state-from p h s i l m)
        ∙ reduced-more p h field (nothing p) _ _ _ _
        ∙ ap (λ z. reduced p h field (nothing p) (drop (i + 1) (state_of p h s)) z (vector p h v))
        (ap (λ z. less p h (augmented_row p h x) z (reduced_row p h (row_at s i)).row) (vector-entry p h v _ ∙ ap (residue p h) (sym e)) ∙ sym (is h)))
        ∙ r.left h field;
  }
    where
      is : (h : 1 < p) → augmented_row p h y ≡ less p h (augmented_row p h x) (residue p h c) (reduced_row p h (row_at s i)).row
      is h = λ j. record { vector = q.vector.residues h j; combination = q.combination.residues h j }

  pub reducing-skip : {x : AugmentedVector} {i c : ℕ} → Reducing p s v x₀ x i → i < s.used → s.used ≤ length s.rows
      → c ≡ coordinate v (row_at s i).pivot → 1 < p → SoundRow p (row_at s i) → c ≡ 0 → Reducing p s v x₀ x (i + 1)
  reducing-skip r l m e h u z = reducing-turn r l m e (less_none h r.sound u.row z)

  pub reducing-stop : {x : AugmentedVector} {i : ℕ} → Reducing p s v x₀ x i → s.used ≤ i → s.used ≤ length s.rows → x₀.vector ≡ v
      → Represents p x₀.combination (unit_vector p s.used) → LeftOf p s v x
  reducing-stop {x} {i} r l m e u = record {
    sound = r.sound;
    left = λ h field.
        sym (ap (λ rs. reduced p h field (nothing p) rs (augmented_row p h x) (vector p h v)) (no-rows-from p h s i (omega (arith, r.within)) m) ∙ reduced-none p h field (nothing p) _ _)
        ∙ r.left h field
        ∙ ap (λ z. reduced p h field (nothing p) (state_of p h s) z (vector p h v)) (λ j. record { vector = vector p h (e j); combination = u.residues h j });
  }
