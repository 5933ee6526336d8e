-- The first place of a vector of the code that is not zero, as the first place of its list of residues.
--   first_place o    the place that is told, if any
--   first-of-place   it is the first place of the list
use mathlib.Core.Path.{sym, ◌∙◌, ap}
use mathlib.Core.Logic.{by_cases}
use mathlib.Core.Option.{none, some}
use mathlib.Core.Option as Math
use Prim.Native.Nat.{ℕ, ◌<◌}
use native.Mathlib.Decide.{dec_lt}
use native.Mathlib.Omega.{arith}
use lib.ListN.{length}
use Rattle.std.specs.Prelude.{Option, Some, None}
use Rattle.residue.specs.Field.{modulo, residue}
use Rattle.residue.proofs.Residues.{residue-zero, residue-nonzero}
use Rattle.groebner.proofs.CoefficientRows.{FirstNonzero}
use Rattle.coordinates.specs.Vectors.{coordinate, Below, vector, FirstPlace}
use Rattle.coordinates.specs.declared.Coordinates.{Coordinates}
use Rattle.coordinates.proofs.VectorEntries.{past_end, vector-entry, length-vector}

abbrev pub first_place : Option ℕ → Math.Option ℕ
first_place (Some k) = some k
first_place None = none

pub first-of-place : (p : ℕ) (h : 1 < p) (w : Coordinates) → Below p w → (o : Option ℕ) → FirstPlace w o → FirstNonzero (modulo p h) (vector p h w) (first_place o)
first-of-place p h w b None f = λ k l. vector-entry p h w k ∙ ap (residue p h) (f k) ∙ residue-zero p h
first-of-place p h w b (Some k) f = (
  by_cases (dec_lt k (length w.c)) (λ l. omega (arith, l, length-vector p h w)) (λ l. absurd (f.1 (past_end w k (omega arith)))),
  λ e. f.1 (residue-nonzero p h (coordinate w k) (b.below k) (sym (vector-entry p h w k) ∙ e)),
  λ j l. vector-entry p h w j ∙ ap (residue p h) (f.2 j l) ∙ residue-zero p h,
)
