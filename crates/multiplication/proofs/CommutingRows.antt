-- Rows that commute, by their coefficients.
--   commute-iff    equal coefficients of the two products say that they commute
--   all-commute    the order of the loops, against that of `RowsCommute`
use mathlib.Core.Path.{◌≡◌, sym, ◌∙◌, ap}
use mathlib.Core.Logic.{◌↔◌, by_cases}
use Prim.Native.Nat.{ℕ, ◌<◌, ◌≤◌}
use native.Mathlib.Decide.{dec_lt}
use native.Mathlib.Omega.{arith}
use Rattle.residue.specs.Field.{modulo, residue}
use Rattle.residue.proofs.Residues.{residue-injective}
use Rattle.groebner.specs.MultiplicationRows.{RowsCommute}
use Rattle.lines.specs.Sizes.{most_standard}
use Rattle.coordinates.specs.Vectors.{coordinate, coordinates_of}
use Rattle.coordinates.specs.declared.Coordinates.{Coordinates}
use Rattle.multiplication.specs.Rows.{table_row, cell_of, Multiplied, CommuteAt}
use Rattle.multiplication.specs.declared.rows.Tables.{Tables}
use Rattle.multiplication.proofs.RowSums.{multiply-row}

pub commute-iff : {p : ℕ} (h : 1 < p) {t : Tables} {d i j : ℕ} (s : ℕ) {a b : Coordinates} → d ≤ most_standard → Multiplied p t i (table_row t j s) d a → Multiplied p t j (table_row t i s) d b
    → ((k : ℕ) → k < most_standard → coordinate a k ≡ coordinate b k) ↔ CommuteAt p h t d i j s
unfolding coordinates_of
commute-iff {p} h {t} {d} {i} {j} s l u v = (
  λ e k m. sym (u.coordinates h k m ∙ multiply-row t j s p h d l i k) ∙ ap (residue p h) (e k (omega arith)) ∙ v.coordinates h k m ∙ multiply-row t i s p h d l j k,
  λ e k _. by_cases (dec_lt k d)
      (λ m. residue-injective p h _ _ (u.below.below k) (v.below.below k)
      (u.coordinates h k m ∙ multiply-row t j s p h d l i k ∙ e k m ∙ sym (v.coordinates h k m ∙ multiply-row t i s p h d l j k)))
      (λ m. u.zeros k (omega arith) ∙ sym (v.zeros k (omega arith))),
)

pub all-commute : (p : ℕ) (h : 1 < p) (t : Tables) (n d : ℕ)
    → ((j : ℕ) → j < n → (i : ℕ) → i < j → (s : ℕ) → s < d → CommuteAt p h t d i j s) ↔ RowsCommute (modulo p h) n d (cell_of p h t)
all-commute p h t n d = (λ a i j m l. a j l i m, λ a j l i m. a i j m l)
