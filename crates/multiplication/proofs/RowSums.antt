-- The loop of `times_variable`: sums over the rows of one variable modulo p, one row a turn.
--   Summed p t i w a r   the coordinates a are Σ w(s)·row(i, s) over s < r
--   summed-start         before the first turn
--   summed-row           a turn adds row r
--   summed-none          a turn leaves out a row with the coefficient 0
--   summed-whole         after the last turn, cut at the number of the rows
--   table-row-below      a row of the tables is below p
--   multiply-row         a product with a row of the tables
use mathlib.Core.Path.{◌≡◌, refl, sym, ◌∙◌, ap, ap₂, subst}
use mathlib.Core.Logic.{by_cases}
use Prim.Native.Nat.{ℕ, ◌+◌, ◌*◌, ◌%◌, ◌<◌, ◌≤◌}
use native.Mathlib.Nat.{zero-mod}
use native.Mathlib.Decide.{dec_lt}
use native.Mathlib.Omega.{arith}
use Rattle.residue.specs.Field.{modulo, residue}
use Rattle.residue.proofs.ResidueField.{residue-ring}
use Rattle.residue.proofs.Residues.{residue-mod}
use Rattle.groebner.specs.MultiplicationRows.{times_variable}
use Rattle.groebner.proofs.DotProducts.{dot-on}
use Rattle.lines.specs.Sizes.{most_standard}
use Rattle.coordinates.specs.Vectors.{coordinate, Below, Cut, AddedMultiple, coordinates_of}
use Rattle.coordinates.specs.declared.Coordinates.{Coordinates}
use Rattle.multiplication.specs.Rows.{table_row, cell_at, AllBelow, cell_of, Multiplied}
use Rattle.multiplication.specs.declared.rows.Tables.{Tables}
use Rattle.multiplication.proofs.NaturalSums.{dot_product, total-more, total-none, residue-total}

pub record Summed (p : ℕ) (t : Tables) (i : ℕ) (w a : Coordinates) (r : ℕ) : Type 0 where
  pub below : Below p a
  pub sums : (k : ℕ) → k < most_standard → coordinate a k ≡ dot_product r (coordinate w) (λ s. cell_at t i s k) % p

module _ {p : ℕ} {t : Tables} {i : ℕ} {w a : Coordinates} where
  pub summed-start : 0 < p → ((k : ℕ) → coordinate a k ≡ 0) → Summed p t i w a 0
  unfolding dot_product
  summed-start o z = record { below = record { below = λ k. omega (arith, z k) }; sums = λ k h. z k ∙ sym (zero-mod p) }

  module _ {r : ℕ} (summed : Summed p t i w a r) where
    pub summed-row : {b : Coordinates} → AddedMultiple p a (coordinate w r) (table_row t i r) b → Summed p t i w b (r + 1)
    summed-row q = record {
      below = q.below;
      sums = λ k h. q.sums k h ∙ ap₂ (λ x y. (x + coordinate w r * y) % p) (summed.sums k h) refl ∙ total-more p r (coordinate w) (λ s. cell_at t i s k);
    }

    pub summed-none : coordinate w r ≡ 0 → Summed p t i w a (r + 1)
    summed-none z = record {
      below = summed.below;
      sums = λ k h. summed.sums k h ∙ ap (◌% p) (total-none r (coordinate w) (λ s. cell_at t i s k) z);
    }

    pub summed-whole : {x : Coordinates} → 0 < p → r ≤ most_standard → Cut r a x → Multiplied p t i w r x
    unfolding coordinates_of cell_of
    summed-whole o u q = record {
      below = record { below = λ k. by_cases (dec_lt k r) (λ h. subst (◌< p) (sym (q.front k h)) (summed.below.below k)) (λ h. omega (arith, q.zeros k (omega arith))) };
      zeros = q.zeros;
      coordinates = λ h k l. ap (residue p h) (q.front k l ∙ summed.sums k (omega arith)) ∙ residue-mod p h _ ∙ residue-total p h r _ _;
    }

pub table-row-below : {p : ℕ} {t : Tables} → AllBelow p t → (i s : ℕ) → Below p (table_row t i s)
table-row-below all i s = record { below = all.cell i s }

pub multiply-row : (t : Tables) (i s p : ℕ) (h : 1 < p) (d : ℕ) → d ≤ most_standard → (j k : ℕ)
    → times_variable (modulo p h) d (cell_of p h t) j (coordinates_of p h (table_row t i s)) k ≡ times_variable (modulo p h) d (cell_of p h t) j (cell_of p h t i s) k
unfolding coordinates_of cell_of
multiply-row t i s p h d u j k = dot-on (residue-ring p h) d _ _ _ _ (λ r v. refl) (λ r v. refl)
