-- A vector of the code that is one at one place, and zero elsewhere.
--   unit-represented   it represents the unit vector of that place
--   zero-represented   the zero vector represents that of a place that there is not
use mathlib.Core.Path.{◌≡◌, sym, ◌∙◌, ap, subst}
use mathlib.Core.Logic.{by_cases}
use Prim.Native.Nat.{ℕ, ◌<◌, ◌≤◌}
use native.Mathlib.Decide.{ℕ_discrete}
use native.Mathlib.Omega.{arith}
use lib.ListN.{length, get_or}
use Rattle.residue.specs.Field.{modulo, residue}
use Rattle.residue.proofs.Residues.{residue-zero, residue-one}
use Rattle.groebner.proofs.CoefficientRows.{length-unit-array, entry-unit-array-own, entry-unit-array-other}
use Rattle.lines.specs.Sizes.{most_standard}
use Rattle.coordinates.specs.Vectors.{coordinate, indicator, vector, Represents, unit_vector, FullLength}
use Rattle.coordinates.specs.declared.Coordinates.{Coordinates}
use Rattle.coordinates.proofs.UnitRows.{indicator-same, indicator-other}
use Rattle.coordinates.proofs.VectorEntries.{vector-is}

module _ (p : ℕ) (r : Coordinates) (whole : FullLength r) (above : 1 < p) (i : ℕ) where
  by_place : ((k : ℕ) → k < most_standard → k ≡ i → coordinate r k ≡ 1) → ((k : ℕ) → ¬ (k ≡ i) → coordinate r k ≡ 0) → (h : 1 < p) → vector p h r ≡ unit_vector p i h
  by_place e z h = vector-is p h r (unit_vector p i h) (whole ∙ sym size) (λ k l. by_cases (ℕ_discrete k i) (own k (omega (arith, size))) (other k))
    where
      size : length (unit_vector p i h) ≡ most_standard
      size = length-unit-array (modulo p h) most_standard i

      own : (k : ℕ) → k < most_standard → k ≡ i → residue p h (coordinate r k) ≡ get_or (unit_vector p i h) k (modulo p h).zero
      own k l q = ap (residue p h) (e k l q) ∙ residue-one p h
          ∙ sym (ap (λ j. get_or (unit_vector p i h) j (modulo p h).zero) q ∙ entry-unit-array-own (modulo p h) most_standard i (omega (arith, q)))

      other : (k : ℕ) → ¬ (k ≡ i) → residue p h (coordinate r k) ≡ get_or (unit_vector p i h) k (modulo p h).zero
      other k n = ap (residue p h) (z k n) ∙ residue-zero p h ∙ sym (entry-unit-array-other (modulo p h) most_standard i k n)

  pub unit-represented : ((k : ℕ) → coordinate r k ≡ indicator k i) → Represents p r (unit_vector p i)
  unit-represented e = record {
    whole = whole;
    below = record { below = λ k. by_cases (ℕ_discrete k i) (λ q. subst (◌< p) (sym (own k q)) above) (λ n. subst (◌< p) (sym (other k n)) (omega arith)) };
    residues = by_place (λ k l. own k) other;
  }
    where
      own : (k : ℕ) → k ≡ i → coordinate r k ≡ 1
      own k q = e k ∙ ap (indicator k) (sym q) ∙ indicator-same k

      other : (k : ℕ) → ¬ (k ≡ i) → coordinate r k ≡ 0
      other k n = e k ∙ indicator-other k i n

  pub zero-represented : most_standard ≤ i → ((k : ℕ) → coordinate r k ≡ 0) → Represents p r (unit_vector p i)
  zero-represented l z = record {
    whole = whole;
    below = record { below = λ k. subst (◌< p) (sym (z k)) (omega arith) };
    residues = by_place (λ k m q. absurd (omega arith)) (λ k n. z k);
  }
