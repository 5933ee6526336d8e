-- Row elimination over lists of residues, as it computes.
--   less p h x c y                             x - c·y
--   scaled p h c x k                           c·x, as a row with the pivot k
--   cleared p h q r                            the row r less the multiple of q that makes it zero at q's pivot
--   inserted p h q rs                          the rows cleared at q's pivot, and then q
--   chosen p h reciprocal rs x o               the answer for what is left, x, with its first place o
--   eliminated p h field L reciprocal rs k v   the answer of row elimination to v, after k vectors
--   reduced-none, reduced-more                 what the rows leave, one row after the other
--   eliminated-first                           the answer, by the first place of what is left
--   eliminated-same                            what the combinations are of does not enter the answer
use mathlib.Core.Path.{◌≡◌, refl, sym, ◌∙◌, ap}
use mathlib.Core.List.{List, [], ◌∷◌, ◌++◌, map}
use mathlib.Core.Logic.{◌⊎◌, inl, inr}
use mathlib.Core.Option.{Option, none, some}
use Prim.Native.Nat.{ℕ, ◌<◌}
use lib.ListN.{get_or}
use Rattle.residue.specs.Field.{ZMod, modulo}
use Rattle.residue.specs.RingLaws.{Field}
use Rattle.groebner.specs.CoefficientRows.{subtract_multiple, multiply, unit_array}
use Rattle.groebner.proofs.CoefficientElimination.{coefficient_vectors, array_combinations}
use Rattle.groebner.proofs.CoefficientRows.{first_nonzero, FirstNonzero, first_found, first-unique}
use Rattle.groebner.proofs.Coordinates.{sequences}
use Rattle.groebner.proofs.RowElimination.{reduce_row, insert_row, pivot_step, add_vector}
use Rattle.lines.specs.Sizes.{most_standard}
use Rattle.fglm.specs.RowState.{AugmentedRow, ReducedRow, State}
use Rattle.fglm.specs.Elimination.{reduced}

module _ (p : ℕ) (h : 1 < p) where
  -- x - c·y
  abbrev pub less : AugmentedRow p → ZMod p → AugmentedRow p → AugmentedRow p
  less x c y = record { vector = subtract_multiple (modulo p h) x.vector c y.vector; combination = subtract_multiple (modulo p h) x.combination c y.combination }

  -- c·x, with the pivot k
  abbrev pub scaled : ZMod p → AugmentedRow p → ℕ → ReducedRow p
  scaled c x k = record { row = record { vector = multiply (modulo p h) c x.vector; combination = multiply (modulo p h) c x.combination }; pivot = k }

  abbrev pub cleared : ReducedRow p → ReducedRow p → ReducedRow p
  cleared q r = record { row = less r.row (get_or r.row.vector q.pivot (modulo p h).zero) q.row; pivot = r.pivot }

  abbrev pub inserted : ReducedRow p → State p → State p
  inserted q rs = map (cleared q) rs ++ (q ∷ [])

  abbrev pub chosen : (ZMod p → ZMod p) → State p → AugmentedRow p → Option ℕ → List (ZMod p) ⊎ State p
  chosen reciprocal rs x none = inl (multiply (modulo p h) ((modulo p h).neg (modulo p h).one) x.combination)
  chosen reciprocal rs x (some k) = inr (inserted (scaled (reciprocal (get_or x.vector k (modulo p h).zero)) x k) rs)

  module _ (field : Field (modulo p h)) {M : Type 0} (L : M → ℕ → ZMod p) where
    -- The answer to v after k vectors.
    unfoldable pub eliminated : (ZMod p → ZMod p) → State p → ℕ → List (ZMod p) → List (ZMod p) ⊎ State p
    unfolding coefficient_vectors array_combinations add_vector
    eliminated reciprocal rs k v =
        add_vector (coefficient_vectors field.ring most_standard (λ c. field.decide c (modulo p h).zero)) (array_combinations (sequences field.ring) L most_standard) reciprocal rs k v

    pub reduced-none : (x : AugmentedRow p) (v : List (ZMod p)) → reduced p h field L [] x v ≡ x
    unfolding reduced reduce_row
    reduced-none x v = refl

    pub reduced-more : (r : ReducedRow p) (rs : State p) (x : AugmentedRow p) (v : List (ZMod p))
        → reduced p h field L (r ∷ rs) x v ≡ reduced p h field L rs (less x (get_or v r.pivot (modulo p h).zero) r.row) v
    unfolding reduced reduce_row coefficient_vectors array_combinations
    reduced-more r rs x v = refl

    -- The decision of zero that the field has.
    abbrev zero? : (c : ZMod p) → Dec (c ≡ (modulo p h).zero)
    zero? c = field.decide c (modulo p h).zero

    module _ (reciprocal : ZMod p → ZMod p) (rs : State p) (k : ℕ) (v : List (ZMod p)) where
      abbrev left : AugmentedRow p
      left = reduced p h field L rs (record { vector = v; combination = unit_array (modulo p h) most_standard k }) v

      eliminated-chosen : eliminated reciprocal rs k v ≡ chosen reciprocal rs left (first_nonzero (modulo p h) zero? left.vector)
      unfolding eliminated add_vector pivot_step insert_row reduced coefficient_vectors array_combinations
      eliminated-chosen = go (first_nonzero (modulo p h) zero? left.vector)
        where
          go : (o : Option ℕ) → (elim o [
            | none ↦ inl (multiply (modulo p h) ((modulo p h).neg (modulo p h).one) left.combination)
            | some i ↦ inr (inserted (scaled (reciprocal (get_or left.vector i (modulo p h).zero)) left i) rs)
          ]) ≡ chosen reciprocal rs left o
          go none = refl
          go (some i) = refl

      pub eliminated-first : (x : AugmentedRow p) → x ≡ left → (o : Option ℕ) → FirstNonzero (modulo p h) x.vector o
          → eliminated reciprocal rs k v ≡ chosen reciprocal rs x o
      eliminated-first x e o f = eliminated-chosen ∙ ap (λ y. chosen reciprocal rs y (first_nonzero (modulo p h) zero? y.vector)) (sym e)
          ∙ ap (chosen reciprocal rs x) (first-unique (modulo p h) x.vector (first_nonzero (modulo p h) zero? x.vector) o (first_found (modulo p h) zero? x.vector) f)

  module _ (field : Field (modulo p h)) {M N : Type 0} (L : M → ℕ → ZMod p) (K : N → ℕ → ZMod p) where
    reduced-same : (rs : State p) (x : AugmentedRow p) (v : List (ZMod p)) → reduced p h field L rs x v ≡ reduced p h field K rs x v
    reduced-same [] x v = reduced-none field L x v ∙ sym (reduced-none field K x v)
    reduced-same (r ∷ rs) x v = reduced-more field L r rs x v ∙ reduced-same rs _ v ∙ sym (reduced-more field K r rs x v)

    pub eliminated-same : (reciprocal : ZMod p → ZMod p) (rs : State p) (k : ℕ) (v : List (ZMod p))
        → eliminated field L reciprocal rs k v ≡ eliminated field K reciprocal rs k v
    eliminated-same reciprocal rs k v = eliminated-chosen field L reciprocal rs k v
        ∙ ap (λ x. chosen reciprocal rs x (first_nonzero (modulo p h) (zero? field L) x.vector)) (reduced-same rs _ v)
        ∙ sym (eliminated-chosen field K reciprocal rs k v)
