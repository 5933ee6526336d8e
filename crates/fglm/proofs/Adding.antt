-- What the steps of the elimination make of what is left of a vector, together: the answer of row elimination.
--   answer t prime s v   the answer of row elimination to a vector of the code
--   answer-left          the answer of row elimination, by the first place of what is left
--   answer-dependent     if nothing is left, the opposite of the combination is the answer
--   row_scaled           what is left, made one at its first place, is a sound row
--   rows-inserted        the rows cleared at that place, and then that row, are sound
--   answer-inserted      and they are the answer
use mathlib.Core.Path.{◌≡◌, refl, sym, ◌∙◌, ap, ap₂, subst}
use mathlib.Core.List.{List, [], ◌∷◌, ◌++◌, map, map-append}
use mathlib.Core.Logic.{◌⊎◌, inl, inr, ⊎_elim}
use Prim.Native.Nat.{ℕ, zero, suc, ◌+◌, ◌<◌, ◌≤◌}
use native.Mathlib.Nat.{eq-or-lt_of_le}
use native.Mathlib.Numerals.{add-one}
use native.Mathlib.Omega.{arith}
use lib.ListN.{length, get_or, set, take}
use lib.Seq.{get_or-set_same, get_or-set_other, take-suc-set}
use Rattle.residue.specs.Prime.{Prime}
use Rattle.residue.specs.Field.{ZMod, modulo, residue}
use Rattle.residue.specs.Reciprocals.{entry}
use Rattle.residue.specs.declared.reciprocals.Reciprocals.{Reciprocals}
use Rattle.residue.proofs.ResidueField.{residue-field}
use Rattle.residue.proofs.Residues.{residue-below, residue-one, residue-negation}
use Rattle.groebner.specs.CoefficientRows.{multiply}
use Rattle.lines.specs.Sizes.{most_standard}
use Rattle.coordinates.specs.Vectors.{vector, FirstPlace}
use Rattle.coordinates.specs.declared.Coordinates.{Coordinates}
use Rattle.std.specs.Prelude.{Option, Some, None}
use Rattle.coordinates.proofs.VectorEntries.{vector-entry}
use Rattle.coordinates.proofs.FirstPlaces.{first_place, first-of-place}
use Rattle.fglm.specs.RowState.{State, augmented_row, reduced_row, no_row, row_at, state_of, SoundRow, SoundRows}
use Rattle.fglm.specs.Elimination.{nothing, LeftOf}
use Rattle.fglm.specs.Steps.{Dependence, Scaled, ClearedRow, ClearedRows, Inserted}
use Rattle.fglm.specs.declared.elimination.AugmentedVector.{AugmentedVector}
use Rattle.fglm.specs.declared.elimination.Reduced.{Reduced}
use Rattle.fglm.specs.declared.elimination.Rows.{Rows}
use Rattle.fglm.proofs.Residues.{table_inverse}
use Rattle.fglm.proofs.RowSteps.{less-sound, times-sound}
use Rattle.fglm.proofs.ListElimination.{less, scaled, cleared, inserted, chosen, eliminated, eliminated-first}

-- The answer to a vector of the code.
unfoldable pub answer : (t : Reciprocals) → Prime t.field.p → Rows → Coordinates → List (ZMod t.field.p) ⊎ State t.field.p
unfolding eliminated state_of vector table_inverse
answer t prime s v = let h = prime.above_one in
    eliminated t.field.p h (residue-field t.field.p prime) (nothing t.field.p) (table_inverse t h) (state_of t.field.p h s) s.used (vector t.field.p h v)

-- Two lists of rows that agree row by row.
map-take : {A B : Type 0} (f : A → B) (g : B → B) (d : A) (n : ℕ) (l m : List A) → n ≤ length l → n ≤ length m
    → ((k : ℕ) → k < n → f (get_or l k d) ≡ g (f (get_or m k d))) → map f (take n l) ≡ map g (map f (take n m))
map-take f g d zero l m a b e = refl
map-take f g d (suc n) [] m a b e = absurd (omega arith)
map-take f g d (suc n) (x ∷ l) [] a b e = absurd (omega arith)
map-take f g d (suc n) (x ∷ l) (y ∷ m) a b e = ap₂ ◌∷◌ (e 0 (omega arith)) (map-take f g d n l m (omega arith) (omega arith) (λ k h. e (suc k) (omega arith)))

module _ (t : Reciprocals) {s : Rows} {v : Coordinates} {x : AugmentedVector} (left : LeftOf t.field.p s v x) where
  abbrev p : ℕ
  p = t.field.p

  pub answer-left : (prime : Prime p) (o : Option ℕ) → FirstPlace x.vector o
      → answer t prime s v ≡ chosen p prime.above_one (table_inverse t prime.above_one) (state_of p prime.above_one s) (augmented_row p prime.above_one x) (first_place o)
  unfolding answer
  answer-left prime o f =
      eliminated-first p h (residue-field p prime) (nothing p) (table_inverse t h) (state_of p h s) s.used (vector p h v) (augmented_row p h x)
      (left.left h (residue-field p prime)) (first_place o) (first-of-place p h x.vector left.sound.vector_below o f)
    where
      h : 1 < p
      h = prime.above_one

  pub answer-dependent : {c : Coordinates} → FirstPlace x.vector None → Dependence p x c → (prime : Prime p) → answer t prime s v ≡ inl (vector p prime.above_one c)
  answer-dependent f r prime = let h = prime.above_one in
      answer-left prime None f
      ∙ ap inl (sym (r.residues h ∙ ap (λ y. multiply (modulo p h) y (vector p h x.combination)) (residue-negation p h 1 h ∙ ap (modulo p h).neg (residue-one p h))))

  module _ {k : ℕ} (first : FirstPlace x.vector (Some k)) where
    module _ {q : Reduced} (made : Scaled t x k q) where
      pub row_scaled : SoundRow p q
      row_scaled = record { place = subst (◌< most_standard) (sym made.pivot) first.0; row = times-sound made.row }

      -- The row as a list of residues.
      scaled-is : (h : 1 < p) → reduced_row p h q ≡ scaled p h (table_inverse t h (get_or (vector p h x.vector) k (modulo p h).zero)) (augmented_row p h x) k
      unfolding table_inverse
      scaled-is h = (λ i. record { row = record { vector = made.row.vector.residues h i; combination = made.row.combination.residues h i }; pivot = made.pivot i })
          ∙ ap (λ c. scaled p h c (augmented_row p h x) k)
          (ap (λ n. residue p h (entry t.table n)) (sym (ap (λ (z : ZMod p). z.0) (vector-entry p h x.vector k) ∙ residue-below p h _ (left.sound.vector_below.below k))))

      module _ {s' : Rows} (clears : ClearedRows p q s s') (size : length s.rows ≡ most_standard) (sound : SoundRows p s) (room : s.used < most_standard) where
        abbrev grown_rows : Rows
        grown_rows = record { used = s.used + 1; rows = set s'.rows s.used q }

        size' : length s'.rows ≡ most_standard
        size' = clears.size ∙ size

        last_row : row_at grown_rows s.used ≡ q
        last_row = get_or-set_same s'.rows s.used q no_row (omega (arith, size'))

        sound-grown : SoundRows p grown_rows
        sound-grown = record { size = omega arith; rows = λ i l. ⊎_elim (own i) (other i) (eq-or-lt_of_le (omega arith)) }
          where
            own : (i : ℕ) → i ≡ s.used → SoundRow p (row_at grown_rows i)
            own i e = subst (λ j. SoundRow p (row_at grown_rows j)) (sym e) (subst (SoundRow p) (sym last_row) row_scaled)

            other : (i : ℕ) → i < s.used → SoundRow p (row_at grown_rows i)
            other i l = subst (SoundRow p) (sym (get_or-set_other s'.rows s.used i q no_row (omega arith))) (record {
              place = subst (◌< most_standard) (sym (clears.rows i l).pivot) (sound.rows i l).place;
              row = less-sound (clears.rows i l).row;
            })

        cleared-is : (h : 1 < p) (r r' : Reduced) → ClearedRow p q r r' → reduced_row p h r' ≡ cleared p h (reduced_row p h q) (reduced_row p h r)
        cleared-is h r r' c = (λ i. record { row = record { vector = c.row.vector.residues h i; combination = c.row.combination.residues h i }; pivot = c.pivot i })
            ∙ ap (λ z. record { row = less p h (reduced_row p h r).row z (reduced_row p h q).row; pivot = r.pivot }) (sym (vector-entry p h r.row.vector q.pivot))

        state-grown : (h : 1 < p) → state_of p h grown_rows ≡ inserted p h (reduced_row p h q) (state_of p h s)
        unfolding state_of
        state-grown h = ap (λ n. map (reduced_row p h) (take n (set s'.rows s.used q))) (add-one s.used)
            ∙ ap (map (reduced_row p h)) (take-suc-set s'.rows s.used q (omega (arith, size')))
            ∙ map-append (reduced_row p h) (take s.used s'.rows) (q ∷ [])
            ∙ ap (◌++ (reduced_row p h q ∷ []))
            (map-take (reduced_row p h) (cleared p h (reduced_row p h q)) no_row s.used s'.rows s.rows (omega (arith, size')) (omega arith)
            (λ i l. cleared-is h (row_at s i) (row_at s' i) (clears.rows i l)))

      module _ {r : Rows} (i : Inserted p q s r) (size : length s.rows ≡ most_standard) (sound : SoundRows p s) (room : s.used < most_standard) where
        pub rows-inserted : SoundRows p r
        rows-inserted = subst (SoundRows p) (sym i.is) (sound-grown i.cleared size sound room)

        pub answer-inserted : (prime : Prime p) → answer t prime s v ≡ inr (state_of p prime.above_one r)
        answer-inserted prime = let h = prime.above_one in
            answer-left prime (Some k) first
            ∙ ap inr (sym (ap (state_of p h) i.is ∙ state-grown i.cleared size sound room h ∙ ap (λ y. inserted p h y (state_of p h s)) (scaled-is h)))
