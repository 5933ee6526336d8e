-- What `Rows` promises of vectors that are the images of monomials, added one by one.
--   no-rows-yet         no rows are those of no monomials; state-none, sound_none: `Rows` of which none is used
--   enough-room         where the image of m has a row, there is room for it
--   answers             the answer to the image of m: a combination of the images before it that is its own; or rows with one more, and it is no such combination
--   dependent-exactly   nothing is left of the image of m exactly if it is a combination of the images before it
use mathlib.Core.Path.{◌≡◌, refl, sym, ◌∙◌, ap, fun_ext, subst}
use mathlib.Core.List.Memᴰ
use mathlib.Core.List.{List, [], ◌∷◌, map}
use mathlib.Core.Logic.{◌⊎◌, inl, inr, ◌↔◌}
use Prim.Native.Nat.{ℕ, ◌<◌, ◌≤◌}
use native.Mathlib.Omega.{arith}
use lib.ListN.{length, get_or, take, length-append}
use Rattle.lists.specs.Lists.{◌∈◌}
use Rattle.residue.specs.Prime.{Prime}
use Rattle.residue.specs.Field.{ZMod, modulo}
use Rattle.residue.specs.RingLaws.{Field}
use Rattle.residue.specs.declared.reciprocals.Reciprocals.{Reciprocals}
use Rattle.residue.proofs.ResidueField.{residue-field}
use Rattle.groebner.specs.CoefficientRows.{polynomial_of}
use Rattle.groebner.proofs.CoefficientElimination.{coefficient_vectors, array_combinations}
use Rattle.groebner.proofs.Coordinates.{sequences, entries}
use Rattle.groebner.proofs.Echelon as echelon
use Rattle.groebner.proofs.Elimination.{AddedVector}
use Rattle.groebner.proofs.RowElimination.{Vectors, Combinations, Holds, add-vector-holds}
use Rattle.groebner.proofs.RowElimination as rows
use Rattle.groebner.proofs.Modules.{Module}
use Rattle.groebner.proofs.Spans.{LinearSpan}
use Rattle.lines.specs.Sizes.{most_standard}
use Rattle.coordinates.specs.Vectors.{vector, FirstPlace}
use Rattle.coordinates.specs.declared.Coordinates.{Coordinates}
use Rattle.std.specs.Prelude.{Option, Some, None}
use Rattle.coordinates.proofs.VectorEntries.{length-vector}
use Rattle.fglm.specs.RowState.{State, reduced_row, state_of, SoundRows}
use Rattle.fglm.specs.Elimination.{nothing, LeftOf}
use Rattle.fglm.specs.declared.elimination.AugmentedVector.{AugmentedVector}
use Rattle.fglm.specs.declared.elimination.Rows.{Rows}
use Rattle.fglm.proofs.Images.{Image, EchelonOf, Answers}
use Rattle.fglm.proofs.Residues.{table_inverse, inverse-law}
use Rattle.fglm.proofs.ListElimination.{eliminated, eliminated-same}
use Rattle.fglm.proofs.Adding.{answer, answer-left}

pub state-none : (p : ℕ) (h : 1 < p) (s : Rows) → s.used ≡ 0 → state_of p h s ≡ []
unfolding state_of
state-none p h s e = ap (λ n. map (reduced_row p h) (take n s.rows)) e

pub sound_none : (p : ℕ) (s : Rows) → s.used ≡ 0 → SoundRows p s
sound_none p s e = record { size = omega arith; rows = λ k l. absurd (omega arith) }

module _ (p : ℕ) (h : 1 < p) (field : Field (modulo p h)) {M : Type 0} (L : M → ℕ → ZMod p) where
  pub no-rows-yet : EchelonOf p h field L [] []
  unfolding EchelonOf coefficient_vectors array_combinations
  no-rows-yet = record { echelon = echelon.no_rows (entries field.ring) L most_standard; sound = λ r i. absurd (Memᴰ.not-nil i) }

  few-rows : (rs : State p) (B : List M) → EchelonOf p h field L rs B → length B ≤ most_standard
  unfolding EchelonOf coefficient_vectors array_combinations
  few-rows rs B e = echelon.few-rows (entries field.ring) L most_standard _ B e.echelon

  abbrev 𝓡 : Vectors (entries field.ring) most_standard
  𝓡 = coefficient_vectors field.ring most_standard (λ c. field.decide c (modulo p h).zero)

  abbrev 𝓒 : Combinations (sequences field.ring) L most_standard
  𝓒 = array_combinations (sequences field.ring) L most_standard

  -- The answer of row elimination.
  eliminated-answers : (reciprocal : ZMod p → ZMod p) → ((c : ZMod p) → ¬ (c ≡ (modulo p h).zero) → (modulo p h).mul (reciprocal c) c ≡ (modulo p h).one)
      → (rs : State p) (B : List M) → EchelonOf p h field L rs B → (m : M) (v : List (ZMod p)) → ((k : ℕ) → get_or v k (modulo p h).zero ≡ L m k)
      → length v ≤ most_standard
      → (o : List (ZMod p) ⊎ State p) → eliminated p h field L reciprocal rs (length B) v ≡ o → Answers p h field L B m o
  unfolding EchelonOf eliminated coefficient_vectors array_combinations
  eliminated-answers reciprocal law rs B e m v image fits o q = told-answers o (subst (λ o. AddedVector (sequences field.ring) L (Holds 𝓡 𝓒) B m (rows.elimination_answer 𝓡 𝓒 B o)) q
      (add-vector-holds 𝓡 𝓒 field.nontrivial reciprocal law rs B e m v (fun_ext image) fits))
    where
      told-answers : (o : List (ZMod p) ⊎ State p) → AddedVector (sequences field.ring) L (Holds 𝓡 𝓒) B m (rows.elimination_answer 𝓡 𝓒 B o) → Answers p h field L B m o
      told-answers (inl c) w = w
      told-answers (inr ss) w = w

-- The image of m is added to the rows of B.
module _ (t : Reciprocals) (prime : Prime t.field.p) {M : Type 0} (L : M → ℕ → ZMod t.field.p) (s : Rows) (B : List M)
    (holds : EchelonOf t.field.p prime.above_one (residue-field t.field.p prime) L (state_of t.field.p prime.above_one s) B) (count : s.used ≡ length B)
    (m : M) (v : Coordinates) (image : Image t.field.p prime.above_one L v m) where
  abbrev p : ℕ
  p = t.field.p

  abbrev h : 1 < p
  h = prime.above_one

  abbrev field : Field (modulo p h)
  field = residue-field p prime

  abbrev 𝓥 : Module (modulo p h) (ℕ → ZMod p)
  𝓥 = sequences field.ring

  -- The answer does not ask what the images are.
  answer-same : answer t prime s v ≡ eliminated p h field L (table_inverse t h) (state_of p h s) (length B) (vector p h v)
  unfolding answer
  answer-same = eliminated-same p h field (nothing p) L (table_inverse t h) (state_of p h s) s.used (vector p h v)
      ∙ ap (λ k. eliminated p h field L (table_inverse t h) (state_of p h s) k (vector p h v)) count

  pub answers : (o : List (ZMod p) ⊎ State p) → answer t prime s v ≡ o → Answers p h field L B m o
  answers o e = eliminated-answers p h field L (table_inverse t h) (inverse-law t h) (state_of p h s) B holds m (vector p h v)
      image.entries (omega (arith, image.size, length-vector p h v)) o (sym answer-same ∙ e)

  pub enough-room : (rs : State p) → answer t prime s v ≡ inr rs → s.used < most_standard
  enough-room rs e = omega (arith, few-rows p h field L rs _ (answers (inr rs) e).0, length-append B (m ∷ []), count)

  -- So nothing is left of v exactly if the image of m is a combination of the images of B.
  pub dependent-exactly : {x : AugmentedVector} → LeftOf p s v x → (f : Option ℕ) → FirstPlace x.vector f → (f ≡ None) ↔ LinearSpan 𝓥 L (λ b. b ∈ B) (L m)
  dependent-exactly left None first = let w = answers (inl _) (answer-left t left prime None first) in (λ e. (polynomial_of B _, w.0, w.1), λ i. refl)
  dependent-exactly left (Some k) first = (λ e. absurd (distinct e), λ i. absurd ((answers (inr _) (answer-left t left prime (Some k) first)).1 i))
    where
      distinct : Some k ≡ None → ⊥
      distinct e = let z : ◌≡◌ {A = ℕ} 0 1 = cc in omega arith
