-- Row elimination as a function to compute with, over vectors and combinations as a program holds them, and that it is an Elimination.
--   Pivot 𝓐 D w o                   o is a place below D where the vector w is not zero, or none and w is zero
--   Vectors 𝓐 D                     vectors as a program holds them
--   Combinations 𝓥 L D              combinations of the images of found monomials as a program holds them
--   EliminationRow 𝓡 𝓒              a vector with its combination
--   Rows 𝓡 𝓒                        the state: augmented rows with their pivots
--   subtract_row 𝓡 𝓒 x c y          x - c·y, of the vector and of the combination
--   multiply_augmented 𝓡 𝓒 c x      c·x, of the vector and of the combination
--   reduce_row 𝓡 𝓒 rs v x           x less each row times v's entry at its pivot
--   clear_row 𝓡 𝓒 q r               the row r less the multiple of q that makes it zero at q's pivot
--   insert_row 𝓡 𝓒 q rs             the rows cleared at q's pivot, and then q
--   pivot_step 𝓡 𝓒 inverse rs x     for what is left, x: its combination if the vector is zero, else the rows with x made one at a pivot
--   add_vector 𝓡 𝓒 inverse rs k v   the answer to v after k monomials
--   elimination_answer 𝓡 𝓒 B o      that answer with its combination as a polynomial
--   meaning 𝓡 𝓒 r                   a row as a vector of the module with its pivot
--   SoundElimination 𝓡 𝓒 B x        the vector of x is the combination of x, over the monomials B
--   Holds 𝓡 𝓒 rs B                  the rows are in reduced echelon form for the images of B, and each is sound
-- add-vector-holds: the answer is right; elimination: so row elimination is an Elimination
use mathlib.Core.Path.{◌≡◌, refl, sym, ◌∙◌, ap, ap₂, subst}
use mathlib.Core.List.Memᴰ
use mathlib.Core.List.{List, [], ◌∷◌, ◌++◌, map}
use mathlib.Core.Logic.{◌⊎◌, inl, inr}
use mathlib.Core.Option.{Option, none, some}
use Prim.Native.Nat.{ℕ, suc, ◌<◌}
use native.Mathlib.Omega.{arith}
use lib.ListN.{length, length-append}
use Rattle.lists.specs.Lists.{◌∈◌}
use Rattle.residue.specs.Field.{Arithmetic}
use Rattle.groebner.specs.Polynomials.{Poly, All}
use Rattle.groebner.specs.CoefficientRows.{Pivoted, Augmented}
use Rattle.groebner.proofs.Modules.{Module, neg-act, opposite-null, opposite-plus, opposite-opposite, opposite-unique}
use Rattle.groebner.proofs.Linear.{lin}
use Rattle.groebner.proofs.Members.{each-inserted}
use Rattle.groebner.proofs.Spans.{LinearSpan}
use Rattle.groebner.proofs.Elimination.{AddedVector, Elimination}
use Rattle.groebner.proofs.Echelon.{CoordinateFunctions, subtract, part_of, reduce_by, new_row, inserted_row, at_null, Echelon, reduce-span, few-rows, add_row, no_rows}

-- A place below D where w is not zero; there is none only if w is zero.
abbrev pub Pivot : {F W : Type 0} {R : Arithmetic F} {𝓥 : Module R W} → CoordinateFunctions 𝓥 → ℕ → W → Option ℕ → Type 0
Pivot {𝓥 = 𝓥} 𝓐 D w none = w ≡ 𝓥.null
Pivot {R = R} 𝓐 D w (some p) = (p < D) × ¬ (𝓐.at p w ≡ R.zero)

-- Vectors as a program holds them: `value v` is the vector that v stands for.
pub record Vectors {F W : Type 0} {R : Arithmetic F} {𝓥 : Module R W} (𝓐 : CoordinateFunctions 𝓥) (D : ℕ) : Type 1 where
  pub Vector : Type 0
  pub value : Vector → W
  -- What is asked of a vector that is held, such as its length.
  pub Fits : Vector → Type 0
  pub entry : Vector → ℕ → F
  pub find_pivot : Vector → Option ℕ
  -- a - c·b and c·a
  pub subtract_multiple : Vector → F → Vector → Vector
  pub multiply : F → Vector → Vector
  pub entry_at : (v : Vector) (k : ℕ) → entry v k ≡ 𝓐.at k (value v)
  pub pivot_found : (v : Vector) → Fits v → Pivot 𝓐 D (value v) (find_pivot v)
  pub value_subtract : (a : Vector) (c : F) (b : Vector) → value (subtract_multiple a c b) ≡ subtract 𝓥 (value a) c (value b)
  pub value_multiply : (c : F) (a : Vector) → value (multiply c a) ≡ 𝓥.act c (value a)
  pub fits_subtract : (a : Vector) (c : F) (b : Vector) → Fits a → Fits b → Fits (subtract_multiple a c b)
  pub fits_multiply : (c : F) (a : Vector) → Fits a → Fits (multiply c a)

-- Combinations as a program holds them: `terms B c` is the combination that c stands for if the monomials found are B.
pub record Combinations {F M W : Type 0} {R : Arithmetic F} (𝓥 : Module R W) (L : M → W) (D : ℕ) : Type 1 where
  pub Combination : Type 0
  pub terms : List M → Combination → Poly F M
  -- c speaks of the first k monomials only.
  pub Fits : ℕ → Combination → Type 0
  -- The monomial found after k others.
  pub unit : ℕ → Combination
  -- a - x·b and x·a
  pub subtract_multiple : Combination → F → Combination → Combination
  pub multiply : F → Combination → Combination
  pub terms_among : (B : List M) (c : Combination) → All (λ b. b ∈ B) (terms B c)
  pub value_unit : (B : List M) (m : M) → length B < D → lin 𝓥 L (terms (B ++ (m ∷ [])) (unit (length B))) ≡ L m
  pub value_unit_before : (B : List M) → lin 𝓥 L (terms B (unit (length B))) ≡ 𝓥.null
  pub value_extend : (B : List M) (m : M) (c : Combination) → Fits (length B) c → lin 𝓥 L (terms (B ++ (m ∷ [])) c) ≡ lin 𝓥 L (terms B c)
  pub value_subtract : (B : List M) (a : Combination) (x : F) (b : Combination) → lin 𝓥 L (terms B (subtract_multiple a x b)) ≡ subtract 𝓥 (lin 𝓥 L (terms B a)) x (lin 𝓥 L (terms B b))
  pub value_multiply : (B : List M) (x : F) (a : Combination) → lin 𝓥 L (terms B (multiply x a)) ≡ 𝓥.act x (lin 𝓥 L (terms B a))
  pub fits_unit : (k : ℕ) → k < D → Fits (suc k) (unit k)
  pub fits_extend : (k : ℕ) (c : Combination) → Fits k c → Fits (suc k) c
  pub fits_subtract : (k : ℕ) (a : Combination) (x : F) (b : Combination) → Fits k a → Fits k b → Fits k (subtract_multiple a x b)
  pub fits_multiply : (k : ℕ) (x : F) (a : Combination) → Fits k a → Fits k (multiply x a)

module _ {F M W : Type 0} {R : Arithmetic F} {𝓥 : Module R W} {𝓐 : CoordinateFunctions 𝓥} {L : M → W} {D : ℕ} (𝓡 : Vectors 𝓐 D) (𝓒 : Combinations 𝓥 L D) where
  open 𝓡 use {Vector, value, entry}
  open 𝓒 use {Combination, terms}

  abbrev pub EliminationRow : Type 0
  EliminationRow = Augmented Vector Combination

  abbrev pub Rows : Type 0
  Rows = List (Pivoted EliminationRow)

  -- x - c·y
  abbrev pub subtract_row : EliminationRow → F → EliminationRow → EliminationRow
  subtract_row x c y = record { vector = 𝓡.subtract_multiple x.vector c y.vector; combination = 𝓒.subtract_multiple x.combination c y.combination }

  -- c·x
  abbrev pub multiply_augmented : F → EliminationRow → EliminationRow
  multiply_augmented c x = record { vector = 𝓡.multiply c x.vector; combination = 𝓒.multiply c x.combination }

  -- x less each row times v's entry at its pivot.
  unfoldable pub reduce_row : Rows → Vector → EliminationRow → EliminationRow
  reduce_row [] v x = x
  reduce_row (r ∷ rs) v x = reduce_row rs v (subtract_row x (entry v r.pivot) r.row)

  -- The row r cleared at q's pivot.
  abbrev pub clear_row : Pivoted EliminationRow → Pivoted EliminationRow → Pivoted EliminationRow
  clear_row q r = record { row = subtract_row r.row (entry r.row.vector q.pivot) q.row; pivot = r.pivot }

  -- One more row; the others are cleared at its pivot.
  unfoldable pub insert_row : Pivoted EliminationRow → Rows → Rows
  insert_row q rs = map (clear_row q) rs ++ (q ∷ [])

  module _ (inverse : F → F) where
    -- For what is left, x: its combination if the vector is zero, else the rows with x made one at a pivot.
    unfoldable pub pivot_step : Rows → EliminationRow → Combination ⊎ Rows
    unfolding insert_row
    pivot_step rs x = elim (𝓡.find_pivot x.vector) [
      | none ↦ inl (𝓒.multiply (R.neg R.one) x.combination)
      | some p ↦ inr (insert_row (record { row = multiply_augmented (inverse (entry x.vector p)) x; pivot = p }) rs)
    ]

    -- The answer to v after k monomials: the combination that it is, or the rows with one more.
    unfoldable pub add_vector : Rows → ℕ → Vector → Combination ⊎ Rows
    unfolding pivot_step reduce_row
    add_vector rs k v = pivot_step rs (reduce_row rs v (record { vector = v; combination = 𝓒.unit k }))

  -- The answer with its combination as a polynomial over the monomials found.
  abbrev pub elimination_answer : List M → Combination ⊎ Rows → Poly F M ⊎ Rows
  elimination_answer B (inl c) = inl (terms B c)
  elimination_answer B (inr rs) = inr rs

  -- The rows as vectors of the module.
  abbrev pub meaning : Pivoted EliminationRow → Pivoted W
  meaning r = record { row = value r.row.vector; pivot = r.pivot }

  -- The vector of x is the combination of x.
  pub record SoundElimination (B : List M) (x : EliminationRow) : Type 0 where
    pub vector_fits : 𝓡.Fits x.vector
    pub combination_fits : 𝓒.Fits (length B) x.combination
    pub combined : value x.vector ≡ lin 𝓥 L (terms B x.combination)

  pub record Holds (rs : Rows) (B : List M) : Type 0 where
    pub echelon : Echelon 𝓐 L D (map meaning rs) B
    pub sound : (r : Pivoted EliminationRow) → r ∈ rs → SoundElimination B r.row

  -- What subtracting rows keeps.
  reduce-keeps : {P Q : EliminationRow → Type 0} → ((x : EliminationRow) (c : F) (y : EliminationRow) → P x → Q y → P (subtract_row x c y)) → (rs : Rows) → ((r : Pivoted EliminationRow) → r ∈ rs → Q r.row)
      → (v : Vector) (x : EliminationRow) → P x → P (reduce_row rs v x)
  unfolding reduce_row
  reduce-keeps k [] h v x p = p
  reduce-keeps k (r ∷ rs) h v x p = reduce-keeps k rs (λ s i. h s (Memᴰ.tail i)) v _ (k x _ r.row p (h r (Memᴰ.head refl)))

  value-clear : (x v : Vector) (p : ℕ) (y : Vector) → value (𝓡.subtract_multiple x (entry v p) y) ≡ subtract 𝓥 (value x) (𝓐.at p (value v)) (value y)
  value-clear x v p y = 𝓡.value_subtract x _ y ∙ ap (λ c. subtract 𝓥 (value x) c (value y)) (𝓡.entry_at v p)

  value-reduce : (rs : Rows) (v : Vector) (x : EliminationRow) → value (reduce_row rs v x).vector ≡ 𝓥.plus (value x.vector) (𝓥.opposite (part_of 𝓐 (map meaning rs) (value v)))
  unfolding reduce_row part_of
  value-reduce [] v x = sym (ap (𝓥.plus _) (opposite-null 𝓥) ∙ 𝓥.plus_null _)
  value-reduce (r ∷ rs) v x = value-reduce rs v _ ∙ ap₂ 𝓥.plus (value-clear x.vector v r.pivot r.row.vector) refl ∙ 𝓥.plus_assoc _ _ _ ∙ ap (𝓥.plus _) (sym (opposite-plus 𝓥 _ _))

  meaning-insert : (q : Pivoted EliminationRow) (rs : Rows) → map meaning (insert_row q rs) ≡ inserted_row 𝓐 (meaning q) (map meaning rs)
  unfolding insert_row
  meaning-insert q [] = refl
  meaning-insert q (r ∷ rs) = ap₂ ◌∷◌ (λ i. record { row = value-clear r.row.vector r.row.vector q.pivot q.row.vector i; pivot = r.pivot }) (meaning-insert q rs)

  sound-subtract : (B : List M) (x : EliminationRow) (c : F) (y : EliminationRow) → SoundElimination B x → SoundElimination B y → SoundElimination B (subtract_row x c y)
  sound-subtract B x c y s t = record {
    vector_fits = 𝓡.fits_subtract _ c _ s.vector_fits t.vector_fits;
    combination_fits = 𝓒.fits_subtract _ _ c _ s.combination_fits t.combination_fits;
    combined = 𝓡.value_subtract _ c _ ∙ ap₂ (λ a b. subtract 𝓥 a c b) s.combined t.combined ∙ sym (𝓒.value_subtract B _ c _);
  }

  sound-multiply : (B : List M) (c : F) (x : EliminationRow) → SoundElimination B x → SoundElimination B (multiply_augmented c x)
  sound-multiply B c x s = record {
    vector_fits = 𝓡.fits_multiply c _ s.vector_fits;
    combination_fits = 𝓒.fits_multiply _ c _ s.combination_fits;
    combined = 𝓡.value_multiply c _ ∙ ap (𝓥.act c) s.combined ∙ sym (𝓒.value_multiply B c _);
  }

  fits-length : (B : List M) (m : M) (c : Combination) → 𝓒.Fits (suc (length B)) c → 𝓒.Fits (length (B ++ (m ∷ []))) c
  fits-length B m c f = subst (λ k. 𝓒.Fits k c) (omega (arith, length-append B (m ∷ []))) f

  sound-extend : (B : List M) (m : M) (x : EliminationRow) → SoundElimination B x → SoundElimination (B ++ (m ∷ [])) x
  sound-extend B m x s = record {
    vector_fits = s.vector_fits;
    combination_fits = fits-length B m _ (𝓒.fits_extend _ _ s.combination_fits);
    combined = s.combined ∙ sym (𝓒.value_extend B m _ s.combination_fits);
  }

  -- One vector v, the image of m, and what the rows leave of it.
  module _ (rs : Rows) (B : List M) (holds : Holds rs B) (m : M) (v : Vector) (image : value v ≡ L m) (fits : 𝓡.Fits v) where
    abbrev start : EliminationRow
    start = record { vector = v; combination = 𝓒.unit (length B) }

    abbrev left : EliminationRow
    left = reduce_row rs v start

    abbrev B' : List M
    B' = B ++ (m ∷ [])

    left-value : value left.vector ≡ reduce_by 𝓐 (map meaning rs) (L m)
    unfolding reduce_by
    left-value = value-reduce rs v start ∙ ap (λ w. 𝓥.plus w (𝓥.opposite (part_of 𝓐 (map meaning rs) w))) image

    left-fits : 𝓡.Fits left.vector
    left-fits = reduce-keeps {P = λ x. 𝓡.Fits x.vector} {Q = SoundElimination B} (λ x c y p s. 𝓡.fits_subtract _ c _ p s.vector_fits) rs holds.sound v start fits

    -- Over B alone: what is left is the image of m and its combination.
    left-before : value left.vector ≡ 𝓥.plus (L m) (lin 𝓥 L (terms B left.combination))
    left-before = reduce-keeps {P = Balanced} {Q = SoundElimination B}
        (λ x c y p s. 𝓡.value_subtract _ c _ ∙ ap₂ (λ a b. subtract 𝓥 a c b) p s.combined ∙ 𝓥.plus_assoc _ _ _ ∙ ap (𝓥.plus _) (sym (𝓒.value_subtract B _ c _)))
        rs holds.sound v start (image ∙ sym (ap (𝓥.plus _) (𝓒.value_unit_before B) ∙ 𝓥.plus_null _))
      where
        Balanced : EliminationRow → Type 0
        Balanced x = value x.vector ≡ 𝓥.plus (L m) (lin 𝓥 L (terms B x.combination))

    -- Over B and m: what is left is its combination.
    left-sound : length B < D → SoundElimination B' left
    left-sound l = reduce-keeps {P = SoundElimination B'} {Q = SoundElimination B'} (sound-subtract B') rs (λ r i. sound-extend B m r.row (holds.sound r i)) v start (record {
      vector_fits = fits;
      combination_fits = fits-length B m _ (𝓒.fits_unit (length B) l);
      combined = image ∙ sym (𝓒.value_unit B m l);
    })

    -- Nothing is left: m has the image of a combination.
    dependent : value left.vector ≡ 𝓥.null → L m ≡ lin 𝓥 L (terms B (𝓒.multiply (R.neg R.one) left.combination))
    dependent z = sym (𝓒.value_multiply B _ _ ∙ neg-act 𝓥 _ _ ∙ ap 𝓥.opposite (𝓥.act_one _ ∙ opposite-unique 𝓥 (L m) _ (sym left-before ∙ z)) ∙ opposite-opposite 𝓥 (L m))

    -- Something is left: a new row.
    module _ (nontrivial : ¬ (R.one ≡ R.zero)) (p : ℕ) (d : F) (below : p < D) (inverse : R.mul d (𝓐.at p (value left.vector)) ≡ R.one) where
      abbrev made : Pivoted EliminationRow
      made = record { row = multiply_augmented d left; pivot = p }

      new-echelon : Echelon 𝓐 L D (map meaning (insert_row made rs)) B'
      new-echelon = subst (λ ss. Echelon 𝓐 L D ss B') (sym (meaning-insert made rs ∙ ap (λ q. inserted_row 𝓐 q (map meaning rs)) is-new))
          (add_row 𝓐 L D (map meaning rs) B holds.echelon nontrivial m p d below (ap (λ w. R.mul d (𝓐.at p w)) (sym left-value) ∙ inverse))
        where
          is-new : meaning made ≡ new_row 𝓐 (map meaning rs) (L m) p d
          is-new = λ i. record { row = (𝓡.value_multiply d _ ∙ ap (𝓥.act d) left-value) i; pivot = p }

      new-holds : Holds (insert_row made rs) B'
      unfolding insert_row
      new-holds = record {
        echelon = new-echelon;
        sound = each-inserted (λ r. SoundElimination B' r.row) (clear_row made) rs made (λ r i. sound-subtract B' _ _ _ (sound-old r i) sound-new) sound-new;
      }
        where
          sound-new : SoundElimination B' (multiply_augmented d left)
          sound-new = sound-multiply B' d left (left-sound (omega (arith, few-rows 𝓐 L D _ B' new-echelon, length-append B (m ∷ []))))

          sound-old : (r : Pivoted EliminationRow) → r ∈ rs → SoundElimination B' r.row
          sound-old r i = sound-extend B m r.row (holds.sound r i)

  module _ (nontrivial : ¬ (R.one ≡ R.zero)) (inverse : F → F) (inverse-law : (c : F) → ¬ (c ≡ R.zero) → R.mul (inverse c) c ≡ R.one) where
    -- The answer to the image of m is right.
    pub add-vector-holds : (rs : Rows) (B : List M) → Holds rs B → (m : M) (v : Vector) → value v ≡ L m → 𝓡.Fits v
        → AddedVector 𝓥 L Holds B m (elimination_answer B (add_vector inverse rs (length B) v))
    unfolding add_vector pivot_step
    add-vector-holds rs B h m v e f = step (𝓡.find_pivot x.vector) (𝓡.pivot_found x.vector (left-fits rs B h m v e f))
      where
        x : EliminationRow
        x = reduce_row rs v (record { vector = v; combination = 𝓒.unit (length B) })

        unspanned : (p : ℕ) → ¬ (𝓐.at p (value x.vector) ≡ R.zero) → ¬ LinearSpan 𝓥 L (λ b. b ∈ B) (L m)
        unspanned p n s = n (ap (𝓐.at p) (left-value rs B h m v e f ∙ reduce-span 𝓐 L D (map meaning rs) B h.echelon (L m) s) ∙ at_null 𝓐 p)

        step : (o : Option ℕ) → Pivot 𝓐 D (value x.vector) o → AddedVector 𝓥 L Holds B m (elimination_answer B (elim o [
          | none ↦ inl (𝓒.multiply (R.neg R.one) x.combination)
          | some p ↦ inr (insert_row (record { row = multiply_augmented (inverse (entry x.vector p)) x; pivot = p }) rs)
        ]))
        step none z = (𝓒.terms_among B _, dependent rs B h m v e f z)
        step (some p) q = (
          new-holds rs B h m v e f nontrivial p (inverse (entry x.vector p)) q.0 (ap (R.mul _) (sym same) ∙ inverse-law _ (λ z. q.1 (sym same ∙ z))),
          unspanned p q.1,
        )
          where
            same : entry x.vector p ≡ 𝓐.at p (value x.vector)
            same = 𝓡.entry_at x.vector p

    -- Row elimination, for images that are held as vectors.
    unfoldable pub elimination : (row : M → Vector) → ((m : M) → value (row m) ≡ L m) → ((m : M) → 𝓡.Fits (row m)) → Elimination 𝓥 L D
    elimination row image fits = record {
      State = Rows;
      start = [];
      add = λ rs B m. elimination_answer B (add_vector inverse rs (length B) (row m));
      Holds = Holds;
      start_holds = record { echelon = no_rows 𝓐 L D; sound = λ r i. absurd (Memᴰ.not-nil i) };
      add_holds = λ rs B m h. add-vector-holds rs B h m (row m) (image m) (fits m);
      room = λ rs B h. few-rows 𝓐 L D (map meaning rs) B h.echelon;
    }
