-- Reduced echelon form in a module with coordinates: each row has a pivot, a place where reduction by the rows leaves zero.
--   CoordinateFunctions 𝓥   a coordinate of each vector at each place, additive and homogeneous
--   subtract 𝓥 a c b        a - c·b
--   part_of 𝓐 rs v          the combination of the rows rs that has v's coordinates at the pivots
--   reduce_by 𝓐 rs v        v less that part
--   new_row 𝓐 rs v p d      what is left of v, times d, as a row with the pivot p
--   clear_at 𝓐 q r          the row r less the multiple of q that makes it zero at q's pivot
--   inserted_row 𝓐 q rs     the rows cleared at q's pivot, and then q
--   UnitMultiple 𝓐 p w      w is a multiple of the unit vector of the place p
--   Echelon 𝓐 L D rs B      the rows rs are in reduced echelon form, with pivots below D, and span what the images of B span
-- Of spans: span-null, span-plus, span-subtract, span-act
-- Of coordinates: at_null, at-opposite, at-subtract
-- Of reduction: reduce-plus, reduce-act, reduce-null, reduce-insert
-- reduce-span: of a combination of images of B nothing is left; part-of-zero: if nothing is left of v, it is a combination of rows
-- combination-exactly: a vector is a combination of images of B exactly if nothing is left of it
-- no_rows, add_row: what is left of an image, made one at a place of its own, is a new row
-- few-rows: there are at most D rows
-- unit-pivot: where a multiple of a unit vector is in the span, its place is a pivot; echelon-full: with one for each place there are D rows
use mathlib.Core.Path.{◌≡◌, refl, sym, ◌∙◌, ap, ap₂, subst}
use mathlib.Core.List.Memᴰ
use mathlib.Core.List.{List, [], ◌∷◌, ◌++◌, map}
use mathlib.Core.Logic.{◌↔◌}
use Prim.Native.Nat.{ℕ, ◌≤◌, ◌<◌}
use native.Mathlib.Decide.{ℕ_discrete}
use native.Mathlib.Omega.{arith}
use lib.ListN.{length, length-append, length-map}
use Rattle.lists.specs.Lists.{◌∈◌, Once}
use Rattle.residue.specs.Field.{Arithmetic}
use Rattle.groebner.specs.Polynomials.{Poly, All, all_nil, all_cons, scale}
use Rattle.groebner.specs.CoefficientRows.{Pivoted}
use Rattle.groebner.proofs.Modules.{Module, self, null-plus, plus-left-comm, plus-medial, opposite-unique, zero-act, act-null, neg-act, act-opposite, opposite-null, opposite-plus, opposite-opposite, equal-of-difference, mul-zero}
use Rattle.groebner.proofs.Linear.{all_append, all-scale, lin, lin-append, lin-scale}
use Rattle.groebner.proofs.Lists.{pigeon, once-append, of_map, range, length-range, in-range, of_range, once-range}
use Rattle.groebner.proofs.Members.{member?, each-extended, each-inserted}
use Rattle.groebner.proofs.Spans.{LinearSpan, span-one, span-on}

-- A coordinate of each vector at each place, additive and homogeneous.
pub record CoordinateFunctions {F W : Type 0} {R : Arithmetic F} (𝓥 : Module R W) : Type 0 where
  pub at : ℕ → W → F
  pub at_plus : (k : ℕ) (v w : W) → at k (𝓥.plus v w) ≡ R.add (at k v) (at k w)
  pub at_act : (k : ℕ) (c : F) (v : W) → at k (𝓥.act c v) ≡ R.mul c (at k v)

abbrev pub pivots : {A : Type 0} → List (Pivoted A) → List ℕ
pivots rs = map (λ r. r.pivot) rs

-- a - c·b
abbrev pub subtract : {F W : Type 0} {R : Arithmetic F} → Module R W → W → F → W → W
subtract 𝓥 a c b = 𝓥.plus a (𝓥.opposite (𝓥.act c b))

-- A span is closed under sums and multiples.
module _ {F M : Type 0} {R : Arithmetic F} {W : Type 0} (𝓥 : Module R W) (L : M → W) {P : M → Type 0} where
  pub span-null : LinearSpan 𝓥 L P 𝓥.null
  unfolding lin
  span-null = ([], all_nil, refl)

  pub span-plus : {v w : W} → LinearSpan 𝓥 L P v → LinearSpan 𝓥 L P w → LinearSpan 𝓥 L P (𝓥.plus v w)
  span-plus s t = (s.0 ++ t.0, all_append s.1 t.1, ap₂ 𝓥.plus s.2 t.2 ∙ sym (lin-append 𝓥 L s.0 t.0))

  pub span-act : (c : F) {v : W} → LinearSpan 𝓥 L P v → LinearSpan 𝓥 L P (𝓥.act c v)
  span-act c s = (scale R c s.0, all-scale R c s.1, ap (𝓥.act c) s.2 ∙ sym (lin-scale 𝓥 L c s.0))

  pub span-subtract : (c : F) {v w : W} → LinearSpan 𝓥 L P v → LinearSpan 𝓥 L P w → LinearSpan 𝓥 L P (subtract 𝓥 v c w)
  span-subtract c {v} {w} s t = subst (λ x. LinearSpan 𝓥 L P (𝓥.plus v x)) (neg-act 𝓥 c w) (span-plus s (span-act (R.neg c) t))

module _ {F W : Type 0} {R : Arithmetic F} {𝓥 : Module R W} (𝓐 : CoordinateFunctions 𝓥) where
  open 𝓥 use {ring, null, plus, opposite, act, plus_assoc, plus_comm, plus_null, plus_opposite, act_plus, act_add, act_mul, act_one}
  open 𝓐 use {at, at_plus, at_act}

  -- The combination of the rows that has v's coordinates at the pivots.
  unfoldable pub part_of : List (Pivoted W) → W → W
  part_of [] v = null
  part_of (r ∷ rs) v = plus (act (at r.pivot v) r.row) (part_of rs v)

  -- v less that part.
  unfoldable pub reduce_by : List (Pivoted W) → W → W
  unfolding part_of
  reduce_by rs v = plus v (opposite (part_of rs v))

  -- What is left of v, times d, as a row with the pivot p.
  abbrev pub new_row : List (Pivoted W) → W → ℕ → F → Pivoted W
  new_row rs v p d = record { row = act d (reduce_by rs v); pivot = p }

  -- The row r less the multiple of q that makes it zero at q's pivot.
  abbrev pub clear_at : Pivoted W → Pivoted W → Pivoted W
  clear_at q r = record { row = subtract 𝓥 r.row (at q.pivot r.row) q.row; pivot = r.pivot }

  -- One more row; the others are cleared at its pivot.
  abbrev pub inserted_row : Pivoted W → List (Pivoted W) → List (Pivoted W)
  inserted_row q rs = map (clear_at q) rs ++ (q ∷ [])

  pub at_null : (k : ℕ) → at k null ≡ R.zero
  at_null k = ap (at k) (sym (zero-act 𝓥 null)) ∙ at_act k R.zero null ∙ ring.mul_comm _ _ ∙ mul-zero ring _

  pub at-opposite : (k : ℕ) (v : W) → at k (opposite v) ≡ R.neg (at k v)
  unfolding self
  at-opposite k v = opposite-unique (self ring) (at k v) (at k (opposite v)) (sym (at_plus k v (opposite v)) ∙ ap (at k) (plus_opposite v) ∙ at_null k)

  pub at-subtract : (k : ℕ) (a : W) (c : F) (b : W) → at k (subtract 𝓥 a c b) ≡ R.add (at k a) (R.neg (R.mul c (at k b)))
  at-subtract k a c b = at_plus k a _ ∙ ap (R.add (at k a)) (at-opposite k _ ∙ ap R.neg (at_act k c b))

  part-plus : (rs : List (Pivoted W)) (v w : W) → part_of rs (plus v w) ≡ plus (part_of rs v) (part_of rs w)
  unfolding part_of
  part-plus [] v w = sym (plus_null null)
  part-plus (r ∷ rs) v w = ap₂ plus (ap (λ c. act c r.row) (at_plus r.pivot v w) ∙ act_add _ _ r.row) (part-plus rs v w) ∙ plus-medial 𝓥 _ _ _ _

  part-act : (rs : List (Pivoted W)) (c : F) (v : W) → part_of rs (act c v) ≡ act c (part_of rs v)
  unfolding part_of
  part-act [] c v = sym (act-null 𝓥 c)
  part-act (r ∷ rs) c v = ap₂ plus (ap (λ x. act x r.row) (at_act r.pivot c v) ∙ act_mul _ _ r.row) (part-act rs c v) ∙ sym (act_plus c _ _)

  pub reduce-plus : (rs : List (Pivoted W)) (v w : W) → reduce_by rs (plus v w) ≡ plus (reduce_by rs v) (reduce_by rs w)
  unfolding reduce_by
  reduce-plus rs v w = ap (plus (plus v w)) (ap opposite (part-plus rs v w) ∙ opposite-plus 𝓥 _ _) ∙ plus-medial 𝓥 v w _ _

  pub reduce-act : (rs : List (Pivoted W)) (c : F) (v : W) → reduce_by rs (act c v) ≡ act c (reduce_by rs v)
  unfolding reduce_by
  reduce-act rs c v = ap (plus (act c v)) (ap opposite (part-act rs c v) ∙ sym (act-opposite 𝓥 c _)) ∙ sym (act_plus c _ _)

  pub reduce-null : (rs : List (Pivoted W)) → reduce_by rs null ≡ null
  reduce-null rs = ap (reduce_by rs) (sym (zero-act 𝓥 null)) ∙ reduce-act rs R.zero null ∙ zero-act 𝓥 _

  -- If nothing is left of v, it is a combination of rows.
  pub part-of-zero : (rs : List (Pivoted W)) (v : W) → reduce_by rs v ≡ null → v ≡ part_of rs v
  unfolding reduce_by
  part-of-zero rs v e = equal-of-difference 𝓥 v (part_of rs v) e

  -- w is a multiple of the unit vector of p: it is not zero, and its other coordinates are.
  abbrev pub UnitMultiple : ℕ → W → Type 0
  UnitMultiple p w = ¬ (w ≡ null) × ((k : ℕ) → ¬ (k ≡ p) → at k w ≡ R.zero)

  -- A vector that is zero at all pivots.
  part-elsewhere : (p : ℕ) (w : W) → ((k : ℕ) → ¬ (k ≡ p) → at k w ≡ R.zero) → (rs : List (Pivoted W)) → ¬ (p ∈ pivots rs) → part_of rs w ≡ null
  unfolding part_of
  part-elsewhere p w h [] n = refl
  part-elsewhere p w h (r ∷ rs) n = ap₂ plus (ap (λ c. act c r.row) (h r.pivot (λ e. n (Memᴰ.head (sym e)))) ∙ zero-act 𝓥 r.row) (part-elsewhere p w h rs (λ i. n (Memᴰ.tail i)))
      ∙ plus_null null

  -- What one more row changes.
  clear-algebra : (c a b : F) (x P q : W) → plus (act c (subtract 𝓥 x a q)) (subtract 𝓥 P b q) ≡ subtract 𝓥 (plus (act c x) P) (R.add (R.mul c a) b) q
  clear-algebra c a b x P q = simp (act_plus, act-opposite 𝓥, act_add, act_mul, opposite-plus 𝓥, plus_assoc, plus_comm, plus-left-comm 𝓥)

  insert-algebra : (a b : F) (v P q : W) → plus v (opposite (plus (subtract 𝓥 P b q) (act a q))) ≡ subtract 𝓥 (plus v (opposite P)) (R.add a (R.neg b)) q
  insert-algebra a b v P q = simp (neg-act 𝓥, opposite-opposite 𝓥, act_add, opposite-plus 𝓥, plus_assoc, plus_comm)

  part-clear : (q : Pivoted W) (rs : List (Pivoted W)) (v : W) → part_of (map (clear_at q) rs) v ≡ subtract 𝓥 (part_of rs v) (at q.pivot (part_of rs v)) q.row
  unfolding part_of
  part-clear q [] v = sym (ap (λ c. subtract 𝓥 null c q.row) (at_null q.pivot) ∙ ap (λ x. plus null (opposite x)) (zero-act 𝓥 q.row) ∙ ap (plus null) (opposite-null 𝓥) ∙ plus_null null)
  part-clear q (r ∷ rs) v = ap (plus _) (part-clear q rs v) ∙ clear-algebra (at r.pivot v) (at q.pivot r.row) (at q.pivot (part_of rs v)) r.row (part_of rs v) q.row
      ∙ ap (λ c. subtract 𝓥 (plus (act (at r.pivot v) r.row) (part_of rs v)) c q.row) (sym (at_plus q.pivot _ _ ∙ ap₂ R.add (at_act q.pivot _ _) refl))

  part-append : (rs ss : List (Pivoted W)) (v : W) → part_of (rs ++ ss) v ≡ plus (part_of rs v) (part_of ss v)
  unfolding part_of
  part-append [] ss v = sym (null-plus 𝓥 _)
  part-append (r ∷ rs) ss v = ap (plus _) (part-append rs ss v) ∙ sym (plus_assoc _ _ _)

  pub reduce-insert : (q : Pivoted W) (rs : List (Pivoted W)) (v : W) → reduce_by (inserted_row q rs) v ≡ subtract 𝓥 (reduce_by rs v) (at q.pivot (reduce_by rs v)) q.row
  unfolding reduce_by part_of
  reduce-insert q rs v = ap (λ x. plus v (opposite x)) (part-append (map (clear_at q) rs) (q ∷ []) v ∙ ap₂ plus (part-clear q rs v) (plus_null _))
      ∙ insert-algebra (at q.pivot v) (at q.pivot (part_of rs v)) v (part_of rs v) q.row
      ∙ ap (λ c. subtract 𝓥 (plus v (opposite (part_of rs v))) c q.row) (sym (at_plus q.pivot _ _ ∙ ap (R.add _) (at-opposite q.pivot _)))

  pivots-insert : (q : Pivoted W) (rs : List (Pivoted W)) → pivots (inserted_row q rs) ≡ pivots rs ++ (q.pivot ∷ [])
  pivots-insert q [] = refl
  pivots-insert q (r ∷ rs) = ap (r.pivot ∷◌) (pivots-insert q rs)

  module _ {M : Type 0} (L : M → W) (D : ℕ) where
    -- The rows rs stand for the images of B.
    pub record Echelon (rs : List (Pivoted W)) (B : List M) : Type 0 where
      -- Nothing is left of a vector at a pivot.
      pub cleared : (v : W) (r : Pivoted W) → r ∈ rs → at r.pivot (reduce_by rs v) ≡ R.zero
      -- Nothing is left of an image of B.
      pub kills : (b : M) → b ∈ B → reduce_by rs (L b) ≡ null
      -- Each row is a combination of images of B.
      pub spanned : (r : Pivoted W) → r ∈ rs → LinearSpan 𝓥 L (λ b. b ∈ B) r.row
      -- There are as many rows as images, each with a pivot of its own below D.
      pub places : (r : Pivoted W) → r ∈ rs → r.pivot < D
      pub apart : Once (pivots rs)
      pub size : length rs ≡ length B

    pub no_rows : Echelon [] []
    no_rows = record {
      cleared = λ v r i. absurd (Memᴰ.not-nil i);
      kills = λ b i. absurd (Memᴰ.not-nil i);
      spanned = λ r i. absurd (Memᴰ.not-nil i);
      places = λ r i. absurd (Memᴰ.not-nil i);
      apart = tt;
      size = refl;
    }

    kills-lin : (rs : List (Pivoted W)) (B : List M) → ((b : M) → b ∈ B → reduce_by rs (L b) ≡ null) → {f : Poly F M} → All (λ b. b ∈ B) f → reduce_by rs (lin 𝓥 L f) ≡ null
    unfolding lin
    kills-lin rs B h all_nil = reduce-null rs
    kills-lin rs B h (all_cons {t = t} i a) = reduce-plus rs _ _ ∙ ap₂ plus (reduce-act rs t.0 (L t.1) ∙ ap (act t.0) (h t.1 i) ∙ act-null 𝓥 _) (kills-lin rs B h a) ∙ plus_null null

    span-part : {P : M → Type 0} (rs : List (Pivoted W)) → ((r : Pivoted W) → r ∈ rs → LinearSpan 𝓥 L P r.row) → (v : W) → LinearSpan 𝓥 L P (part_of rs v)
    unfolding part_of
    span-part [] h v = span-null 𝓥 L
    span-part (r ∷ rs) h v = span-plus 𝓥 L (span-act 𝓥 L (at r.pivot v) (h r (Memᴰ.head refl))) (span-part rs (λ s i. h s (Memᴰ.tail i)) v)

    span-reduce : {P : M → Type 0} (rs : List (Pivoted W)) → ((r : Pivoted W) → r ∈ rs → LinearSpan 𝓥 L P r.row) → {v : W} → LinearSpan 𝓥 L P v → LinearSpan 𝓥 L P (reduce_by rs v)
    unfolding reduce_by
    span-reduce {P} rs h {v} s = subst (λ x. LinearSpan 𝓥 L P (plus v (opposite x))) (act_one (part_of rs v)) (span-subtract 𝓥 L R.one s (span-part rs h v))

    module _ (rs : List (Pivoted W)) (B : List M) (e : Echelon rs B) where
      -- Of a combination of images of B nothing is left.
      pub reduce-span : (v : W) → LinearSpan 𝓥 L (λ b. b ∈ B) v → reduce_by rs v ≡ null
      reduce-span v s = ap (reduce_by rs) s.2 ∙ kills-lin rs B e.kills s.1

      -- A vector, for instance the image of a monomial, is a combination of images of B exactly if nothing is left of it.
      pub combination-exactly : (v : W) → LinearSpan 𝓥 L (λ b. b ∈ B) v ↔ (reduce_by rs v ≡ null)
      combination-exactly v = (reduce-span v, λ z. subst (LinearSpan 𝓥 L (λ b. b ∈ B)) (sym (part-of-zero rs v z)) (span-part rs e.spanned v))

      -- Each row has a place of its own.
      pub few-rows : length B ≤ D
      few-rows = omega (arith, e.size, length-map rs (λ (r : Pivoted W). r.pivot), length-range D, pigeon (pivots rs) (range D) e.apart (λ k i. step k (of_map (λ r. r.pivot) rs i)))
        where
          step : (k : ℕ) → (r : Pivoted W) × r ∈ rs × (k ≡ r.pivot) → k ∈ range D
          step k r = subst (λ x. x ∈ range D) (sym r.2) (in-range D r.0.pivot (e.places r.0 r.1))

      -- What is left of the image of m, if d makes it one at the place p, is a new row.
      pub add_row : ¬ (R.one ≡ R.zero) → (m : M) (p : ℕ) (d : F) → p < D → R.mul d (at p (reduce_by rs (L m))) ≡ R.one → Echelon (inserted_row (new_row rs (L m) p d) rs) (B ++ (m ∷ []))
      add_row nontrivial m p d below inverse = record {
        cleared = λ v. each-inserted (λ r. at r.pivot (reduce_by (inserted_row q rs) v) ≡ R.zero) (clear_at q) rs q (cleared-old v) (cleared-new v);
        kills = each-extended (λ b. reduce_by (inserted_row q rs) (L b) ≡ null) B m kills-old kills-new;
        spanned = each-inserted (λ r. LinearSpan 𝓥 L (λ b. b ∈ B') r.row) (clear_at q) rs q (λ r i. span-subtract 𝓥 L _ (spanned-old r i) spanned-new) spanned-new;
        places = each-inserted (λ r. r.pivot < D) (clear_at q) rs q e.places below;
        apart = subst Once (sym (pivots-insert q rs))
            (once-append (pivots rs) (p ∷ []) e.apart (Memᴰ.not-nil, tt) (λ k i j. clash k (of_map (λ r. r.pivot) rs i) (Memᴰ.eq_of_singleton j)));
        size = omega (arith, length-append (map (clear_at q) rs) (q ∷ []), length-map rs (clear_at q), length-append B (m ∷ []), e.size);
      }
        where
          w : W
          w = reduce_by rs (L m)

          q : Pivoted W
          q = new_row rs (L m) p d

          B' : List M
          B' = B ++ (m ∷ [])

          at_own : at p q.row ≡ R.one
          at_own = at_act p d w ∙ inverse

          at_old : (r : Pivoted W) → r ∈ rs → at r.pivot q.row ≡ R.zero
          at_old r i = at_act r.pivot d w ∙ ap (R.mul d) (e.cleared (L m) r i) ∙ mul-zero ring d

          cleared-old : (v : W) (r : Pivoted W) → r ∈ rs → at r.pivot (reduce_by (inserted_row q rs) v) ≡ R.zero
          cleared-old v r i = ap (at r.pivot) (reduce-insert q rs v) ∙ at-subtract r.pivot (reduce_by rs v) _ q.row
              ∙ ap₂ R.add (e.cleared v r i) (ap R.neg (ap (R.mul _) (at_old r i) ∙ mul-zero ring _)) ∙ ring.add_neg _

          cleared-new : (v : W) → at p (reduce_by (inserted_row q rs) v) ≡ R.zero
          cleared-new v = ap (at p) (reduce-insert q rs v) ∙ at-subtract p (reduce_by rs v) _ q.row ∙ ap (R.add _) (ap R.neg (ap (R.mul _) at_own ∙ ring.mul_one _)) ∙ ring.add_neg _

          kills-old : (b : M) → b ∈ B → reduce_by (inserted_row q rs) (L b) ≡ null
          kills-old b i = reduce-insert q rs (L b) ∙ ap (λ x. subtract 𝓥 x (at p x) q.row) (e.kills b i) ∙ null-plus 𝓥 _
              ∙ ap opposite (ap (λ c. act c q.row) (at_null p) ∙ zero-act 𝓥 q.row) ∙ opposite-null 𝓥

          -- w - w[p]·d·w = 0
          kills-new : reduce_by (inserted_row q rs) (L m) ≡ null
          kills-new = reduce-insert q rs (L m) ∙ ap (λ x. plus w (opposite x)) (sym (act_mul (at p w) d w) ∙ ap (λ c. act c w) (ring.mul_comm _ _ ∙ inverse) ∙ act_one w) ∙ plus_opposite w

          spanned-old : (r : Pivoted W) → r ∈ rs → LinearSpan 𝓥 L (λ b. b ∈ B') r.row
          spanned-old r i = span-on 𝓥 L (λ b j. Memᴰ.append_left (m ∷ []) j) (e.spanned r i)

          spanned-new : LinearSpan 𝓥 L (λ b. b ∈ B') q.row
          spanned-new = span-act 𝓥 L d (span-reduce rs spanned-old (span-one 𝓥 L m (Memᴰ.append_right B (Memᴰ.head refl))))

          clash : (k : ℕ) → (r : Pivoted W) × r ∈ rs × (k ≡ r.pivot) → k ≡ p → ⊥
          clash k r h = nontrivial (sym inverse ∙ ap (R.mul d) (ap (λ x. at x w) (sym h ∙ r.2) ∙ e.cleared (L m) r.0 r.1) ∙ mul-zero ring d)

      -- A multiple of the unit vector of p in the span: p is a pivot.
      pub unit-pivot : (p : ℕ) (w : W) → UnitMultiple p w → LinearSpan 𝓥 L (λ b. b ∈ B) w → p ∈ pivots rs
      unit-pivot p w u s = step (member? ℕ_discrete p (pivots rs))
        where
          step : Dec (p ∈ pivots rs) → p ∈ pivots rs
          step (yes i) = i
          step (no n) = absurd (u.0 (part-of-zero rs w (reduce-span w s) ∙ part-elsewhere p w u.1 rs n))

      -- With a multiple of each unit vector in the span there are D rows.
      pub echelon-full : ((p : ℕ) → p < D → (w : W) × UnitMultiple p w × LinearSpan 𝓥 L (λ b. b ∈ B) w) → length B ≡ D
      echelon-full u = omega (arith, few-rows, pigeon (range D) (pivots rs) (once-range D) (λ p i. step p (u p (of_range D p i))), length-range D, length-map rs (λ (r : Pivoted W). r.pivot), e.size)
        where
          step : (p : ℕ) → (w : W) × UnitMultiple p w × LinearSpan 𝓥 L (λ b. b ∈ B) w → p ∈ pivots rs
          step p w = unit-pivot p w.0 w.1 w.2
