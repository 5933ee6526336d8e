-- The rows of the products x_i·B_s, filled in rising order of these products: no row that is read is filled later.
--   SmallerFilled   every product that is smaller than x_i·B_s has its row: of x_j the first at(j) rows are filled
--   RowProgress     of each x_i the first at(i) rows are filled, smaller products first, and the row of x_i·B_s is 0 beyond x_i·B_s
--   progress-none   before the first row
--   progress-more   one row more
use mathlib.Core.Path.{◌≡◌, refl, sym, ◌∙◌, ap, ap₂, subst}
use mathlib.Core.List.{List}
use mathlib.Core.Logic.{◌⊎◌, inl, inr, ⊎_elim, by_cases}
use Prim.Native.Nat.{ℕ, zero, suc, ◌<◌, ◌≤◌}
use native.Mathlib.Decide.{ℕ_discrete}
use native.Mathlib.Omega.{arith}
use lib.ListN.{length, get_or}
use Rattle.residue.specs.Field.{Arithmetic}
use Rattle.residue.specs.RingLaws.{Ring}
use Rattle.monomial.specs.Rows.{Row, product}
use Rattle.monomial.specs.Quotients.{variable}
use Rattle.monomial.specs.Ordering.{monomials}
use Rattle.monomial.proofs.OrderLaws.{MonomialOrder}
use Rattle.monomial.proofs.AnyOrder.{asymmetric}
use Rattle.groebner.specs.Lines.{Line, Reducible}
use Rattle.groebner.specs.Criteria.{Low}
use Rattle.groebner.specs.MultiplicationRows.{dot, times_variable, Filled}
use Rattle.groebner.specs.MultiplicationRows.Filled.{as_unit, as_tail, as_product}
use Rattle.groebner.proofs.DotProducts.{zero-mul}
use Rattle.groebner.proofs.Modules.{self, mul-zero, opposite-null}
use Rattle.groebner.proofs.Terms.{δ-other, coef-absent, find, all-at}
use Rattle.groebner.proofs.Variables.{variable-above, product-left-comm}
use Rattle.multiplication.proofs.NewRows.{multiple_at, NewRow}
use Rattle.multiplication.proofs.NewRows.NewRow.{new_unit, new_tail, new_product}

module _ {F : Type 0} {R : Arithmetic F} (ring : Ring R) where
  open R use {zero as 𝟘, add, mul}

  dot-terms : (d : ℕ) (v w v' w' : ℕ → F) → ((k : ℕ) → k < d → mul (v k) (w k) ≡ mul (v' k) (w' k)) → dot R d v w ≡ dot R d v' w'
  unfolding dot
  dot-terms zero v w v' w' p = refl
  dot-terms (suc d) v w v' w' p = ap₂ add (p d (omega arith)) (dot-terms d v w v' w' (λ k h. p k (omega arith)))

  times_zero : {a : F} (c : F) → a ≡ 𝟘 → mul c a ≡ 𝟘
  times_zero c z = ap (mul c) z ∙ mul-zero ring c

  dot-zeros : (d : ℕ) (v w : ℕ → F) → ((k : ℕ) → k < d → mul (v k) (w k) ≡ 𝟘) → dot R d v w ≡ 𝟘
  unfolding dot
  dot-zeros zero v w p = refl
  dot-zeros (suc d) v w p = ap₂ add (p d (omega arith)) (dot-zeros d v w (λ k h. p k (omega arith))) ∙ ring.add_zero 𝟘

module _ {F : Type 0} (R : Arithmetic F) (n : ℕ) (G : List (Line F (Row n))) (B : List (Row n)) (d : Row n) where
  abbrev pub SmallerFilled : (Row n → Row n → Type 0) → (ℕ → ℕ) → ℕ → ℕ → Type 0
  SmallerFilled lt at i s = (j r : ℕ) → j < n → r < length B → lt (multiple_at R n G B d j r) (multiple_at R n G B d i s) → r < at j

  pub record RowProgress (lt : Row n → Row n → Type 0) (cell : ℕ → ℕ → ℕ → F) (at : ℕ → ℕ) : Type 0 where
    pub within : (i : ℕ) → i < n → at i ≤ length B
    pub closed : (i s : ℕ) → i < n → s < at i → SmallerFilled lt at i s
    pub filled : (i s : ℕ) → i < n → s < at i → Filled R n G B d cell i s
    pub support : (i s : ℕ) → i < n → s < at i → (k : ℕ) → k < length B → (cell i s k ≡ R.zero) ⊎ (lt (get_or B k d) (multiple_at R n G B d i s) ⊎ (get_or B k d ≡ multiple_at R n G B d i s))

  pub progress-none : (lt : Row n → Row n → Type 0) (cell : ℕ → ℕ → ℕ → F) (at : ℕ → ℕ) → ((i : ℕ) → i < n → at i ≡ 0) → RowProgress lt cell at
  progress-none lt cell at z = record {
    within = λ i h. omega (arith, z i h);
    closed = λ i s h l. absurd (omega (arith, z i h));
    filled = λ i s h l. absurd (omega (arith, z i h));
    support = λ i s h l. absurd (omega (arith, z i h));
  }

module _ {F : Type 0} {R : Arithmetic F} (ring : Ring R) (n : ℕ) {lt : Row n → Row n → Type 0} (ord : MonomialOrder (monomials n) lt)
    (G : List (Line F (Row n))) (low : Low lt G) (B : List (Row n)) (d : Row n)
    (irreducible : (s : ℕ) → s < length B → ¬ Reducible (monomials n) G (get_or B s d)) where
  open R use {zero as 𝟘, neg, mul}

  abbrev b : ℕ → Row n
  b s = get_or B s d

  abbrev x : ℕ → ℕ → Row n
  x = multiple_at R n G B d

  module _ {cell : ℕ → ℕ → ℕ → F} {at : ℕ → ℕ} (progress : RowProgress R n G B d lt cell at) where
    -- The rows that the product rule reads are filled.
    module _ (i s : ℕ) (hi : i < n) (smaller : SmallerFilled R n G B d lt at i s) (j t : ℕ) (hj : j < n) (ht : t < length B) (q : b s ≡ x j t) (red : Reducible (monomials n) G (x i t)) where
      first-filled : t < at i
      unfolding monomials
      first-filled = smaller i t hi ht (ord.mono (variable n i) (subst (lt (b t)) (sym q) (variable-above n ord j hj (b t))))

      other-filled : (r : ℕ) → r < length B → (cell i t r ≡ 𝟘) ⊎ ((r < at j) × lt (x j r) (x i s))
      unfolding monomials
      other-filled r h = ⊎_elim inl
          (⊎_elim (λ l.
          let e = product-left-comm n (variable n j) (variable n i) (b t) ∙ ap (product n (variable n i)) (sym q) in
          let m : lt (x j r) (x i s) = subst (lt (x j r)) e (ord.mono (variable n j) l) in
          inr (smaller j r hj h m, m))
          (λ e. absurd (irreducible r h (subst (Reducible (monomials n) G) (sym e) red))))
          (progress.support i t hi first-filled r h)

      -- So a product reads the same from rows that agree where they are filled.
      product-kept : (cell' : ℕ → ℕ → ℕ → F) → ((j r : ℕ) → j < n → r < at j → (k : ℕ) → k < length B → cell' j r k ≡ cell j r k)
          → (k : ℕ) → k < length B → times_variable R (length B) cell j (cell i t) k ≡ times_variable R (length B) cell' j (cell' i t) k
      product-kept cell' kept k h = dot-terms ring (length B) _ _ _ _ (λ r l. ⊎_elim
          (λ z. zero-mul ring z _ ∙ sym (zero-mul ring (kept i t hi first-filled r l ∙ z) _))
          (λ m. ap₂ mul (sym (kept i t hi first-filled r l)) (sym (kept j r hj m.0 k h)))
          (other-filled r l))

      product-support : (k : ℕ) → k < length B → (times_variable R (length B) cell j (cell i t) k ≡ 𝟘) ⊎ (lt (b k) (x i s) ⊎ (b k ≡ x i s))
      product-support k h = ⊎_elim (λ l. inr (inl l)) (⊎_elim (λ e. inr (inr e)) (λ above. inl (dot-zeros ring (length B) _ _ (λ r l. zero above r l)))) (ord.total (b k) (x i s))
        where
          zero : lt (x i s) (b k) → (r : ℕ) → r < length B → mul (cell i t r) (cell j r k) ≡ 𝟘
          zero above r l = ⊎_elim (λ z. zero-mul ring z _)
              (λ m. ⊎_elim (λ z. times_zero ring _ z) (⊎_elim (λ u. absurd (asymmetric ord above (ord.trans u m.1))) (λ e. absurd (asymmetric ord above (subst (λ z. lt z (x i s)) (sym e) m.1))))
              (progress.support j r hj m.0 k h))
              (other-filled r l)

    module _ (i s : ℕ) (hi : i < n) (hs : s < length B) (next : at i ≡ s) (smaller : SmallerFilled R n G B d lt at i s) (w : ℕ → F) (new : NewRow R n G B d cell i s w)
        (cell' : ℕ → ℕ → ℕ → F) (stored : (k : ℕ) → k < length B → cell' i s k ≡ w k)
        (kept : (j r : ℕ) → j < n → r < at j → (k : ℕ) → k < length B → cell' j r k ≡ cell j r k) where
      abbrev Bound : ℕ → ℕ → ℕ → (ℕ → F) → Type 0
      Bound i s k w = (w k ≡ 𝟘) ⊎ (lt (b k) (x i s) ⊎ (b k ≡ x i s))

      new-filled : NewRow R n G B d cell i s w → Filled R n G B d cell' i s
      new-filled (new_unit t c) = as_unit t (λ k h. stored k h ∙ c k h)
      new-filled (new_tail g p q c) = as_tail g p q (λ k h. stored k h ∙ c k h)
      new-filled (new_product j hj t l q r c) = as_product j hj t l q r (λ k h. stored k h ∙ c k h ∙ product-kept i s hi smaller j t hj l q r cell' kept k h)

      new-support : NewRow R n G B d cell i s w → (k : ℕ) → k < length B → (w k ≡ 𝟘) ⊎ (lt (b k) (x i s) ⊎ (b k ≡ x i s))
      unfolding self
      new-support (new_unit t c) k h = by_cases ((monomials n).same? (b k) (x i s)) (λ e. inr (inr e)) (λ e. inl (c k h ∙ δ-other ring (monomials n) (b k) (x i s) e))
      new-support (new_tail g p q c) k h = ⊎_elim (λ f. inr (inl (subst (lt (b k)) (sym q) (all-at (low g p) f.1))))
          (λ a. inl (c k h ∙ ap neg (coef-absent ring (monomials n) g.1 (b k) a) ∙ opposite-null (self ring))) (find (monomials n) g.1 (b k))
      new-support (new_product j hj t l q r c) k h = ⊎_elim (λ z. inl (c k h ∙ z)) inr (product-support i s hi smaller j t hj l q r k h)

      old-filled : (j r : ℕ) (hj : j < n) (hr : r < at j) → Filled R n G B d cell j r → Filled R n G B d cell' j r
      old-filled j r hj hr (as_unit t c) = as_unit t (λ k h. kept j r hj hr k h ∙ c k h)
      old-filled j r hj hr (as_tail g p q c) = as_tail g p q (λ k h. kept j r hj hr k h ∙ c k h)
      old-filled j r hj hr (as_product j' hj' t l q red c) = as_product j' hj' t l q red
          (λ k h. kept j r hj hr k h ∙ c k h ∙ product-kept j r hj (progress.closed j r hj hr) j' t hj' l q red cell' kept k h)

      -- The rows filled now: those from before, and the new one.
      module _ (at' : ℕ → ℕ) (here : at' i ≡ suc s) (there : (j : ℕ) → j < n → ¬ (j ≡ i) → at' j ≡ at j) where
        more : (j : ℕ) → j < n → at j ≤ at' j
        more j h = by_cases (ℕ_discrete j i) (λ e. let u : at j ≡ s = ap at e ∙ next in let v : at' j ≡ suc s = ap at' e ∙ here in omega arith) (λ q. omega (arith, there j h q))

        cases : (P : ℕ → ℕ → Type 0) → ((j r : ℕ) → j < n → r < at j → P j r) → P i s → (j r : ℕ) → j < n → r < at' j → P j r
        cases P old new j r h l = by_cases (ℕ_discrete j i)
            (λ e. let u : at j ≡ s = ap at e ∙ next in let v : at' j ≡ suc s = ap at' e ∙ here in
            by_cases (ℕ_discrete r s) (λ f. subst (λ j. P j r) (sym e) (subst (P i) (sym f) new)) (λ q. old j r h (omega arith)))
            (λ q. old j r h (omega (arith, there j h q)))

        pub progress-more : RowProgress R n G B d lt cell' at'
        progress-more = record {
          within = λ j h. by_cases (ℕ_discrete j i) (λ e. let v : at' j ≡ suc s = ap at' e ∙ here in omega arith) (λ q. omega (arith, there j h q, progress.within j h));
          closed = cases (λ j r. SmallerFilled R n G B d lt at' j r) (λ j r h l u v hu hv m. let z : v < at u = progress.closed j r h l u v hu hv m in omega (arith, more u hu))
              (λ u v hu hv m. let z : v < at u = smaller u v hu hv m in omega (arith, more u hu));
          filled = cases (λ j r. Filled R n G B d cell' j r) (λ j r h l. old-filled j r h l (progress.filled j r h l)) (new-filled new);
          support = cases (λ j r. (k : ℕ) → k < length B → Bound j r k (cell' j r))
              (λ j r h l k m. ⊎_elim (λ z. inl (kept j r h l k m ∙ z)) inr (progress.support j r h l k m))
              (λ k m. ⊎_elim (λ z. inl (stored k m ∙ z)) inr (new-support new k m));
        }
