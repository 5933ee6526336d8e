-- Coordinates of functions on monomials at the places of a list of monomials.
--   sequences ring           the module of sequences of coefficients
--   entries ring             the entries of a sequence as coordinate functions
--   coordinates R B₀ w       the values of w at the monomials of B₀, in turn, and then zeros
--   coordinate_map ring B₀   the same as a linear map, by coordinates-plus and coordinates-act
--   Supported R B₀ w         w is zero outside B₀
--   UnitPlace R B₀ p b       a function that is zero at all monomials but b has one coordinate that is not zero, at place p
-- Of coordinates: value-of-coordinate, coordinates-zero
-- unit-place: each place has its monomial; unit-multiple: so there are multiples of the unit vector
-- coordinates-faithful: functions that are zero outside B₀ are told apart by their coordinates
-- images-faithful: if the images of monomials are zero outside B₀, so are their combinations (supported-lin), and coordinates are faithful
use mathlib.Core.Path.{◌≡◌, refl, sym, ◌∙◌, ap, ap₂, fun_ext}
use mathlib.Core.List.Memᴰ
use mathlib.Core.List.{List, [], ◌∷◌, map}
use mathlib.Core.Logic.{◌⊎◌, inl, inr}
use Prim.Native.Nat.{ℕ, zero, suc, ◌<◌}
use native.Mathlib.Omega.{arith}
use lib.ListN.{length, get_or}
use Rattle.lists.specs.Lists.{◌∈◌, Once}
use Rattle.residue.specs.Field.{Arithmetic}
use Rattle.residue.specs.RingLaws.{Ring}
use Rattle.groebner.specs.Polynomials.{Poly}
use Rattle.groebner.proofs.Modules.{Module, self, functions, mul-zero}
use Rattle.groebner.proofs.Linear.{lin}
use Rattle.groebner.proofs.Members.{member?}
use Rattle.groebner.proofs.Echelon.{CoordinateFunctions, UnitMultiple}
use Rattle.groebner.proofs.LinearMaps.{LinearMap, Faithful}

-- The module of sequences of coefficients.
abbrev pub sequences : {F : Type 0} {R : Arithmetic F} → Ring R → Module R (ℕ → F)
sequences ring = functions ℕ (self ring)

-- Their entries are coordinates.
unfoldable pub entries : {F : Type 0} {R : Arithmetic F} (ring : Ring R) → CoordinateFunctions (sequences ring)
unfolding functions self
entries ring = record { at = λ k w. w k; at_plus = λ k v w. refl; at_act = λ k c v. refl }

module _ {F M : Type 0} (R : Arithmetic F) (B₀ : List M) where
  -- The values at the monomials of B₀, in turn, and then zeros.
  unfoldable pub coordinates : (M → F) → ℕ → F
  coordinates w k = get_or (map w B₀) k R.zero

  -- w is zero outside B₀.
  abbrev pub Supported : (M → F) → Type 0
  Supported w = (m : M) → ¬ (m ∈ B₀) → w m ≡ R.zero

module _ {F M : Type 0} {R : Arithmetic F} (ring : Ring R) where
  pub coordinates-plus : (B₀ : List M) (v w : M → F) (k : ℕ) → coordinates R B₀ (λ m. R.add (v m) (w m)) k ≡ R.add (coordinates R B₀ v k) (coordinates R B₀ w k)
  unfolding coordinates
  coordinates-plus [] v w k = sym (ring.add_zero _)
  coordinates-plus (b ∷ B₀) v w zero = refl
  coordinates-plus (b ∷ B₀) v w (suc k) = coordinates-plus B₀ v w k

  pub coordinates-act : (B₀ : List M) (c : F) (v : M → F) (k : ℕ) → coordinates R B₀ (λ m. R.mul c (v m)) k ≡ R.mul c (coordinates R B₀ v k)
  unfolding coordinates
  coordinates-act [] c v k = sym (mul-zero ring c)
  coordinates-act (b ∷ B₀) c v zero = refl
  coordinates-act (b ∷ B₀) c v (suc k) = coordinates-act B₀ c v k

  -- Coordinates are linear.
  unfoldable pub coordinate_map : (B₀ : List M) → LinearMap (functions M (self ring)) (sequences ring)
  unfolding coordinates functions self
  coordinate_map B₀ = record { apply = coordinates R B₀; apply_plus = λ v w. fun_ext (coordinates-plus B₀ v w); apply_act = λ c v. fun_ext (coordinates-act B₀ c v) }

module _ {F M : Type 0} (R : Arithmetic F) where
  pub value-of-coordinate : (B₀ : List M) (v w : M → F) → ((k : ℕ) → coordinates R B₀ v k ≡ coordinates R B₀ w k) → (b : M) → b ∈ B₀ → v b ≡ w b
  unfolding coordinates
  value-of-coordinate [] v w h b i = absurd (Memᴰ.not-nil i)
  value-of-coordinate (c ∷ B₀) v w h b i = step (Memᴰ.cases_cons i) (value-of-coordinate B₀ v w (λ k. h (suc k)) b)
    where
      step : (b ≡ c) ⊎ b ∈ B₀ → (b ∈ B₀ → v b ≡ w b) → v b ≡ w b
      step (inl e) r = ap v e ∙ h 0 ∙ ap w (sym e)
      step (inr j) r = r j

  pub coordinates-zero : (B₀ : List M) (w : M → F) → ((b : M) → b ∈ B₀ → w b ≡ R.zero) → (k : ℕ) → coordinates R B₀ w k ≡ R.zero
  unfolding coordinates
  coordinates-zero [] w h k = refl
  coordinates-zero (b ∷ B₀) w h zero = h b (Memᴰ.head refl)
  coordinates-zero (b ∷ B₀) w h (suc k) = coordinates-zero B₀ w (λ c i. h c (Memᴰ.tail i)) k

  -- A function that is zero at all monomials but b has its value there at place p, and zeros elsewhere.
  abbrev pub UnitPlace : List M → ℕ → M → Type 0
  UnitPlace B₀ p b = (w : M → F) → ((m : M) → ¬ (m ≡ b) → w m ≡ R.zero) → (coordinates R B₀ w p ≡ w b) × ((k : ℕ) → ¬ (k ≡ p) → coordinates R B₀ w k ≡ R.zero)

  unit-here : (b : M) (B₀ : List M) → ¬ (b ∈ B₀) → UnitPlace (b ∷ B₀) 0 b
  unfolding coordinates
  unit-here b B₀ n w h = (refl, other)
    where
      other : (k : ℕ) → ¬ (k ≡ 0) → coordinates R (b ∷ B₀) w k ≡ R.zero
      other zero z = absurd (z refl)
      other (suc k) z = coordinates-zero B₀ w (λ c i. h c (λ e. n (Memᴰ.cast (sym e) i))) k

  unit-there : (c : M) (B₀ : List M) → ¬ (c ∈ B₀) → (p : ℕ) (b : M) → b ∈ B₀ → UnitPlace B₀ p b → UnitPlace (c ∷ B₀) (suc p) b
  unfolding coordinates
  unit-there c B₀ n p b i u w h = ((u w h).0, other)
    where
      other : (k : ℕ) → ¬ (k ≡ suc p) → coordinates R (c ∷ B₀) w k ≡ R.zero
      other zero z = h c (λ e. n (Memᴰ.cast e i))
      other (suc k) z = (u w h).1 k (λ e. z (ap suc e))

  -- Each place has its monomial.
  pub unit-place : (B₀ : List M) → Once B₀ → (p : ℕ) → p < length B₀ → (b : M) × b ∈ B₀ × UnitPlace B₀ p b
  unit-place [] o p l = absurd (omega arith)
  unit-place (b ∷ B₀) o zero l = (b, Memᴰ.head refl, unit-here b B₀ o.0)
  unit-place (c ∷ B₀) o (suc p) l = let r = unit-place B₀ o.1 p (omega arith) in (r.0, Memᴰ.tail r.1, unit-there c B₀ o.0 p r.0 r.1 r.2)

  -- Such a function, if it is not zero, has a multiple of the unit vector of p for its coordinates.
  pub unit-multiple : (ring : Ring R) (B₀ : List M) (p : ℕ) (b : M) → UnitPlace B₀ p b → (w : M → F) → ¬ (w b ≡ R.zero) → ((m : M) → ¬ (m ≡ b) → w m ≡ R.zero)
      → UnitMultiple (entries ring) p (coordinates R B₀ w)
  unfolding entries functions self
  unit-multiple ring B₀ p b u w n h = (λ e. n (sym (u w h).0 ∙ ap (λ v. v p) e), (u w h).1)

  module _ (same? : (a b : M) → Dec (a ≡ b)) (B₀ : List M) where
    -- Functions that are zero outside B₀ are told apart by their coordinates.
    pub coordinates-faithful : (v w : M → F) → Supported R B₀ v → Supported R B₀ w → coordinates R B₀ v ≡ coordinates R B₀ w → v ≡ w
    coordinates-faithful v w p q e = fun_ext (λ m. step m (member? same? m B₀))
      where
        step : (m : M) → Dec (m ∈ B₀) → v m ≡ w m
        step m (yes i) = value-of-coordinate B₀ v w (λ k. ap (λ h. h k) e) m i
        step m (no n) = p m n ∙ sym (q m n)

    module _ (ring : Ring R) (L : M → M → F) (supported : (m : M) → Supported R B₀ (L m)) where
      pub supported-lin : (f : Poly F M) → Supported R B₀ (lin (functions M (self ring)) L f)
      unfolding lin functions self
      supported-lin [] k n = refl
      supported-lin (t ∷ f) k n = ap₂ R.add (ap (R.mul t.0) (supported t.1 k n) ∙ mul-zero ring t.0) (supported-lin f k n) ∙ ring.add_zero _

      -- Coordinates are faithful on images that are zero outside B₀.
      pub images-faithful : Faithful (coordinate_map ring B₀) L
      unfolding coordinate_map
      images-faithful f g e = coordinates-faithful _ _ (supported-lin f) (supported-lin g) e
