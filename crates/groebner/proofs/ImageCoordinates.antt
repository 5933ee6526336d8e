-- The image of a monomial as a sequence of coefficients: its coordinates at the monomials B₀ that no leading monomial of G divides.
--   image_vector 𝓟 ord G low B₀ m   the coordinates of the image of m
--   images-supported                images are zero outside B₀
--   vector-dependent                coordinates are dependent exactly where images are
--   vector-zero                     a combination of images is zero where that of the coordinates is
--   vector-shifts                   on a Groebner basis: an equation between coordinates holds of the multiples too
--   image-irreducible               the image of an irreducible monomial is itself
--   vector-units                    so each place has a monomial whose coordinates are a multiple of the unit vector
use mathlib.Core.Path.{◌≡◌, sym, ◌∙◌, ap, subst}
use mathlib.Core.List.Memᴰ
use mathlib.Core.List.{List, [], ◌∷◌}
use mathlib.Core.Logic.{◌↔◌}
use Prim.Native.Nat.{ℕ, ◌<◌}
use lib.ListN.{length}
use Rattle.lists.specs.Lists.{◌∈◌}
use Rattle.residue.specs.Field.{Arithmetic}
use Rattle.monomial.specs.Ordering.{Monomials}
use Rattle.monomial.proofs.OrderLaws.{MonomialOrder}
use Rattle.groebner.specs.Polynomials.{Poly, coef}
use Rattle.groebner.specs.Lines.{Line, Reducible}
use Rattle.groebner.specs.Criteria.{Low}
use Rattle.groebner.specs.Remainders.{done}
use Rattle.groebner.specs.Bases.{Groebner}
use Rattle.groebner.specs.Conversions.{Lists}
use Rattle.groebner.proofs.Linear.{all_map, lin}
use Rattle.groebner.proofs.Terms.{coef-nil, coef-here, coef-there, coef-absent}
use Rattle.groebner.proofs.NormalForms.{nf-irreducible}
use Rattle.groebner.proofs.Ground.{PolynomialRing}
use Rattle.groebner.proofs.Division.{rewriting}
use Rattle.groebner.proofs.Spans.{Dependent, Shifts}
use Rattle.groebner.proofs.Images.{𝓕, image, image-remainder, image-shifts}
use Rattle.groebner.proofs.LinearMaps.{Faithful, span-along, span-back, zero-back, shifts-along}
use Rattle.groebner.proofs.Echelon.{UnitMultiple}
use Rattle.groebner.proofs.Coordinates.{sequences, entries, coordinates, coordinate_map, Supported, UnitPlace, unit-place, unit-multiple, images-faithful}

module _ {F M : Type 0} {R : Arithmetic F} {𝓜 : Monomials M} {lt : M → M → Type 0} (𝓟 : PolynomialRing R 𝓜) (ord : MonomialOrder 𝓜 lt) (G : List (Line F M)) (low : Low lt G) where
  open 𝓟 use {field}
  open field use {ring, nontrivial}

  -- The image of m at the monomials of B₀, in turn, and then zeros.
  abbrev pub image_vector : List M → M → ℕ → F
  image_vector B₀ m = coordinates R B₀ (image 𝓟 ord G low m)

  -- An irreducible monomial is its own remainder.
  pub image-irreducible : (b : M) → ¬ Reducible 𝓜 G b → (k : M) → image 𝓟 ord G low b k ≡ coef R 𝓜 ((R.one, b) ∷ []) k
  image-irreducible b n k = sym (image-remainder 𝓟 ord G low b _ (done (λ c m i r. n (subst (Reducible 𝓜 G) (ap (λ (t : F × M). t.1) (Memᴰ.eq_of_singleton i)) r))) k)

  module _ (B₀ : List M) (irreducible : Lists (λ m. ¬ Reducible 𝓜 G m) B₀) where
    -- A remainder has irreducible monomials only (T2).
    pub images-supported : (m : M) → Supported R B₀ (image 𝓟 ord G low m)
    images-supported m k n = coef-absent ring 𝓜 _ k (all_map (λ j h e. n (subst (λ x. x ∈ B₀) e (irreducible.all j (λ r. h (r.0, r.1) r.2.0 r.2.1)))) (nf-irreducible (rewriting 𝓟 ord G low) m))

    faithful : Faithful (coordinate_map ring B₀) (image 𝓟 ord G low)
    faithful = images-faithful R 𝓜.same? B₀ ring (image 𝓟 ord G low) images-supported

    pub vector-dependent : (lt' : M → M → Type 0) (m : M) → Dependent (sequences ring) (image_vector B₀) lt' m ↔ Dependent (𝓕 𝓟 ord G low) (image 𝓟 ord G low) lt' m
    unfolding coordinate_map
    vector-dependent lt' m = (span-back (coordinate_map ring B₀) (image 𝓟 ord G low) faithful m, span-along (coordinate_map ring B₀) (image 𝓟 ord G low) m)

    pub vector-zero : (f : Poly F M) → lin (sequences ring) (image_vector B₀) f ≡ (sequences ring).null → lin (𝓕 𝓟 ord G low) (image 𝓟 ord G low) f ≡ (𝓕 𝓟 ord G low).null
    unfolding coordinate_map
    vector-zero = zero-back (coordinate_map ring B₀) (image 𝓟 ord G low) faithful

    pub vector-shifts : Groebner R 𝓜 lt G → Shifts (sequences ring) (image_vector B₀) 𝓜
    unfolding coordinate_map
    vector-shifts gb = shifts-along (coordinate_map ring B₀) (image 𝓟 ord G low) faithful 𝓜 (image-shifts 𝓟 ord G low gb)

    -- A monomial for each place whose coordinates are a multiple of the unit vector.
    pub vector-units : (p : ℕ) → p < length B₀ → (b : M) × UnitMultiple (entries ring) p (image_vector B₀ b)
    vector-units p l = at (unit-place R B₀ irreducible.once p l)
      where
        at : (b : M) × b ∈ B₀ × UnitPlace R B₀ p b → (b : M) × UnitMultiple (entries ring) p (image_vector B₀ b)
        at (b, i, u) = (b, unit-multiple R ring B₀ p b u (image 𝓟 ord G low b) (λ z. nontrivial (sym own ∙ z)) other)
          where
            value : (k : M) → image 𝓟 ord G low b k ≡ coef R 𝓜 ((R.one, b) ∷ []) k
            value = image-irreducible b (irreducible.only b i)

            own : image 𝓟 ord G low b b ≡ R.one
            own = value b ∙ coef-here ring 𝓜 R.one b [] ∙ ap (R.add R.one) (coef-nil ring 𝓜 b) ∙ ring.add_zero _

            other : (m : M) → ¬ (m ≡ b) → image 𝓟 ord G low b m ≡ R.zero
            other m n = value m ∙ coef-there ring 𝓜 (R.one, b) [] m n ∙ coef-nil ring 𝓜 m
