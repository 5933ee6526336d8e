-- The rows of the code as images of monomials, over a Groebner basis G with the irreducible monomials l and the rows t of products with variables.
--   NormalState      a row holds the coordinates of the normal form of m
--   image-normal     the row of m holds the coordinates of its normal form if those of the standard monomials found do
--   normal-image     a row that does, and is zero past the list, is the image of m
use mathlib.Core.Path.{◌≡◌, refl, sym, ◌∙◌, ap, subst}
use mathlib.Core.List.{List, [], ◌∷◌, map}
use mathlib.Core.Logic.{by_cases}
use Prim.Native.Nat.{ℕ, zero, suc, ◌≤◌, ◌<◌}
use native.Mathlib.Decide.{ℕ_discrete, dec_lt}
use native.Mathlib.Omega.{arith}
use lib.ListN.{length, get_or, length-map, get_or-eq_default}
use Rattle.lists.proofs.Elements.{at_once}
use Rattle.residue.specs.Field.{ZMod, modulo, residue}
use Rattle.residue.proofs.ResidueField.{residue-ring}
use Rattle.residue.proofs.Residues.{residue-zero, residue-one}
use Rattle.monomial.specs.Rows.{Row, one}
use Rattle.monomial.specs.Ordering.{monomials}
use Rattle.monomial.proofs.OrderLaws.{MonomialOrder}
use Rattle.monomial.specs.Represented.{row}
use Rattle.monomial.specs.declared.Monomial.{Monomial}
use Rattle.groebner.specs.Polynomials.{δ}
use Rattle.groebner.specs.Lines.{Line, Reducible}
use Rattle.groebner.specs.Bases.{Groebner}
use Rattle.groebner.specs.Criteria.{Clear, Low}
use Rattle.groebner.specs.Conversions.{Lists}
use Rattle.groebner.specs.MultiplicationRows.{times_variable, Filled}
use Rattle.groebner.proofs.Terms.{δ-same, δ-other}
use Rattle.groebner.proofs.Ground.{PolynomialRing}
use Rattle.groebner.proofs.Images.{image}
use Rattle.groebner.proofs.Coordinates.{coordinates}
use Rattle.groebner.proofs.ImageCoordinates.{image_vector}
use Rattle.groebner.proofs.MultiplicationRows.{NormalRow, row_one, row_next}
use Rattle.staircase.specs.Listed.{listed, listed_at}
use Rattle.coordinates.specs.Vectors.{coordinate, indicator, coordinates_of, FullLength}
use Rattle.coordinates.specs.declared.Coordinates.{Coordinates}
use Rattle.coordinates.proofs.UnitRows.{indicator-same, indicator-other}
use Rattle.coordinates.proofs.VectorEntries.{vector-entry}
use Rattle.multiplication.specs.Rows.{cell_of}
use Rattle.multiplication.specs.declared.rows.Tables.{Tables}
use Rattle.fglm.specs.ImageRows.{image_at, OneRow, ImageRule, ImageRow}
use Rattle.fglm.specs.ImageRows.OneRow.{one_at, no_one}
use Rattle.fglm.specs.ImageRows.ImageRule.{of_one, of_product}
use Rattle.fglm.proofs.Images.{Image}

map_at : {A B : Type 0} (f : A → B) (l : List A) (a : A) (b : B) (k : ℕ) → k < length l → get_or (map f l) k b ≡ f (get_or l k a)
map_at f [] a b k h = absurd (omega arith)
map_at f (x ∷ l) a b zero h = refl
map_at f (x ∷ l) a b (suc k) h = map_at f l a b k (omega arith)

module _ (p : ℕ) (h : 1 < p) (n : ℕ) {lt : Row n → Row n → Type 0} (𝓟 : PolynomialRing (modulo p h) (monomials n)) (ord : MonomialOrder (monomials n) lt)
    (G : List (Line (ZMod p) (Row n))) (low : Low lt G) (l : List Monomial) (size : length (listed n l) ≡ length l) where
  abbrev B : List (Row n)
  B = listed n l

  -- The coordinates of the normal form of m.
  abbrev pub NormalState : Row n → Coordinates → Type 0
  NormalState m w = NormalRow n 𝓟 ord G low B (one n) m (coordinates_of p h w)

  pub normal-image : (m : Row n) (r : Coordinates) → FullLength r → NormalState m r → ((k : ℕ) → (length l) ≤ k → coordinate r k ≡ 0)
      → Image p h (image_vector 𝓟 ord G low B) r m
  unfolding coordinates coordinates_of
  normal-image m r whole e z = record {
    size = omega (arith, whole);
    entries = λ k. vector-entry p h r k ∙ by_cases (dec_lt k (length l))
        (λ u. e k (omega (arith, size)) ∙ sym (map_at (image 𝓟 ord G low m) B (one n) (modulo p h).zero k (omega (arith, size))))
        (λ u. ap (residue p h) (z k (omega arith)) ∙ residue-zero p h
        ∙ sym (get_or-eq_default (map (image 𝓟 ord G low m) B) (modulo p h).zero (omega (arith, size, length-map B (image 𝓟 ord G low m)))));
  }

  module _ (t : Tables) (clear : Clear (modulo p h) (monomials n) G) (lists : Lists (λ m. ¬ Reducible (monomials n) G m) B)
      (filled : (i : ℕ) → i < n → (s : ℕ) → s < length B → Filled (modulo p h) n G B (one n) (cell_of p h t) i s) (gb : Groebner (modulo p h) (monomials n) lt G) where
    one-normal : (r : Coordinates) → OneRow n l r → NormalState (one n) r
    unfolding coordinates_of
    one-normal r (one_at i is e) k u = ap (residue p h) (e k) ∙ value ∙ row_one n 𝓟 ord G low B (one n) (cell_of p h t) clear lists filled gb k u
      where
        value : residue p h (indicator k i) ≡ δ (modulo p h) (monomials n) (get_or B k (one n)) (one n)
        value = by_cases (ℕ_discrete k i)
            (λ q. ap (residue p h) (ap (λ j. indicator k j) (sym q) ∙ indicator-same k) ∙ residue-one p h
            ∙ sym (ap (λ m. δ (modulo p h) (monomials n) m (one n)) (ap (λ j. get_or B j (one n)) q ∙ is.found) ∙ δ-same (residue-ring p h) (monomials n) (one n)))
            (λ q. ap (residue p h) (indicator-other k i q) ∙ residue-zero p h ∙ sym (δ-other (residue-ring p h) (monomials n) (get_or B k (one n)) (one n)
            (λ f. q (at_once (one n) B lists.once k i u is.within (f ∙ sym is.found)))))
    one-normal r (no_one none e) k u = ap (residue p h) (e k) ∙ residue-zero p h
        ∙ sym (δ-other (residue-ring p h) (monomials n) (get_or B k (one n)) (one n) (none k u)) ∙ row_one n 𝓟 ord G low B (one n) (cell_of p h t) clear lists filled gb k u

    pub image-normal : {m : Monomial} {found : List Coordinates} {standard : List Monomial} {r : Coordinates}
        → ((s : ℕ) → s < length standard → NormalState (listed_at n standard s) (image_at found s)) → ImageRow p n m found standard t l r → NormalState (row n m) r
    image-normal {m} {found} {standard} {r} normal i = at i.rule
      where
        at : ImageRule p n m found standard t l r → NormalState (row n m) r
        at (of_one e o) = subst (λ x. NormalState x r) (sym e) (one-normal r o)
        at (of_product i s hi hs e c) = subst (λ x. NormalState x r) (sym e)
            (λ k u. c h k (omega (arith, size)) ∙ ap (λ d. times_variable (modulo p h) d (cell_of p h t) i (coordinates_of p h (image_at found s)) k) (sym size)
            ∙ row_next n 𝓟 ord G low B (one n) (cell_of p h t) clear lists filled gb i hi (listed_at n standard s) (coordinates_of p h (image_at found s)) (normal s hs) k u)
