-- Rows of monomials: the rules that `image_of` goes by.
--   divisor-place   m / x_i has a place among the standard monomials
--   image-one       the row of 1 as that of m
--   image-product   the row of x_i·b as that of m
use mathlib.Core.Path.{◌≡◌, refl, sym, ◌∙◌, subst}
use mathlib.Core.List.{List}
use Prim.Native.Nat.{ℕ, ◌<◌}
use native.Mathlib.Omega.{arith}
use lib.ListN.{length}
use Rattle.std.specs.Prelude.{Option, Some, None, IsSome}
use Rattle.lists.proofs.Elements.{place_of}
use Rattle.monomial.specs.Rows.{Row, one, product}
use Rattle.monomial.specs.Quotients.{variable}
use Rattle.monomial.specs.Represented.{row}
use Rattle.monomial.specs.declared.Monomial.{Monomial}
use Rattle.staircase.specs.Listed.{listed, listed_at, Place}
use Rattle.staircase.proofs.ArrayRows.{rows-length}
use Rattle.coordinates.specs.declared.Coordinates.{Coordinates}
use Rattle.coordinates.proofs.UnitRows.{indicator-other, indicator-below}
use Rattle.multiplication.specs.Rows.{Multiplied}
use Rattle.multiplication.specs.declared.rows.Tables.{Tables}
use Rattle.fglm.specs.ImageRows.{image_at, OneRow, DivisorsFound, ImageRow}
use Rattle.fglm.specs.ImageRows.OneRow.{one_at, no_one}
use Rattle.fglm.specs.ImageRows.ImageRule.{of_one, of_product}

pub divisor-place : {n : ℕ} (l : List Monomial) {m : Row n} (b : Row n) {i : ℕ} (r : Option ℕ) → i < n → m ≡ product n (variable n i) b → DivisorsFound n l m
    → Place n (listed n l) b r → IsSome r
divisor-place {n} l b {i} (Some k) h e d q = refl
divisor-place {n} l b {i} None h e d q = let (k, u, f) = place_of (one n) (d i h b e) in absurd (q k u f)

module _ {p n : ℕ} {m : Monomial} {found : List Coordinates} {standard : List Monomial} {t : Tables} {l : List Monomial} where
  pub image-one : {r : Coordinates} → 1 < p → row n m ≡ one n → OneRow n l r → ImageRow p n m found standard t l r
  image-one h e (one_at k is f) = record {
    below = record { below = λ j. subst (◌< p) (sym (f j)) (indicator-below p j k h) };
    zeros = λ j u. f j ∙ indicator-other j k (λ q. omega (arith, q, u, is.within, rows-length n l));
    rule = of_one e (one_at k is f);
  }
  image-one h e (no_one none f) = record {
    below = record { below = λ j. subst (◌< p) (sym (f j)) (omega (arith, h)) };
    zeros = λ j u. f j;
    rule = of_one e (no_one none f);
  }

  pub image-product : {r : Coordinates} (i s : ℕ) → i < n → s < length standard → row n m ≡ product n (variable n i) (listed_at n standard s)
      → Multiplied p t i (image_at found s) (length l) r → ImageRow p n m found standard t l r
  image-product i s hi hs e a = record { below = a.below; zeros = a.zeros; rule = of_product i s hi hs e a.coordinates }
