-- A multiple of a line, whose leading monomial is raised to m.
--   lead-quotient-row       the quotient of m by the leading monomial, as the code has it
--   lead-quotient-product   the multiple's leading monomial is m
--   multiple-of-line        what is added
use mathlib.Core.Path.{◌≡◌, ◌∙◌, ap, subst}
use mathlib.Core.Bool.{true}
use mathlib.Core.List.{List}
use Prim.Native.Nat.{ℕ}
use Rattle.monomial.specs.Rows.{Row, product}
use Rattle.monomial.specs.Quotients.{quotient, divides}
use Rattle.monomial.specs.Represented.{row, monomial}
use Rattle.monomial.specs.declared.Monomial.{Monomial}
use Rattle.monomial.proofs.Products.{product-quotient}
use Rattle.monomial.proofs.Places.{row-monomial}
use Rattle.lines.specs.LineTerms.{monomial_at}
use Rattle.lines.specs.declared.line.LineTerm.{LineTerm}
use Rattle.division.specs.CoefficientArray.{AddsPolynomial}
use Rattle.division.specs.Clearing.{product_of, multiple_of}

module _ (n : ℕ) (m d : Row n) (u : Monomial) (e : u ≡ monomial n (quotient n m d)) where
  pub lead-quotient-row : row n u ≡ quotient n m d
  lead-quotient-row = ap (row n) e ∙ row-monomial n _

  pub lead-quotient-product : divides n d m ≡ true → product n (row n u) d ≡ m
  lead-quotient-product v = ap (λ x. product n x d) lead-quotient-row ∙ product-quotient n m d v

pub multiple-of-line : (p n : ℕ) (g : List LineTerm) (m : Row n) (c : ℕ) (u : Row n) {w w' : List ℕ} → u ≡ quotient n m (row n (monomial_at g 0))
    → AddsPolynomial p n w w' (product_of p n g c u) → AddsPolynomial p n w w' (multiple_of p n g c m)
unfolding multiple_of
multiple-of-line p n g m c u {w} {w'} e = subst (λ v. AddsPolynomial p n w w' (product_of p n g c v)) e
