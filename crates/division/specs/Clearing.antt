-- Inner contracts. One monomial of the division by the lines of a basis, on an array of coefficients.
--   lead_at b k                      the leading monomial of line k, from 0
--   line_at b h k                    line k, from 0
--   product_of p n g c u h           c·u·g, for a line g
--   multiple_of p n g c m h          the same, for m = u·lead g
--   line_multiple b k c m h          the same for line k
--   Dividend b w m                   b can divide what w holds: there is nothing at m and above it
--   Sweeps b w w' zero               the answer of the division of what w holds: whether the remainder is zero
use Rattle.std.specs.Prelude.{ℕ, ◌≤◌, ◌<◌, ◌≡◌, Bool, true, List, [], ◌↔◌}
use Rattle.residue.specs.Field.{ZMod, modulo, residue}
use Rattle.monomial.specs.Rows.{Row, degree}
use Rattle.monomial.specs.Quotients.{quotient}
use Rattle.monomial.specs.Ordering.{monomials, Grevlex}
use Rattle.monomial.specs.Represented.{row}
use Rattle.groebner.specs.Polynomials.{Poly, Polynomial, scale, shift}
use Rattle.groebner.specs.Lines.{Line, polynomial}
use Rattle.groebner.specs.Remainders.{Remainder}
use Rattle.lines.specs.LineTerms.{terms_in, monomial_at}
use Rattle.lines.specs.declared.line.LineTerm.{LineTerm}
use Rattle.lines.specs.declared.StoredBasis.{StoredBasis}
use Rattle.staircase.specs.TermLines.{line_of}
use Rattle.staircase.specs.StoredLines.{stored_lines}
use Rattle.staircase.specs.Sound.{generator_at, Sound}
use Rattle.division.specs.GrevlexPlace.{place, most_degree}
use Rattle.division.specs.CoefficientArray.{HoldsPolynomial, HoldsZero, ZeroAbove, Work}

-- The leading monomial of line k.
abbrev pub lead_at : (b : StoredBasis) → ℕ → Row b.n
lead_at b k = row b.n (monomial_at (generator_at b k) 0)

-- Line k.
abbrev pub line_at : (b : StoredBasis) → 1 < b.p → ℕ → Line (ZMod b.p) (Row b.n)
line_at b h k = line_of b.p h b.n (terms_in b.n (generator_at b k))

-- c·u·g, for the line that the terms g make.
abbrev pub product_of : (p n : ℕ) → List LineTerm → ℕ → Row n → 1 < p → Poly (ZMod p) (Row n)
product_of p n g c u h = scale (modulo p h) (residue p h c) (shift (monomials n) u (polynomial (modulo p h) (line_of p h n (terms_in n g))))

-- The same for m = u·lead g.
unfoldable pub multiple_of : (p n : ℕ) → List LineTerm → ℕ → Row n → 1 < p → Poly (ZMod p) (Row n)
unfolding residue line_of terms_in monomial_at quotient scale polynomial
multiple_of p n g c m = product_of p n g c (quotient n m (row n (monomial_at g 0)))

-- The same for line k.
abbrev pub line_multiple : (b : StoredBasis) → ℕ → ℕ → Row b.n → 1 < b.p → Poly (ZMod b.p) (Row b.n)
line_multiple b k = multiple_of b.p b.n (generator_at b k)

-- What w holds can be divided by the lines of a sound basis: it is zero at m and above it, and m has a place.
pub record Dividend (b : StoredBasis) (w : List ℕ) (m : Row b.n) : Type 0 where
  pub sound : Sound b
  pub work : Work b.p b.n w
  pub low : degree b.n m ≤ most_degree
  pub above : ZeroAbove b.n (place b.n m) w

-- Whether the remainder of what w holds is zero; if it is, w' holds zero.
pub record Sweeps (b : StoredBasis) (w w' : List ℕ) (zero : Bool) : Type 0 where
  pub work : Work b.p b.n w'
  pub cleared : zero ≡ true → HoldsZero b.n w'
  pub verdict : (h : 1 < b.p) (s : Poly (ZMod b.p) (Row b.n)) → Polynomial (modulo b.p h) s → HoldsPolynomial b.p h b.n w s
      → (zero ≡ true) ↔ Remainder (modulo b.p h) (monomials b.n) (Grevlex b.n) (stored_lines b h) s []
