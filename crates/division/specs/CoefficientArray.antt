-- Inner contracts. An array of coefficients that holds a polynomial: the coefficient of a monomial stands at its place in grevlex order.
--   HoldsPolynomial p h n w f   the array w holds f
--   HoldsZero n w               it holds zero
--   ZeroAbove n k w             it is zero at place k and above it
--   Residues p n w              its entries are residues
--   Held p n w                  they are, and there is a place for each monomial of at most the largest degree
--   Work p n w                  so it is, and there are 1 to 4 variables
--   Addend p n w c m            c·f can be added to what w holds, if m is the greatest monomial of f
--   AddsPolynomial p n w w' g   w' holds what w holds, and g besides
use Rattle.std.specs.Prelude.{ℕ, ◌≤◌, ◌<◌, ◌≡◌, List, length, get_or}
use Rattle.residue.specs.Prime.{Modulus}
use Rattle.residue.specs.Modular.{sum_mod}
use Rattle.residue.specs.Field.{ZMod, modulo}
use Rattle.monomial.specs.Sizes.{VariableCount}
use Rattle.monomial.specs.Rows.{Row, degree}
use Rattle.monomial.specs.Ordering.{monomials}
use Rattle.groebner.specs.Polynomials.{Poly, coef}
use Rattle.division.specs.GrevlexPlace.{place, most_degree, space}

-- The array holds f.
abbrev pub HoldsPolynomial : (p : ℕ) (h : 1 < p) (n : ℕ) → List ℕ → Poly (ZMod p) (Row n) → Type 0
HoldsPolynomial p h n w f = (a : Row n) → get_or w (place n a) 0 ≡ (coef (modulo p h) (monomials n) f a).0

-- It holds zero.
abbrev pub HoldsZero : (n : ℕ) → List ℕ → Type 0
HoldsZero n w = (a : Row n) → get_or w (place n a) 0 ≡ 0

-- It is zero at place k and above it.
abbrev pub ZeroAbove : (n k : ℕ) → List ℕ → Type 0
ZeroAbove n k w = (a : Row n) → k ≤ place n a → get_or w (place n a) 0 ≡ 0

-- Its entries are residues.
abbrev pub Residues : (p n : ℕ) → List ℕ → Type 0
Residues p n w = (a : Row n) → get_or w (place n a) 0 < p

-- And there is room for each monomial of at most the largest degree.
pub record Held (p n : ℕ) (w : List ℕ) : Type 0 where
  pub modulus : Modulus p
  pub room : space ≤ length w
  pub residues : Residues p n w

-- And n is a number of variables.
pub record Work (p n : ℕ) (w : List ℕ) : Type 0 where
  pub modulus : Modulus p
  pub variables : VariableCount n
  pub room : space ≤ length w
  pub residues : Residues p n w

-- What is added: the residue c times a polynomial whose greatest monomial m has a place.
pub record Addend (p n : ℕ) (w : List ℕ) (c : ℕ) (m : Row n) : Type 0 where
  pub work : Held p n w
  pub residue : c < p
  pub low : degree n m ≤ most_degree

-- The coefficients of g are added.
pub record AddsPolynomial (p n : ℕ) (w w' : List ℕ) (g : 1 < p → Poly (ZMod p) (Row n)) : Type 0 where
  pub length : length w' ≡ length w
  pub sums : (h : 1 < p) (a : Row n) → get_or w' (place n a) 0 ≡ sum_mod p (get_or w (place n a) 0) (coef (modulo p h) (monomials n) (g h) a).0
