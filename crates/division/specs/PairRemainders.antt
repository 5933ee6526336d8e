-- Inner contracts. Check 15 by the places of the lines, which count from 0, on an array of coefficients.
--   leads_lcm b i j            the least common multiple of the leading monomials of lines i and j
--   LowPairs b                 none of these has more than the largest degree
--   Pairable b                 b is sound besides
--   PairableOn b w             and the array w holds zero
--   PairOf b w i j m           m is that least common multiple, and u·f - v·g can be added to what w holds,
--   pair_difference b i j h    for the lines f and g at i and j and m = u·lead f = v·lead g
--   PairFails b h i j          the S-polynomial of lines i and j has a remainder that is not zero
--   PairSays b i j w' fails    whether it has; if not, the array holds zero afterwards
--   EarlierSays b j w' fails   whether it has for line j and an earlier line i; likewise
--   FailingLine b h k          check 15 speaks of line k of the text
--   FirstFailing b r           r is the number of the first line of which it speaks, if it speaks of one
use Rattle.std.specs.Prelude.{ℕ, ◌≤◌, ◌<◌, ◌≡◌, Bool, true, false, Option, List, [], ◌++◌, length, ◌↔◌}
use Rattle.residue.specs.Modular.{negation_mod}
use Rattle.residue.specs.Field.{ZMod, modulo}
use Rattle.monomial.specs.Rows.{Row, degree}
use Rattle.monomial.specs.Quotients.{lcm}
use Rattle.monomial.specs.Ordering.{monomials, Grevlex}
use Rattle.groebner.specs.Polynomials.{Poly}
use Rattle.groebner.specs.Remainders.{Remainder}
use Rattle.groebner.specs.Bases.{SPolynomial}
use Rattle.lines.specs.declared.StoredBasis.{StoredBasis}
use Rattle.staircase.specs.StoredLines.{stored_lines}
use Rattle.staircase.specs.Sound.{Sound}
use Rattle.staircase.specs.Conditions.{Failing}
use Rattle.staircase.specs.LeastNumber.{Smallest}
use Rattle.division.specs.GrevlexPlace.{most_degree}
use Rattle.division.specs.CoefficientArray.{HoldsZero, Work}
use Rattle.division.specs.Clearing.{lead_at, line_at, multiple_of, line_multiple}

-- The least common multiple of two leading monomials.
abbrev pub leads_lcm : (b : StoredBasis) → ℕ → ℕ → Row b.n
leads_lcm b i j = lcm b.n (lead_at b i) (lead_at b j)

-- Its degree is at most the largest degree.
abbrev pub LowPairs : StoredBasis → Type 0
LowPairs b = (i j : ℕ) → i < length b.lines.items → j < length b.lines.items → degree b.n (leads_lcm b i j) ≤ most_degree

-- What check 15 asks of a basis.
pub record Pairable (b : StoredBasis) : Type 0 where
  pub sound : Sound b
  pub low : LowPairs b

-- And of the array of coefficients.
pub record PairableOn (b : StoredBasis) (w : List ℕ) : Type 0 where
  pub pairs : Pairable b
  pub work : Work b.p b.n w
  pub zero : HoldsZero b.n w

-- Lines i and j, and the least common multiple m of their leading monomials.
pub record PairOf (b : StoredBasis) (w : List ℕ) (i j : ℕ) (m : Row b.n) : Type 0 where
  pub sound : Sound b
  pub work : Work b.p b.n w
  pub left : i < length b.lines.items
  pub right : j < length b.lines.items
  pub common : m ≡ leads_lcm b i j
  pub low : degree b.n m ≤ most_degree

-- u·f - v·g
unfoldable pub pair_difference : (b : StoredBasis) → ℕ → ℕ → 1 < b.p → Poly (ZMod b.p) (Row b.n)
unfolding multiple_of
pair_difference b i j h = line_multiple b i 1 (leads_lcm b i j) h ++ line_multiple b j (negation_mod b.p 1) (leads_lcm b i j) h

-- The S-polynomial of lines i and j has a remainder that is not zero.
pub record PairFails (b : StoredBasis) (h : 1 < b.p) (i j : ℕ) : Type 0 where
  pub s : Poly (ZMod b.p) (Row b.n)
  pub pair : SPolynomial (modulo b.p h) (monomials b.n) (line_at b h i) (line_at b h j) s
  pub r : Poly (ZMod b.p) (Row b.n)
  pub remainder : Remainder (modulo b.p h) (monomials b.n) (Grevlex b.n) (stored_lines b h) s r
  pub nonzero : ¬ (r ≡ [])

-- The answer for one pair.
pub record PairSays (b : StoredBasis) (i j : ℕ) (w' : List ℕ) (fails : Bool) : Type 0 where
  pub verdict : (h : 1 < b.p) → (fails ≡ true) ↔ PairFails b h i j
  pub work : Work b.p b.n w'
  pub zero : fails ≡ false → HoldsZero b.n w'

-- The answer for the pairs of a line with the earlier ones.
pub record EarlierSays (b : StoredBasis) (j : ℕ) (w' : List ℕ) (fails : Bool) : Type 0 where
  pub verdict : (h : 1 < b.p) → (fails ≡ true) ↔ ((i : ℕ) × (i < j) × PairFails b h i j)
  pub work : Work b.p b.n w'
  pub zero : fails ≡ false → HoldsZero b.n w'

-- Check 15 speaks of line k.
abbrev pub FailingLine : (b : StoredBasis) → 1 < b.p → ℕ → Type 0
FailingLine b h = Failing (modulo b.p h) (monomials b.n) (stored_lines b h) (Grevlex b.n)

-- The answer of check 15: the smallest line of which it speaks, if it speaks of one.
abbrev pub FirstFailing : StoredBasis → Option ℕ → Type 0
FirstFailing b r = (h : 1 < b.p) → Smallest (FailingLine b h) r
