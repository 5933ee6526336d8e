-- Inner contracts. What checks 2 to 11 leave true of a basis of the code.
--   generator_at b k    line k of a basis, from 0
--   SoundLine p n g     1 to 33 terms, monic, coefficients 1 to p - 1, exponents at most 32, greatest term first
--   Sound b             a modulus, 1 to 4 variables, at most 97 lines, each of them sound
use Rattle.std.specs.Prelude.{ℕ, suc, ◌≤◌, ◌<◌, ◌≡◌, List, [], length, get_or}
use Rattle.residue.specs.Prime.{Modulus}
use Rattle.monomial.specs.Sizes.{VariableCount, most_exponent}
use Rattle.monomial.specs.Rows.{exponent}
use Rattle.monomial.specs.Ordering.{Grevlex}
use Rattle.monomial.specs.Represented.{row}
use Rattle.lines.specs.Sizes.{most_terms, most_lines}
use Rattle.lines.specs.LineTerms.{coefficient_at, monomial_at}
use Rattle.lines.specs.declared.line.LineTerm.{LineTerm}
use Rattle.lines.specs.declared.StoredBasis.{StoredBasis}

-- Line k of a basis, from 0.
unfoldable pub generator_at : StoredBasis → ℕ → List LineTerm
generator_at b k = (get_or b.lines.items k (record { items = [] })).items

-- A line: 1 to 33 terms, monic, coefficients 1 to p - 1, exponents at most 32, greatest term first.
pub record SoundLine (p n : ℕ) (g : List LineTerm) : Type 0 where
  pub some : 0 < length g
  pub few : length g ≤ most_terms
  pub monic : coefficient_at g 0 ≡ 1
  pub coefficients : (k : ℕ) → k < length g → (0 < coefficient_at g k) × (coefficient_at g k < p)
  pub exponents : (k : ℕ) → k < length g → (i : ℕ) → i < n → exponent n (row n (monomial_at g k)) i ≤ most_exponent
  pub falling : (k : ℕ) → suc k < length g → Grevlex n (row n (monomial_at g (suc k))) (row n (monomial_at g k))

-- A basis: a modulus, 1 to 4 variables, at most 97 lines, each of them sound.
pub record Sound (b : StoredBasis) : Type 0 where
  pub modulus : Modulus b.p
  pub variables : VariableCount b.n
  pub few : length b.lines.items ≤ most_lines
  pub lines : (k : ℕ) → k < length b.lines.items → SoundLine b.p b.n (generator_at b k)
