-- Lines of a basis that are read.
--   sound-read      line k is sound
--   divides-read    its leading monomial divides what that of the basis divides
--   adds-read       a multiple of it is one of the basis' line
--   lcm-read        the least common multiple of two leading monomials, as the code has it
use mathlib.Core.Path.{◌≡◌, sym, ◌∙◌, ap, ap₂, subst}
use mathlib.Core.Bool.{true}
use mathlib.Core.List.{List}
use Prim.Native.Nat.{ℕ, ◌<◌}
use lib.ListN.{length}
use Rattle.monomial.specs.Rows.{Row}
use Rattle.monomial.specs.Quotients.{lcm, divides}
use Rattle.monomial.specs.Represented.{row, monomial}
use Rattle.monomial.specs.declared.Monomial.{Monomial}
use Rattle.monomial.proofs.Places.{row-monomial}
use Rattle.lines.specs.LineTerms.{monomial_at}
use Rattle.lines.specs.declared.line.LineTerm.{LineTerm}
use Rattle.lines.specs.declared.StoredBasis.{StoredBasis}
use Rattle.staircase.specs.Sound.{generator_at, SoundLine, Sound}
use Rattle.division.specs.CoefficientArray.{AddsPolynomial}
use Rattle.division.specs.Clearing.{lead_at, multiple_of, line_multiple}
use Rattle.division.specs.PairRemainders.{leads_lcm}

module _ (b : StoredBasis) where
  module _ (k : ℕ) {g : List LineTerm} (e : g ≡ generator_at b k) where
    pub sound-read : Sound b → k < length b.lines.items → SoundLine b.p b.n g
    sound-read sound l = subst (SoundLine b.p b.n) (sym e) (sound.lines k l)

    pub divides-read : (m : Row b.n) → divides b.n (lead_at b k) m ≡ true → divides b.n (row b.n (monomial_at g 0)) m ≡ true
    divides-read m = subst (λ f. divides b.n (row b.n (monomial_at f 0)) m ≡ true) (sym e)

    pub adds-read : {w w' : List ℕ} (c : ℕ) (m : Row b.n) → AddsPolynomial b.p b.n w w' (multiple_of b.p b.n g c m)
        → AddsPolynomial b.p b.n w w' (line_multiple b k c m)
    adds-read {w} {w'} c m = subst (λ f. AddsPolynomial b.p b.n w w' (multiple_of b.p b.n f c m)) e

  pub lcm-read : (i j : ℕ) {f g r : Monomial} → f ≡ monomial_at (generator_at b i) 0 → g ≡ monomial_at (generator_at b j) 0
      → r ≡ monomial b.n (lcm b.n (row b.n f) (row b.n g)) → row b.n r ≡ leads_lcm b i j
  lcm-read i j ef eg e = ap (row b.n) e ∙ row-monomial b.n _ ∙ ap₂ (lcm b.n) (ap (row b.n) ef) (ap (row b.n) eg)
