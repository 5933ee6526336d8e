-- One monomial m of the division, whose place the code has as `at`.
--   Clears b m w w' cleared   what is done at m: nothing, where its coefficient is zero; or the multiple of the earliest line that cancels it
--                             is subtracted; it is not cleared only where no line divides it
--   clears-idle               its coefficient is zero
--   clears-subtracted         the multiple of the earliest line is subtracted
--   clears-stuck              no line divides it
use mathlib.Core.Path.{◌≡◌, refl, ◌∙◌, ap, subst}
use mathlib.Core.Bool.{Bool, true, false}
use mathlib.Core.List.{List}
use Prim.Native.Nat.{ℕ}
use lib.ListN.{get_or}
use Rattle.residue.specs.Modular.{negation_mod}
use Rattle.monomial.specs.Rows.{Row}
use Rattle.lines.specs.declared.StoredBasis.{StoredBasis}
use Rattle.division.specs.GrevlexPlace.{place}
use Rattle.division.specs.CoefficientArray.{AddsPolynomial}
use Rattle.division.specs.Clearing.{line_multiple}
use Rattle.division.proofs.BasisSystem.{FirstDivisor, NoDivisor}

-- The coefficient c of m is cleared by -c·u·g, for the earliest line g and m = u·lead g.
pub data Clears (b : StoredBasis) (m : Row b.n) (w w' : List ℕ) : Bool → Type 0 where
  idle : get_or w (place b.n m) 0 ≡ 0 → w' ≡ w → Clears b m w w' true
  subtracted : (k : ℕ) → FirstDivisor b m k
      → AddsPolynomial b.p b.n w w' (line_multiple b k (negation_mod b.p (get_or w (place b.n m) 0)) m) → Clears b m w w' true
  stuck : ¬ (get_or w (place b.n m) 0 ≡ 0) → NoDivisor b m → w' ≡ w → Clears b m w w' false

module _ {b : StoredBasis} {m : Row b.n} (w : List ℕ) (at : ℕ) (e : at ≡ place b.n m) where
  pub clears-idle : get_or w at 0 ≡ 0 → Clears b m w w true
  clears-idle z = idle (rw e at z) refl

  pub clears-subtracted : {w' : List ℕ} {k : ℕ} (c : ℕ) → c ≡ negation_mod b.p (get_or w at 0)
      → FirstDivisor b m k → AddsPolynomial b.p b.n w w' (line_multiple b k c m) → Clears b m w w' true
  clears-subtracted {w'} {k} c q f a =
      let same = q ∙ ap (λ x. negation_mod b.p (get_or w x 0)) e in
      subtracted k f (subst (λ x. AddsPolynomial b.p b.n w w' (line_multiple b k x m)) same a)

  pub clears-stuck : ¬ (get_or w at 0 ≡ 0) → NoDivisor b m → Clears b m w w false
  clears-stuck n f = stuck (rw e at n) f refl
