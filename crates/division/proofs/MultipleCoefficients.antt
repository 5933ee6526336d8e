-- The coefficients of c·u·g, for a line g of a basis and m = u·lead g.
--   raised            u·lead g is m
--   multiple-top      at m
--   multiple-above    above m
use mathlib.Core.Path.{◌≡◌, sym, ◌∙◌, ap, subst}
use mathlib.Core.Bool.{true}
use Prim.Native.Nat.{ℕ, ◌<◌}
use lib.ListN.{length}
use Rattle.residue.specs.Field.{Arithmetic, ZMod, modulo, residue}
use Rattle.residue.proofs.ResidueField.{residue-ring}
use Rattle.monomial.specs.Rows.{Row, product}
use Rattle.monomial.specs.Quotients.{quotient, divides}
use Rattle.monomial.specs.Ordering.{monomials, Grevlex}
use Rattle.monomial.proofs.Products.{product-quotient}
use Rattle.monomial.proofs.GrevlexOrder.{grevlex-order}
use Rattle.groebner.specs.Polynomials.{coef}
use Rattle.groebner.specs.Lines.{Line}
use Rattle.groebner.proofs.Modules.{mul-zero}
use Rattle.groebner.proofs.Terms.{coef-scale}
use Rattle.groebner.proofs.Division.{coef-lead, coef-above}
use Rattle.lines.specs.declared.StoredBasis.{StoredBasis}
use Rattle.staircase.specs.StoredLines.{stored_lines}
use Rattle.staircase.specs.Sound.{Sound}
use Rattle.division.specs.Clearing.{lead_at, line_at, multiple_of, line_multiple}
use Rattle.division.proofs.BasisSystem.{ring_of, lines-low, line-in, line-lead-at}

pub raised : (b : StoredBasis) (k : ℕ) (m : Row b.n) → divides b.n (lead_at b k) m ≡ true → (h : 1 < b.p)
    → m ≡ (monomials b.n).mul (quotient b.n m (lead_at b k)) (line_at b h k).0
unfolding monomials
raised b k m d h = sym (product-quotient b.n m (lead_at b k) d)
    ∙ ap (product b.n (quotient b.n m (lead_at b k))) (sym (line-lead-at b h k))

module _ (b : StoredBasis) (sound : Sound b) (k : ℕ) (l : k < length b.lines.items)
    (m : Row b.n) (d : divides b.n (lead_at b k) m ≡ true) (h : 1 < b.p) where
  abbrev R : Arithmetic (ZMod b.p)
  R = modulo b.p h

  -- The line, and the cofactor of its leading monomial.
  abbrev g : Line (ZMod b.p) (Row b.n)
  g = line_at b h k

  abbrev u : Row b.n
  u = quotient b.n m (lead_at b k)

  pub multiple-top : (c : ℕ) → coef R (monomials b.n) (line_multiple b k c m h) m ≡ residue b.p h c
  unfolding multiple_of
  multiple-top c =
      let lead = coef-lead (ring_of b sound h) (grevlex-order b.n) (stored_lines b h) (lines-low b sound h) g (line-in b h k l) u in
      coef-scale (residue-ring b.p h) (monomials b.n) (residue b.p h c) _ m
      ∙ ap (R.mul (residue b.p h c)) (ap (coef R (monomials b.n) _) (raised b k m d h) ∙ lead) ∙ (residue-ring b.p h).mul_one _

  pub multiple-above : (c : ℕ) (a : Row b.n) → Grevlex b.n m a → coef R (monomials b.n) (line_multiple b k c m h) a ≡ R.zero
  unfolding multiple_of
  multiple-above c a o =
      let above = coef-above (ring_of b sound h) (grevlex-order b.n) (stored_lines b h) (lines-low b sound h) g (line-in b h k l) u a in
      coef-scale (residue-ring b.p h) (monomials b.n) (residue b.p h c) _ a
      ∙ ap (R.mul (residue b.p h c)) (above (subst (λ x. Grevlex b.n x a) (raised b k m d h) o)) ∙ mul-zero (residue-ring b.p h) _
