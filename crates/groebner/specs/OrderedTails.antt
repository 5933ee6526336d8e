-- Inner contracts. Lines with their tails in the order of a list of monomials.
--   nonzero_term field c m     the term c·m, or none if c is zero
--   ordered field B c          Σ c(b)·b over the monomials b of B, the last first, without the terms that are zero
--   ordered_line field 𝓜 B g   a line with its tail in that order
use mathlib.Core.List.{List, [], ◌∷◌, ◌++◌}
use Rattle.residue.specs.Field.{Arithmetic}
use Rattle.residue.specs.RingLaws.{Field}
use Rattle.monomial.specs.Ordering.{Monomials}
use Rattle.groebner.specs.Polynomials.{Poly, coef}
use Rattle.groebner.specs.Lines.{Line}

module _ {F M : Type 0} {R : Arithmetic F} (field : Field R) where
  open field use {decide}

  -- The term c·m, or none if c is zero.
  unfoldable pub nonzero_term : F → M → Poly F M
  nonzero_term c m = elim (decide c R.zero) [ yes _ ↦ [] | no _ ↦ (c, m) ∷ [] ]

  -- Σ c(b)·b over the monomials b of B, the last first, without the terms that are zero.
  unfoldable pub ordered : List M → (M → F) → Poly F M
  unfolding nonzero_term
  ordered [] c = []
  ordered (b ∷ B) c = ordered B c ++ nonzero_term (c b) b

  -- A line with its tail in that order.
  abbrev pub ordered_line : Monomials M → List M → Line F M → Line F M
  ordered_line 𝓜 B g = (g.0, ordered B (coef R 𝓜 g.1))
