-- Believed. The remainder by a list of lines, as document 01 words it ("Words and orders"): take the greatest term, in the list's own order, that some
-- leading monomial divides; use the earliest such line; subtract the multiple that cancels the term; repeat until none is left.
--   Normal 𝓜 G f             no leading monomial divides a monomial of f
--   Step R 𝓜 lt G f f'       one step of the division leads from f to f'
--   Remainder R 𝓜 lt G f r   r is the remainder of f by the lines G
use Rattle.std.specs.Prelude.{◌≡◌, List, ◌⊎◌}
use Rattle.lists.specs.Lists.{◌∈◌}
use Rattle.residue.specs.Field.{Arithmetic}
use Rattle.monomial.specs.Ordering.{Monomials}
use Rattle.groebner.specs.Polynomials.{Poly, Polynomial, Same, scale, minus, shift}
use Rattle.groebner.specs.Lines.{Line, polynomial, Reducible, Earliest}

-- No term is left that a leading monomial divides.
abbrev pub Normal : {F M : Type 0} → Monomials M → List (Line F M) → Poly F M → Type 0
Normal {F} {M} 𝓜 G f = (c : F) (m : M) → (c, m) ∈ f → ¬ Reducible 𝓜 G m

module _ {F M : Type 0} (R : Arithmetic F) (𝓜 : Monomials M) (lt : M → M → Type 0) where
  -- One step: the greatest term c·m of f that some leading monomial divides, the earliest such line g, and c·u·g subtracted for m = u·lead g.
  pub record Step (G : List (Line F M)) (f f' : Poly F M) : Type 0 where
    pub c : F
    pub m : M
    pub term : (c, m) ∈ f
    pub greatest : (d : F) (k : M) → (d, k) ∈ f → Reducible 𝓜 G k → (k ≡ m) ⊎ lt k m
    pub g : Line F M
    pub earliest : Earliest 𝓜 m g G
    pub u : M
    pub quotient : m ≡ 𝓜.mul u g.0
    pub proper : Polynomial R f'
    pub outcome : Same R 𝓜 f' (minus R f (scale R c (shift 𝓜 u (polynomial R g))))

  -- Steps, until none is left.
  pub data Remainder (G : List (Line F M)) : Poly F M → Poly F M → Type 0 where
    done : {f : Poly F M} → Normal 𝓜 G f → Remainder G f f
    step : {f f' r : Poly F M} → Step G f f' → Remainder G f' r → Remainder G f r
