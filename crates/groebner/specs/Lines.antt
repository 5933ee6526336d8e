-- Believed. Lists of monic lines with an order (document 01, "Words and orders").
--   Line F M           a monic line: its leading monomial and the other terms
--   polynomial R g     the polynomial of a line
--   Falling lt f       greatest term first
--   Lines R lt G       each line of G is a polynomial, greatest term first
--   Reducible 𝓜 G m    some leading monomial divides m
--   Earliest 𝓜 m g G   g is the earliest line of G whose leading monomial divides m
--   Rising lt G        the lines rise by leading monomial
--   RisingList lt l    each element of l is smaller than all that follow it
use Rattle.std.specs.Prelude.{◌≡◌, List, [], ◌∷◌, ◌⊎◌}
use Rattle.lists.specs.Lists.{◌∈◌}
use Rattle.residue.specs.Field.{Arithmetic}
use Rattle.monomial.specs.Ordering.{Monomials, Divides}
use Rattle.groebner.specs.Polynomials.{Poly, All, Polynomial}

-- A monic line: its leading monomial, whose coefficient is 1, and the other terms.
abbrev pub Line : Type 0 → Type 0 → Type 0
Line F M = M × Poly F M

-- The polynomial of a line.
unfoldable pub polynomial : {F M : Type 0} → Arithmetic F → Line F M → Poly F M
polynomial R g = (R.one, g.0) ∷ g.1

-- Greatest term first.
abbrev pub Falling : {F M : Type 0} → (M → M → Type 0) → Poly F M → Type 0
Falling lt [] = Unit
Falling lt (t ∷ f) = All (λ m. lt m t.1) f × Falling lt f

-- Each line is a polynomial, greatest term first.
pub record Lines {F M : Type 0} (R : Arithmetic F) (lt : M → M → Type 0) (G : List (Line F M)) : Type 0 where
  pub falling : (g : Line F M) → g ∈ G → All (λ m. lt m g.0) g.1 × Falling lt g.1
  pub proper : (g : Line F M) → g ∈ G → Polynomial R g.1

module _ {F M : Type 0} (𝓜 : Monomials M) where
  -- Some leading monomial divides m.
  abbrev pub Reducible : List (Line F M) → M → Type 0
  Reducible G m = (g : Line F M) × (g ∈ G) × Divides 𝓜 g.0 m

  -- g is the earliest line whose leading monomial divides m.
  abbrev pub Earliest : M → Line F M → List (Line F M) → Type 0
  Earliest m g [] = ⊥
  Earliest m g (h ∷ G) = ((g ≡ h) × Divides 𝓜 h.0 m) ⊎ ((¬ Divides 𝓜 h.0 m) × Earliest m g G)

-- The lines rise by leading monomial (document 01, "The tab text").
abbrev pub Rising : {F M : Type 0} → (M → M → Type 0) → List (Line F M) → Type 0
Rising lt [] = Unit
Rising {F} {M} lt (g ∷ G) = ((h : Line F M) → h ∈ G → lt g.0 h.0) × Rising lt G

-- Each element is smaller than all that follow it.
abbrev pub RisingList : {M : Type 0} → (M → M → Type 0) → List M → Type 0
RisingList lt [] = Unit
RisingList {M} lt (x ∷ l) = ((y : M) → y ∈ l → lt x y) × RisingList lt l
