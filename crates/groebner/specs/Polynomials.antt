-- Believed. Polynomials as lists of terms (document 01, "Words and orders", at Calculator).
--   Poly F M          lists of terms, each a coefficient and a monomial
--   All P f           every monomial of f has P
--   δ R 𝓜 k m         1 where k and m are equal, and 0 elsewhere
--   coef R 𝓜 f m      the coefficient of m in f
--   Same R 𝓜 f g      f and g have the same coefficients
--   Polynomial R f    no monomial stands twice in f, and no coefficient is zero
--   Equal f g         f and g have the same terms, in whatever order
--   scale R c f       c·f
--   negate R f        -f
--   minus R f g       f - g; the sum of f and g is f ++ g
--   relabel s f       f with its monomials sent through s
--   shift 𝓜 u f       u·f, for a monomial u
--   expand R n f      f with the polynomial n m put for each monomial m
--   times R 𝓜 f g     f·g
--   IsSum, IsProduct  p is the sum, the product of f and g, as a polynomial
use Rattle.std.specs.Prelude.{◌≡◌}
use mathlib.Core.List.{List, [], ◌∷◌, ◌++◌}
use Rattle.std.proofs.Math.Logic.{ite}
use Rattle.lists.specs.Lists.{◌∈◌}
use Rattle.residue.specs.Field.{Arithmetic}
use Rattle.monomial.specs.Ordering.{Monomials}

-- Finitely many terms: a coefficient and a monomial each.
abbrev pub Poly : Type 0 → Type 0 → Type 0
Poly F M = List (F × M)

-- Every monomial of f has P.
pub data All {ℓ} {F M : Type 0} (P : M → Type ℓ) : Poly F M → Type ℓ where
  all_nil : All P []
  all_cons : {t : F × M} {f : Poly F M} → P t.1 → All P f → All P (t ∷ f)

-- f with its monomials sent through s.
unfoldable pub relabel : {F M N : Type 0} → (N → M) → Poly F N → Poly F M
relabel s [] = []
relabel s (t ∷ f) = (t.0, s t.1) ∷ relabel s f

module _ {F M : Type 0} (R : Arithmetic F) where
  -- No monomial twice, no coefficient zero; the polynomial without terms is zero (document 01).
  abbrev pub Polynomial : Poly F M → Type 0
  Polynomial [] = Unit
  Polynomial (t ∷ f) = ¬ (t.0 ≡ R.zero) × All (λ m. ¬ (m ≡ t.1)) f × Polynomial f

  -- c·f
  unfoldable pub scale : F → Poly F M → Poly F M
  scale c [] = []
  scale c (t ∷ f) = (R.mul c t.0, t.1) ∷ scale c f

  -- -f
  unfoldable pub negate : Poly F M → Poly F M
  unfolding scale
  negate f = scale (R.neg R.one) f

  -- f - g
  abbrev pub minus : Poly F M → Poly F M → Poly F M
  minus f g = f ++ negate g

-- The same terms, in whatever order (document 01).
abbrev pub Equal : {F M : Type 0} → Poly F M → Poly F M → Type 0
Equal {F} {M} f g = ((t : F × M) → t ∈ f → t ∈ g) × ((t : F × M) → t ∈ g → t ∈ f)

-- f with the polynomial n m put for each monomial m.
unfoldable pub expand : {F M N : Type 0} → Arithmetic F → (N → Poly F M) → Poly F N → Poly F M
unfolding scale
expand R n [] = []
expand R n (t ∷ f) = scale R t.0 (n t.1) ++ expand R n f

-- u·f
abbrev pub shift : {F M : Type 0} → Monomials M → M → Poly F M → Poly F M
shift 𝓜 u f = relabel (𝓜.mul u) f

module _ {F M : Type 0} (R : Arithmetic F) (𝓜 : Monomials M) where
  -- 1 where the monomials are equal, and 0 elsewhere.
  unfoldable pub δ : M → M → F
  δ k m = ite (𝓜.same? k m) R.one R.zero

  -- The coefficient of k in f: the sum of c·δ k m over the terms c·m of f.
  unfoldable pub coef : Poly F M → M → F
  unfolding δ
  coef [] k = R.zero
  coef (t ∷ f) k = R.add (R.mul t.0 (δ k t.1)) (coef f k)

  -- The same coefficients.
  abbrev pub Same : Poly F M → Poly F M → Type 0
  Same f g = (k : M) → coef f k ≡ coef g k

  -- f·g
  abbrev pub times : Poly F M → Poly F M → Poly F M
  times f g = expand R (λ m. shift 𝓜 m g) f

  -- p is the plain sum of f and g.
  abbrev pub IsSum : Poly F M → Poly F M → Poly F M → Type 0
  IsSum f g p = Polynomial R p × Same p (f ++ g)

  -- p is the plain product of f and g.
  abbrev pub IsProduct : Poly F M → Poly F M → Poly F M → Type 0
  IsProduct f g p = Polynomial R p × Same p (times f g)
