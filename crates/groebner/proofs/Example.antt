-- Document 01's example, modulo 3 in two variables, and the text that its check 15 refuses.
--   three                3 is prime
--   F, R, M, 𝓟           the residues modulo 3, their operations, the monomials in two variables, and what the theory asks of them
--   Grevlex₂, Lex₂       the two orders
--   in_grevlex, in_lex   what is decided by computation
--   𝟙, 𝟚                 the residues 1 and 2
--   x a b, mono a b      x1^a·x2^b, as a monomial and as a polynomial
--   G = g₁, g₂, g₃       x2^2 + 2·x1, x1·x2 + 2·x2, x1^2 + 2·x1, with grevlex
--   H = h₁, h₂           x2^3 + 2·x2, x1 + 2·x2^2, with lex
--   K = k₁, k₂, k₃       x2^2, x1·x2 - 1, x1^2, with grevlex
use mathlib.Core.Path.{◌≡◌, subst}
use mathlib.Core.List.{List, [], ◌∷◌}
use Prim.Native.Nat.{ℕ, ◌%◌}
use native.Mathlib.Omega.{arith}
use Rattle.residue.specs.Prime.{Prime}
use Rattle.residue.specs.Field.{Arithmetic, ZMod, modulo}
use Rattle.monomial.specs.Rows.{Row}
use Rattle.monomial.specs.Orders.{variables}
use Rattle.monomial.specs.Ordering.{monomials, Lex, Grevlex}
use Rattle.groebner.specs.Polynomials.{Poly}
use Rattle.groebner.specs.Lines.{Line}
use Rattle.groebner.proofs.Ground.{PolynomialRing}
use Rattle.groebner.proofs.Instance.{ground}
use Rattle.groebner.proofs.Computing.{Deciders, by_lex, by_grevlex}

pub three : Prime 3
three = record {
  above_one = omega arith;
  no_divisor = λ d h l e.
      let q : d ≡ 2 = omega arith in
      let z : ◌≡◌ {A = ℕ} 1 0 = subst (λ k. 3 % k ≡ 0) q e in
      omega arith;
}

abbrev pub F : Type 0
F = ZMod 3

abbrev pub R : Arithmetic F
R = modulo 3 three.above_one

abbrev pub M : Type 0
M = Row 2

abbrev pub 𝓟 : PolynomialRing R (monomials 2)
𝓟 = ground 3 three 2

abbrev pub Grevlex₂ : M → M → Type 0
Grevlex₂ = Grevlex 2

abbrev pub Lex₂ : M → M → Type 0
Lex₂ = Lex 2 (variables 2)

unfoldable pub in_grevlex : Deciders R (monomials 2) Grevlex₂
unfolding by_grevlex
in_grevlex = by_grevlex 3 three 2

unfoldable pub in_lex : Deciders R (monomials 2) Lex₂
unfolding by_lex variables
in_lex = by_lex 3 three 2 (variables 2)

abbrev pub 𝟙 : F
𝟙 = R.one

abbrev pub 𝟚 : F
𝟚 = (2, omega arith)

abbrev pub x : ℕ → ℕ → M
x a b = (a, (b, tt))

abbrev pub mono : ℕ → ℕ → Poly F M
mono a b = (𝟙, x a b) ∷ []

abbrev pub g₁ : Line F M
g₁ = (x 0 2, (𝟚, x 1 0) ∷ [])

abbrev pub g₂ : Line F M
g₂ = (x 1 1, (𝟚, x 0 1) ∷ [])

abbrev pub g₃ : Line F M
g₃ = (x 2 0, (𝟚, x 1 0) ∷ [])

abbrev pub G : List (Line F M)
G = g₁ ∷ g₂ ∷ g₃ ∷ []

abbrev pub h₁ : Line F M
h₁ = (x 0 3, (𝟚, x 0 1) ∷ [])

abbrev pub h₂ : Line F M
h₂ = (x 1 0, (𝟚, x 0 2) ∷ [])

abbrev pub H : List (Line F M)
H = h₁ ∷ h₂ ∷ []

abbrev pub k₁ : Line F M
k₁ = (x 0 2, [])

abbrev pub k₂ : Line F M
k₂ = (x 1 1, (𝟚, x 0 0) ∷ [])

abbrev pub k₃ : Line F M
k₃ = (x 2 0, [])

abbrev pub K : List (Line F M)
K = k₁ ∷ k₂ ∷ k₃ ∷ []
