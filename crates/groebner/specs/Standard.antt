-- Believed. Zero-dimensional lists of lines, and standard monomials (document 01: stairs).
--   ZeroDimensional n G         each variable has a line whose leading monomial is a power of it
--   Finite P                    finitely many elements have P
--   Standard R 𝓜 lt lt' G m     m is a standard monomial of the lines G with the order lt, for the order lt'
-- After R 𝓜 lt lt' G too:
--   RemainderOf m r             r is the remainder of the monomial m
--   Smaller m                   a coefficient, a monomial smaller than m, and its remainder
--   combination l               the combination of a list of these
use Rattle.std.specs.Prelude.{◌≡◌, List, [], ◌∷◌, ◌++◌, ℕ, ◌<◌}
use Rattle.lists.specs.Lists.{◌∈◌}
use Rattle.residue.specs.Field.{Arithmetic}
use Rattle.monomial.specs.Rows.{power, Row}
use Rattle.monomial.specs.Ordering.{Monomials}
use Rattle.groebner.specs.Polynomials.{Poly, Same, scale}
use Rattle.groebner.specs.Lines.{Line}
use Rattle.groebner.specs.Remainders.{Remainder}

-- Each variable has a line whose leading monomial is a power of it, exponent 0 allowed (001, theorem 1.8 part 3; document 01).
abbrev pub ZeroDimensional : {F : Type 0} (n : ℕ) → List (Line F (Row n)) → Type 0
ZeroDimensional {F} n G = (i : ℕ) → i < n → (e : ℕ) × (g : Line F (Row n)) × (g ∈ G) × (g.0 ≡ power n i e)

-- Finitely many elements have P: a list holds them all.
abbrev pub Finite : {A : Type 0} → (A → Type 0) → Type 0
Finite {A} P = (l : List A) × ((a : A) → P a → a ∈ l)

module _ {F M : Type 0} (R : Arithmetic F) (𝓜 : Monomials M) (lt lt' : M → M → Type 0) (G : List (Line F M)) where
  -- r is the remainder of the monomial m.
  abbrev pub RemainderOf : M → Poly F M → Type 0
  RemainderOf m r = Remainder R 𝓜 lt G ((R.one, m) ∷ []) r

  -- A coefficient, a monomial smaller than m in the order lt', and its remainder.
  pub record Smaller (m : M) : Type 0 where
    pub c : F
    pub k : M
    pub smaller : lt' k m
    pub r : Poly F M
    pub remainder : RemainderOf k r

  -- The combination of the remainders.
  abbrev pub combination : {m : M} → List (Smaller m) → Poly F M
  combination [] = []
  combination (x ∷ l) = scale R x.c x.r ++ combination l

  -- The remainder of m is no combination of the remainders of monomials that are smaller in the order lt' (demand 2, word for word).
  abbrev pub Standard : M → Type 0
  Standard m = (r : Poly F M) × RemainderOf m r × ((l : List (Smaller m)) → ¬ Same R 𝓜 r (combination l))
