-- Believed. Reduction systems (document 01 calls one a calculator): the lines of a text with that text's order, and what two of them share (demand 3).
--   System F M              the lines and their order
--   RemainderIn R 𝓜 S f r   r is the answer of S that is fed f
--   Among R 𝓜 S r           r is a remainder of S: one of its answers
--   SumIn, ProductIn        the sum, the product in S of two of its remainders
--   Equivalent R 𝓜 A B      demand 3 for the first system A and the second system B
use Rattle.std.specs.Prelude.{List, ◌↔◌}
use Rattle.residue.specs.Field.{Arithmetic}
use Rattle.monomial.specs.Ordering.{Monomials}
use Rattle.groebner.specs.Polynomials.{Poly, Polynomial, Equal, IsSum, IsProduct}
use Rattle.groebner.specs.Lines.{Line}
use Rattle.groebner.specs.Remainders.{Remainder}

-- The lines of a text and that text's order (document 01: a calculator).
pub record System (F M : Type 0) : Type 1 where
  pub lt : M → M → Type 0
  pub lines : List (Line F M)

module _ {F M : Type 0} (R : Arithmetic F) (𝓜 : Monomials M) where
  -- Its answer to a polynomial f is the remainder of f by its lines.
  abbrev pub RemainderIn : System F M → Poly F M → Poly F M → Type 0
  RemainderIn S f r = Polynomial R f × Remainder R 𝓜 S.lt S.lines f r

  -- Its remainders are all such answers.
  abbrev pub Among : System F M → Poly F M → Type 0
  Among S r = (f : Poly F M) × RemainderIn S f r

  -- Its sum of two of its remainders is its answer to their plain sum.
  abbrev pub SumIn : System F M → Poly F M → Poly F M → Poly F M → Type 0
  SumIn S r s t = (p : Poly F M) × IsSum R 𝓜 r s p × RemainderIn S p t

  -- Its product of two of its remainders is its answer to their plain product.
  abbrev pub ProductIn : System F M → Poly F M → Poly F M → Poly F M → Type 0
  ProductIn S r s t = (p : Poly F M) × IsProduct R 𝓜 r s p × RemainderIn S p t

  -- Demand 3. A remainder r of A is translated by B's answer to it.
  pub record Equivalent (A B : System F M) : Type 0 where
    -- Each system answers every polynomial, in one way up to the order of terms.
    pub answers : (f : Poly F M) → Polynomial R f → ((r : Poly F M) × RemainderIn A f r) × ((r : Poly F M) × RemainderIn B f r)
    pub unique_first : (f r s : Poly F M) → RemainderIn A f r → RemainderIn A f s → Equal r s
    pub unique_second : (f r s : Poly F M) → RemainderIn B f r → RemainderIn B f s → Equal r s
    -- The first finds equal remainders exactly when the second does.
    pub verdicts : (f g r s r' s' : Poly F M) → RemainderIn A f r → RemainderIn A g s → RemainderIn B f r' → RemainderIn B g s' → Equal r s ↔ Equal r' s'
    -- Translation is one to one, reaches every remainder of the second, and is undone when the first reduces the outcome.
    pub one_to_one : (r s r' s' : Poly F M) → Among A r → Among A s → RemainderIn B r r' → RemainderIn B s s' → Equal r' s' → Equal r s
    pub onto : (s : Poly F M) → Among B s → (r : Poly F M) × Among A r × (s' : Poly F M) × RemainderIn B r s' × Equal s' s
    pub undone : (r s r' : Poly F M) → Among A r → RemainderIn B r s → RemainderIn A s r' → Equal r' r
    -- Sums and products can always be taken.
    pub computes : (r s : Poly F M) → ((t : Poly F M) × SumIn A r s t) × ((t : Poly F M) × SumIn B r s t) × ((t : Poly F M) × ProductIn A r s t) × ((t : Poly F M) × ProductIn B r s t)
    -- Translating two remainders and then taking their sum or product in the second equals taking it in the first and then translating.
    pub sums : (r s r' s' t t' q : Poly F M) → Among A r → Among A s → RemainderIn B r r' → RemainderIn B s s' → SumIn A r s t → RemainderIn B t t' → SumIn B r' s' q → Equal t' q
    pub products : (r s r' s' t t' q : Poly F M) → Among A r → Among A s → RemainderIn B r r' → RemainderIn B s s' → ProductIn A r s t → RemainderIn B t t' → ProductIn B r' s' q → Equal t' q
