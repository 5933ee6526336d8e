-- The definitions of specs/ tried on document 01's example: polynomials, lines, remainders, ideals, Groebner bases.
--   lines, low        the lines G are greatest term first
--   cube, itself      the remainders of x2^3 and of x1
--   basis             G is a Groebner basis
use mathlib.Core.Path.{◌≡◌, refl, ap, subst}
use mathlib.Core.List.Memᴰ
use mathlib.Core.List.{[], ◌∷◌, ◌++◌, map}
use mathlib.Core.Logic.{inl, inr}
use Prim.Native.Nat.{ℕ}
use native.Mathlib.Omega.{arith}
use Rattle.lists.specs.Lists.{◌∈◌}
use Rattle.monomial.specs.Quotients.{lcm}
use Rattle.monomial.specs.Ordering.{monomials}
use Rattle.monomial.proofs.Products.{lcm-least}
use Rattle.monomial.proofs.GrevlexOrder.{grevlex-order}
use Rattle.groebner.specs.Polynomials.{Polynomial, Equal, IsSum, IsProduct}
use Rattle.groebner.specs.Lines.{Line, polynomial, Lines, Reducible, Earliest}
use Rattle.groebner.specs.Remainders.{Remainder}
use Rattle.groebner.specs.Ideals.{IdealOf}
use Rattle.groebner.specs.Bases.{Leading, Groebner, Reduced, SPolynomial}
use Rattle.groebner.specs.Criteria.{Clear, Buchberger, Low}
use Rattle.groebner.proofs.Terms.{equal-of-same}
use Rattle.groebner.proofs.Division.{earliest-unique}
use Rattle.groebner.proofs.GroebnerBases.{groebner-zero}
use Rattle.groebner.proofs.LeadingTerms.{groebner-to-the-letter, LeadingTermsGenerate}
use Rattle.groebner.proofs.Clear.{clear-iff}
use Rattle.groebner.proofs.Instance.{criterion}
use Rattle.groebner.proofs.Witnesses.{same-remainder, buchberger-of-one}
use Rattle.groebner.proofs.Deciding.{decided, decided-found, not?}
use Rattle.groebner.proofs.Computing.{polynomial?, same?, sum?, product?, combination?, reducible_by?, lines?, clear?, leading?, division, s_polynomial, divides?}
use Rattle.groebner.proofs.Example.{three, F, R, M, 𝓟, Grevlex₂, Lex₂, in_grevlex, in_lex, 𝟙, 𝟚, x, mono, g₁, g₂, g₃, G, h₁, H, k₁, k₂, K}

-- x1 + x1 has a monomial twice, and 0·x1 a coefficient zero: they are no polynomials.
not-twice : ¬ Polynomial R (mono 1 0 ++ mono 1 0)
unfolding in_grevlex polynomial? not?
not-twice = decided (not? (polynomial? in_grevlex (mono 1 0 ++ mono 1 0))) tt

not-zero : ¬ Polynomial R ((R.zero, x 1 0) ∷ [])
unfolding in_grevlex polynomial? not?
not-zero = decided (not? (polynomial? in_grevlex ((R.zero, x 1 0) ∷ []))) tt

-- x2^2 + 2·x1 is 2·x1 + x2^2, and zero is not x1.
equal : Equal (polynomial R g₁) ((𝟚, x 1 0) ∷ mono 0 2)
unfolding in_grevlex polynomial? same? polynomial
equal = equal-of-same 𝓟.field.ring (monomials 2) _ _ (decided (polynomial? in_grevlex (polynomial R g₁)) tt) (decided (polynomial? in_grevlex ((𝟚, x 1 0) ∷ mono 0 2)) tt)
    (decided (same? in_grevlex (polynomial R g₁) ((𝟚, x 1 0) ∷ mono 0 2)) tt)

not_equal : ¬ Equal [] (mono 1 0)
not_equal e = Memᴰ.not-nil (e.1 _ (Memᴰ.head refl))

-- The sum of x2^2 + 2·x1 and x1 is x2^2.
sum : IsSum R (monomials 2) (polynomial R g₁) (mono 1 0) (mono 0 2)
unfolding in_grevlex sum? polynomial
sum = decided (sum? in_grevlex (polynomial R g₁) (mono 1 0) (mono 0 2)) tt

-- The product of x2 and x2^2 + 2·x1 is 2·x1·x2 + x2^3.
product : IsProduct R (monomials 2) (mono 0 1) (polynomial R g₁) ((𝟚, x 1 1) ∷ mono 0 3)
unfolding in_grevlex product? polynomial
product = decided (product? in_grevlex (mono 0 1) (polynomial R g₁) ((𝟚, x 1 1) ∷ mono 0 3)) tt

-- With grevlex the lines G are greatest term first; with lex they are not, for x2^2 is smaller than x1.
pub lines : Lines R Grevlex₂ G
unfolding in_grevlex lines?
lines = decided (lines? in_grevlex G) tt

pub low : Low Grevlex₂ G
low g i = (lines.falling g i).0

not-lex : ¬ Lines R Lex₂ G
unfolding in_lex lines? not?
not-lex = decided (not? (lines? in_lex G)) tt

-- Nor is x1^2 + 1 + x2, whose tail rises.
not-falling : ¬ Lines R Grevlex₂ ((x 2 0, mono 0 0 ++ mono 0 1) ∷ [])
unfolding in_grevlex lines? not?
not-falling = decided (not? (lines? in_grevlex ((x 2 0, mono 0 0 ++ mono 0 1) ∷ []))) tt

-- A leading monomial divides x1^2, and none divides x1.
reducible : Reducible (monomials 2) G (x 2 0)
unfolding in_grevlex reducible_by?
reducible = decided (reducible_by? in_grevlex G (x 2 0)) tt

irreducible : ¬ Reducible (monomials 2) G (x 1 0)
unfolding in_grevlex reducible_by? not?
irreducible = decided (not? (reducible_by? in_grevlex G (x 1 0))) tt

-- Of the two lines that divide x1^2·x2, the second of G is the earliest, and the third is not.
earliest : Earliest (monomials 2) (x 2 1) g₂ G
unfolding divides? not?
earliest = inr (decided (not? (divides? 2 _ _)) tt, inl (refl, decided (divides? 2 _ _) tt))

not-earliest : ¬ Earliest (monomials 2) (x 2 1) g₃ G
not-earliest e = let z : ◌≡◌ {A = ℕ} 2 1 = ap (λ (g : Line F M). g.0.0) (earliest-unique 𝓟 (grevlex-order 2) G (x 2 1) g₃ g₂ e earliest) in omega arith

-- By the lines G, x2^3 has the remainder x2, by way of x1·x2.
pub cube : Remainder R (monomials 2) Grevlex₂ G (mono 0 3) (mono 0 1)
unfolding in_grevlex division
cube = decided-found (division in_grevlex G _ (mono 1 1 ∷ mono 0 1 ∷ [])) tt

-- So has x1^2·x2.
mixed : Remainder R (monomials 2) Grevlex₂ G (mono 2 1) (mono 0 1)
unfolding in_grevlex division
mixed = decided-found (division in_grevlex G _ (mono 1 1 ∷ mono 0 1 ∷ [])) tt

-- x1 is its own remainder.
pub itself : Remainder R (monomials 2) Grevlex₂ G (mono 1 0) (mono 1 0)
unfolding in_grevlex division
itself = decided-found (division in_grevlex G _ []) tt

-- x2^3 does not have the remainder zero.
not-vanishing : ¬ Remainder R (monomials 2) Grevlex₂ G (mono 0 3) []
unfolding in_grevlex same? not?
not-vanishing z = decided (not? (same? in_grevlex (mono 0 1) [])) tt (same-remainder 𝓟 (grevlex-order 2) G low cube z)

-- By the lines H with lex, x1·x2 has the remainder x2, by way of x2^3.
by-lex-lines : Remainder R (monomials 2) Lex₂ H (mono 1 1) (mono 0 1)
unfolding in_lex division
by-lex-lines = decided-found (division in_lex H _ (mono 0 3 ∷ mono 0 1 ∷ [])) tt

-- x2^3 + 2·x2 is x2·g₁ + g₂: it lies in the ideal of G.
member : IdealOf R (monomials 2) G (polynomial R h₁)
unfolding in_grevlex combination? polynomial
member = (mono 0 1 ∷ mono 0 0 ∷ [], decided (combination? in_grevlex (mono 0 1 ∷ mono 0 0 ∷ []) (map (polynomial R) G) (polynomial R h₁)) tt)

-- The leading monomial of x2^2 + 2·x1 is x2^2 in grevlex, and x1 in lex.
leading-grevlex : Leading R (monomials 2) Grevlex₂ (polynomial R g₁) (x 0 2)
unfolding in_grevlex leading? polynomial
leading-grevlex = decided (leading? in_grevlex (polynomial R g₁) (x 0 2)) tt

leading-lex : Leading R (monomials 2) Lex₂ (polynomial R g₁) (x 1 0)
unfolding in_lex leading? polynomial
leading-lex = decided (leading? in_lex (polynomial R g₁) (x 1 0)) tt

-- No monomial of a line of G is divisible by another's leading monomial; of x2^3 + x2^2 and x2^2, in either order, one is.
clear : Clear R (monomials 2) G
unfolding in_grevlex clear?
clear = decided (clear? in_grevlex G) tt

not-clear : ¬ Clear R (monomials 2) ((x 0 3, mono 0 2) ∷ (x 0 2, []) ∷ [])
unfolding in_grevlex clear? not?
not-clear = decided (not? (clear? in_grevlex ((x 0 3, mono 0 2) ∷ (x 0 2, []) ∷ []))) tt

not-clear-backwards : ¬ Clear R (monomials 2) ((x 0 2, []) ∷ (x 0 3, mono 0 2) ∷ [])
unfolding in_grevlex clear? not?
not-clear-backwards = decided (not? (clear? in_grevlex ((x 0 2, []) ∷ (x 0 3, mono 0 2) ∷ []))) tt

-- The S-polynomials of G, at x1·x2^2, x1^2·x2^2 and x1^2·x2, are 2·x1^2 + x2^2, 2·x1^3 + x1·x2^2 and 0.
first-second : SPolynomial R (monomials 2) g₁ g₂ ((𝟚, x 2 0) ∷ mono 0 2)
unfolding in_grevlex s_polynomial lcm
first-second = decided-found (s_polynomial in_grevlex g₁ g₂ (x 1 2) (lcm-least 2 _ _) ((𝟚, x 2 0) ∷ mono 0 2)) tt

first-third : SPolynomial R (monomials 2) g₁ g₃ ((𝟚, x 3 0) ∷ mono 1 2)
unfolding in_grevlex s_polynomial lcm
first-third = decided-found (s_polynomial in_grevlex g₁ g₃ (x 2 2) (lcm-least 2 _ _) ((𝟚, x 3 0) ∷ mono 1 2)) tt

second-third : SPolynomial R (monomials 2) g₂ g₃ []
unfolding in_grevlex s_polynomial lcm
second-third = decided-found (s_polynomial in_grevlex g₂ g₃ (x 2 1) (lcm-least 2 _ _) []) tt

-- Their remainders are zero.
pairs : Buchberger R (monomials 2) Grevlex₂ G
unfolding in_grevlex division
pairs = buchberger-of-one 𝓟 (grevlex-order 2) G low (
  (
    (_, first-second, decided-found (division in_grevlex G _ (((𝟙, x 0 2) ∷ (𝟚, x 1 0) ∷ []) ∷ [] ∷ [])) tt),
    ((_, first-third, decided-found (division in_grevlex G _ (((𝟙, x 1 2) ∷ (𝟚, x 2 0) ∷ []) ∷ [] ∷ [])) tt), tt),
  ),
  (((_, second-third, decided-found (division in_grevlex G _ []) tt), tt), (tt, tt)),
)

-- So G is a Groebner basis, and a reduced one.
pub basis : Groebner R (monomials 2) Grevlex₂ G
basis = (criterion 3 three 2 G lines).0 pairs

reduced : Reduced R (monomials 2) Grevlex₂ G
reduced = let c = (clear-iff R 𝓟.monoid G).0 clear in record { lines = lines; once = c.0; groebner = basis; clear = c.1 }

-- To the letter of 001: x2^2, x1·x2 and x1^2 generate the ideal of its leading terms.
to-the-letter : LeadingTermsGenerate R (monomials 2) Grevlex₂ G
to-the-letter = (groebner-to-the-letter 𝓟 (grevlex-order 2) G lines).1 basis

-- 1 does not lie in its ideal.
not-member : ¬ IdealOf R (monomials 2) G (mono 0 0)
unfolding in_grevlex division polynomial?
not-member i = Memᴰ.not-nil (subst (λ f. (𝟙, x 0 0) ∈ f) zero (Memᴰ.head refl))
  where
    zero : mono 0 0 ≡ []
    zero = groebner-zero 𝓟 (grevlex-order 2) G low basis (decided (polynomial? in_grevlex (mono 0 0)) tt) (decided-found (division in_grevlex G (mono 0 0) []) tt) i

-- K is no Groebner basis: the S-polynomial of its first two lines is x2, which is its own remainder.
s-polynomial-of-K : SPolynomial R (monomials 2) k₁ k₂ (mono 0 1)
unfolding in_grevlex s_polynomial lcm
s-polynomial-of-K = decided-found (s_polynomial in_grevlex k₁ k₂ (x 1 2) (lcm-least 2 _ _) (mono 0 1)) tt

lines-of-K : Lines R Grevlex₂ K
unfolding in_grevlex lines?
lines-of-K = decided (lines? in_grevlex K) tt

not-pairs : ¬ Buchberger R (monomials 2) Grevlex₂ K
unfolding in_grevlex division same? not?
not-pairs b = decided (not? (same? in_grevlex (mono 0 1) [])) tt (same-remainder 𝓟 (grevlex-order 2) K (λ g i. (lines-of-K.falling g i).0)
    (decided-found (division in_grevlex K (mono 0 1) []) tt) (b k₁ k₂ (inl (refl, Memᴰ.head refl)) (mono 0 1) s-polynomial-of-K))

not-basis : ¬ Groebner R (monomials 2) Grevlex₂ K
not-basis g = not-pairs ((criterion 3 three 2 K lines-of-K).1 g)
