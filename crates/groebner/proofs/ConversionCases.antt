-- The definitions of specs/ tried on document 01's example: zero-dimensional lists, standard monomials, the conversion, the two systems.
--   conversion          H is the conversion of G to lex
--   converted-example   so H is the reduced lex Groebner basis of the same ideal, and the two systems are equivalent
--   standard            the standard monomials are 1, x2 and x2^2
use mathlib.Core.Path.{◌≡◌, refl, ap}
use mathlib.Core.List.Memᴰ
use mathlib.Core.List.{List, [], ◌∷◌, ◌++◌}
use mathlib.Core.Logic.{◌⊎◌, inl, inr, ◌↔◌}
use Prim.Native.Nat.{ℕ, zero, suc, ◌<◌, ◌≤◌}
use native.Mathlib.Decide.{ℕ_discrete}
use native.Mathlib.Omega.{arith}
use Rattle.lists.specs.Lists.{◌∈◌}
use Rattle.residue.specs.Field.{modulo}
use Rattle.monomial.specs.Rows.{exponent, one}
use Rattle.monomial.specs.Orders.{compared, lex, variables}
use Rattle.monomial.specs.Ordering.{Divides, monomials}
use Rattle.std.specs.declared.cmp.Ordering.TheVariants.{Less, Equal}
use Rattle.monomial.proofs.Comparisons.{then, then_less, equal-not-less}
use Rattle.monomial.proofs.Products.{divisible-at}
use Rattle.monomial.proofs.LexOrder.{lex-order, variables-rank}
use Rattle.monomial.proofs.GrevlexOrder.{grevlex-order}
use Rattle.groebner.specs.Polynomials.{Poly, All, all_nil, all_cons, coef, scale}
use Rattle.groebner.specs.Lines.{Line, polynomial, Reducible, Rising}
use Rattle.groebner.specs.Remainders.{Remainder}
use Rattle.groebner.specs.Standard.{ZeroDimensional, Finite, RemainderOf, Standard}
use Rattle.groebner.specs.Conversions.{Lists, Conversion}
use Rattle.groebner.specs.Systems.{System, RemainderIn, SumIn, ProductIn}
use Rattle.groebner.proofs.Clear.{clear-iff}
use Rattle.groebner.proofs.ChangeOfOrder.{standard-divisor}
use Rattle.groebner.proofs.Instance.{ConvertedLines, converted}
use Rattle.groebner.proofs.Witnesses.{of-each, standard-of-coefficient, dependent-of-combination}
use Rattle.groebner.proofs.Deciding.{HoldsTrue, decided, decided-found, not?, each?, once?}
use Rattle.groebner.proofs.Computing.{polynomial?, same?, sum?, product?, reducible_by?, rising?, lines?, clear?, division, residue?}
use Rattle.groebner.proofs.Example.{three, F, R, M, 𝓟, Grevlex₂, Lex₂, in_grevlex, in_lex, 𝟙, 𝟚, x, mono, g₁, g₂, g₃, G, h₁, h₂, H}
use Rattle.groebner.proofs.Cases.{lines, low, cube, itself, basis}

-- G has the leading monomials x1^2 and x2^2.
zero_dimensional : ZeroDimensional 2 G
unfolding one
zero_dimensional zero h = (2, g₃, Memᴰ.tail (Memᴰ.tail (Memᴰ.head refl)), refl)
zero_dimensional (suc zero) h = (2, g₁, Memᴰ.head refl, refl)
zero_dimensional (suc (suc i)) h = absurd (omega arith)

-- Without the third line there is no power of x1, and without the first no power of x2.
no-power-of-x1 : ¬ ZeroDimensional 2 (g₁ ∷ g₂ ∷ [])
unfolding each? not? ℕ_discrete one
no-power-of-x1 z = let (e, g, i, q) = z 0 (omega arith) in decided (each? (λ (g : Line F M). not? (ℕ_discrete g.0.1.0 0)) (g₁ ∷ g₂ ∷ [])) tt g i (ap (λ (m : M). m.1.0) q)

no-power-of-x2 : ¬ ZeroDimensional 2 (g₂ ∷ g₃ ∷ [])
unfolding each? not? ℕ_discrete
no-power-of-x2 z = let (e, g, i, q) = z 1 (omega arith) in decided (each? (λ (g : Line F M). not? (ℕ_discrete g.0.0 0)) (g₂ ∷ g₃ ∷ [])) tt g i (ap (λ (m : M). m.0) q)

-- Monomials in two variables by their exponents; the powers of x2 below the power b.
row : {a b : ℕ} {m : M} → m.0 ≡ a → m.1.0 ≡ b → m ≡ x a b
row p q i = (p i, (q i, tt))

within : (d m : M) → ((d.0 ≤ m.0) × (d.1.0 ≤ m.1.0)) ↔ Divides (monomials 2) d m
unfolding exponent
within d m = (λ p. (divisible-at 2 d m).1 (at p), λ p. ((divisible-at 2 d m).0 p 0 (omega arith), (divisible-at 2 d m).0 p 1 (omega arith)))
  where
    at : (d.0 ≤ m.0) × (d.1.0 ≤ m.1.0) → (i : ℕ) → i < 2 → exponent 2 d i ≤ exponent 2 m i
    at p zero h = p.0
    at p (suc zero) h = p.1
    at p (suc (suc i)) h = absurd (omega arith)

abbrev powers : ℕ → List M
powers zero = []
powers (suc b) = x 0 b ∷ powers b

in-powers : (b : ℕ) (m : M) → m.0 ≡ 0 → m.1.0 < b → m ∈ powers b
in-powers zero m p h = absurd (omega arith)
in-powers (suc b) m p h = at (ℕ_discrete m.1.0 b) (in-powers b m p)
  where
    at : Dec (m.1.0 ≡ b) → (m.1.0 < b → m ∈ powers b) → m ∈ powers (suc b)
    at (yes q) r = Memᴰ.head (row p q)
    at (no n) r = Memᴰ.tail (r (omega arith))

-- What no leading monomial of H divides is 1, x2 or x2^2.
few : (m : M) → ¬ Reducible (monomials 2) H m → (m.0 ≤ 0) × (m.1.0 ≤ 2)
few m n =
    let a : ¬ (1 ≤ m.0) = λ l. n (h₂, Memᴰ.tail (Memᴰ.head refl), (within (x 1 0) m).0 (l, omega arith)) in
    let b : ¬ (3 ≤ m.1.0) = λ l. n (h₁, Memᴰ.head refl, (within (x 0 3) m).0 (omega arith, l)) in
    (omega arith, omega arith)

abbrev Std : M → Type 0
Std = Standard R (monomials 2) Grevlex₂ Lex₂ G

-- x2^2 is standard: x1 stands in its remainder, and in no remainder of a monomial that is smaller in lex.
square : Std (x 0 2)
unfolding in_grevlex division residue? not? modulo coef monomials variables lex
square = standard-of-coefficient 𝓟 (grevlex-order 2) G low Lex₂ (x 0 2) (decided-found (division in_grevlex G _ (mono 1 0 ∷ [])) tt) (x 1 0)
    (decided (not? (residue? 3 (coef R (monomials 2) (mono 1 0) (x 1 0)) R.zero)) tt)
    (λ j h. of-each Without (powers 2) (own 0 1 (decided-found (division in_grevlex G _ []) tt) tt, (own 0 0 (decided-found (division in_grevlex G _ []) tt) tt, tt)) j (smaller j ((then_less _ _ _).0 h)))
  where
    Without : M → Type 0
    Without j = (s : Poly F M) × RemainderOf R (monomials 2) Grevlex₂ Lex₂ G j s × (coef R (monomials 2) s (x 1 0) ≡ R.zero)

    own : (a b : ℕ) → RemainderOf R (monomials 2) Grevlex₂ Lex₂ G (x a b) (mono a b) → HoldsTrue (residue? 3 (coef R (monomials 2) (mono a b) (x 1 0)) R.zero) → Without (x a b)
    own a b r h = (mono a b, r, decided (residue? 3 (coef R (monomials 2) (mono a b) (x 1 0)) R.zero) h)

    smaller : (j : M) → (j.0 < 0) ⊎ ((j.0 ≡ 0) × (then (compared j.1.0 2) Equal ≡ Less)) → j ∈ powers 2
    smaller j (inl l) = absurd (omega arith)
    smaller j (inr p) = in-powers 2 j p.0 (at ((then_less _ _ _).0 p.1))
      where
        at : (j.1.0 < 2) ⊎ ((j.1.0 ≡ 2) × (Equal ≡ Less)) → j.1.0 < 2
        at (inl l) = l
        at (inr q) = absurd (equal-not-less q.1)

-- x1 is not: its remainder is that of x2^2.
not-standard : ¬ Std (x 1 0)
unfolding in_grevlex division same? scale variables lex
not-standard = dependent-of-combination 𝓟 (grevlex-order 2) G low Lex₂ (x 1 0) itself
    (record { c = 𝟙; k = x 0 2; smaller = refl; r = mono 1 0; remainder = decided-found (division in_grevlex G _ (mono 1 0 ∷ [])) tt } ∷ []) (decided (same? in_grevlex (mono 1 0) (scale R 𝟙 (mono 1 0) ++ [])) tt)

-- Nor is x2^3: its remainder is that of x2.
cube-not-standard : ¬ Std (x 0 3)
unfolding in_grevlex division same? scale variables lex
cube-not-standard = dependent-of-combination 𝓟 (grevlex-order 2) G low Lex₂ (x 0 3) cube
    (record { c = 𝟙; k = x 0 1; smaller = refl; r = mono 0 1; remainder = decided-found (division in_grevlex G _ []) tt } ∷ []) (decided (same? in_grevlex (mono 0 1) (scale R 𝟙 (mono 0 1) ++ [])) tt)

-- H is the conversion of G to lex.
pub conversion : Conversion R (monomials 2) Grevlex₂ Lex₂ G H
unfolding in_grevlex in_lex division lines? clear? reducible_by? polynomial
conversion = record {
  lines = decided (lines? in_lex H) tt;
  once = ((clear-iff R 𝓟.monoid H).0 (decided (clear? in_lex H) tt)).0;
  leads = of-each (λ h. (¬ Std h.0) × ((d : M) → Divides (monomials 2) d h.0 → ¬ (d ≡ h.0) → Std d)) H (
    (cube-not-standard, λ d p n. down d (below-h₁ d ((within d (x 0 3)).1 p) n)),
    ((not-standard, λ d p n. down d (below-h₂ d ((within d (x 1 0)).1 p) n)), tt),
  );
  every = λ m n. every m n (reducible_by? in_lex H m);
  tails = of-each (λ h. All Std h.1) H (all_cons (down (x 0 1) (omega arith, omega arith)) all_nil, (all_cons square all_nil, tt));
  remainders = of-each (λ h. Remainder R (monomials 2) Grevlex₂ G (polynomial R h) []) H (
    decided-found (division in_grevlex G (polynomial R h₁) (((𝟙, x 1 1) ∷ (𝟚, x 0 1) ∷ []) ∷ [] ∷ [])) tt,
    (decided-found (division in_grevlex G (polynomial R h₂) ([] ∷ [])) tt, tt),
  );
}
  where
    down : (d : M) → (d.0 ≤ 0) × (d.1.0 ≤ 2) → Std d
    down d p = standard-divisor 𝓟 (grevlex-order 2) (lex-order 2 (variables 2) (variables-rank 2)) G low basis d (x 0 2) ((within d (x 0 2)).0 p) square

    below-h₁ : (d : M) → (d.0 ≤ 0) × (d.1.0 ≤ 3) → ¬ (d ≡ x 0 3) → (d.0 ≤ 0) × (d.1.0 ≤ 2)
    below-h₁ d p n = let k : ¬ (d.1.0 ≡ 3) = λ e. n (row (omega arith) e) in (p.0, omega arith)

    below-h₂ : (d : M) → (d.0 ≤ 1) × (d.1.0 ≤ 0) → ¬ (d ≡ x 1 0) → (d.0 ≤ 0) × (d.1.0 ≤ 2)
    below-h₂ d p n = let k : ¬ (d.0 ≡ 1) = λ e. n (row e (omega arith)) in (omega arith, omega arith)

    every : (m : M) → ¬ Std m → Dec (Reducible (monomials 2) H m) → Reducible (monomials 2) H m
    every m n (yes r) = r
    every m n (no k) = absurd (n (down m (few m k)))

-- So H is the reduced lex Groebner basis of the same ideal, and the two systems are equivalent.
pub converted-example : ConvertedLines 3 three 2 G lines (variables 2) H
converted-example = converted 3 three 2 G lines basis (variables 2) (variables-rank 2) H conversion

-- The lines H rise by leading monomial.
rising : Rising Lex₂ H
unfolding in_lex rising?
rising = decided (rising? in_lex H) tt

-- The standard monomials are 1, x2 and x2^2: finitely many.
pub standard : Lists Std (x 0 2 ∷ x 0 1 ∷ x 0 0 ∷ [])
unfolding in_lex once? not? reducible_by?
standard = record {
  once = decided (once? (monomials 2).same? (powers 3)) tt;
  all = λ m s. let b = few m ((converted-example.standard m).0 s) in in-powers 3 m (omega arith) (omega arith);
  only = of-each Std (powers 3) (square, (free (x 0 1) tt, (free (x 0 0) tt, tt)));
}
  where
    free : (m : M) → HoldsTrue (not? (reducible_by? in_lex H m)) → Std m
    free m h = (converted-example.standard m).1 (decided (not? (reducible_by? in_lex H m)) h)

finite : Finite Std
finite = (powers 3, standard.all)

abbrev first : System F M
first = record { lt = Grevlex₂; lines = G }

abbrev second : System F M
second = record { lt = Lex₂; lines = H }

-- In the first system the sum of x1 and 2·x1 is zero, and the product of x1 and x2 is x2.
sum-in : SumIn R (monomials 2) first (mono 1 0) ((𝟚, x 1 0) ∷ []) []
unfolding in_grevlex sum? division
sum-in = ([], decided (sum? in_grevlex (mono 1 0) ((𝟚, x 1 0) ∷ []) []) tt, (tt, decided-found (division in_grevlex G [] []) tt))

product-in : ProductIn R (monomials 2) first (mono 1 0) (mono 0 1) (mono 0 1)
unfolding in_grevlex product? division polynomial?
product-in = (mono 1 1, decided (product? in_grevlex (mono 1 0) (mono 0 1) (mono 1 1)) tt, (decided (polynomial? in_grevlex (mono 1 1)) tt, decided-found (division in_grevlex G (mono 1 1) (mono 0 1 ∷ [])) tt))

-- The second translates the remainder x1 of the first to x2^2.
translated : RemainderIn R (monomials 2) second (mono 1 0) (mono 0 2)
unfolding in_lex division polynomial?
translated = (decided (polynomial? in_lex (mono 1 0)) tt, decided-found (division in_lex H (mono 1 0) (mono 0 2 ∷ [])) tt)
