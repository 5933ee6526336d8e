-- The least common multiple of two leading monomials has a degree of at most n + 31, once checks 12, 13 and 14 do not speak: it divides the product of
-- the powers x_i^(a_i) that are leading monomials, and 1 and the powers x_i^k with k < a_i are irreducible.
--   lead-minimal   a leading monomial that divides another one is equal to it
--   lcm-degree     the bound
use mathlib.Core.Path.{◌≡◌, refl, sym, ◌∙◌, ap, subst}
use mathlib.Core.List.Memᴰ
use mathlib.Core.List.{List, ◌∷◌}
use mathlib.Core.Logic.{⊎_elim, by_cases}
use Prim.Native.Nat.{ℕ, zero, suc, ◌+◌, ◌-◌, ◌≤◌, ◌<◌}
use native.Mathlib.Decide.{dec_le}
use native.Mathlib.Omega.{arith}
use Rattle.lists.specs.Lists.{◌∈◌}
use Rattle.residue.specs.Field.{Arithmetic}
use Rattle.monomial.specs.Rows.{Row, exponent, one, degree, power}
use Rattle.monomial.specs.Quotients.{lcm}
use Rattle.monomial.specs.Ordering.{Divides, row?, monomials}
use Rattle.monomial.proofs.Products.{exponent-one, degree-product, divisible-at, lcm-least, rows-laws}
use Rattle.monomial.proofs.Powers.{exponent-power, power_divides, power-of-divisor}
use Rattle.groebner.specs.Lines.{Line, polynomial, Reducible}
use Rattle.groebner.specs.Criteria.{Clear}
use Rattle.groebner.specs.Standard.{ZeroDimensional}
use Rattle.groebner.proofs.Terms.{all-at}
use Rattle.groebner.proofs.Clear.{clear-iff}
use Rattle.groebner.proofs.Decisions.{among?}
use Rattle.lines.specs.Sizes.{most_standard}
use Rattle.staircase.specs.Conditions.{Large}
use Rattle.staircase.proofs.FewIrreducible.{few-irreducible}
use Rattle.staircase.proofs.PowersBelow.{powers_below, power_below, powers-below-once, powers-below-many}

-- One exponent for each variable makes a row.
row-of-each : (n : ℕ) (P : ℕ → ℕ → Type 0) → ((i : ℕ) → i < n → (e : ℕ) × P i e) → (a : Row n) × ((i : ℕ) → i < n → P i (exponent n a i))
unfolding exponent
row-of-each zero P h = (tt, λ i l. absurd (omega arith))
row-of-each (suc n) P h = go (h 0 (omega arith)) (row-of-each n (λ i. P (suc i)) (λ i l. h (suc i) (omega arith)))
  where
    at : (first : (e : ℕ) × P 0 e) (rest : (a : Row n) × ((i : ℕ) → i < n → P (suc i) (exponent n a i))) (i : ℕ) → i < suc n → P i (exponent (suc n) (first.0, rest.0) i)
    at first rest zero l = first.1
    at first rest (suc i) l = rest.1 i (omega arith)

    go : (e : ℕ) × P 0 e → (a : Row n) × ((i : ℕ) → i < n → P (suc i) (exponent n a i)) → (a : Row (suc n)) × ((i : ℕ) → i < suc n → P i (exponent (suc n) a i))
    go first rest = ((first.0, rest.0), at first rest)

degree-one : (n : ℕ) → degree n (one n) ≡ 0
unfolding degree one
degree-one zero = refl
degree-one (suc n) = omega (arith, degree-one n)

-- The least common multiple of two divisors of c has at most its degree.
lcm-within : (n : ℕ) (a b c : Row n) → Divides (monomials n) a c → Divides (monomials n) b c → degree n (lcm n a b) ≤ degree n c
unfolding monomials
lcm-within n a b c p q = let (u, e) = (lcm-least n a b).least c p q in omega (arith, ap (degree n) e, degree-product n u (lcm n a b))

module _ {F : Type 0} (R : Arithmetic F) (n : ℕ) (G : List (Line F (Row n))) (clear : Clear R (monomials n) G) where
  pub lead-minimal : (f g : Line F (Row n)) → f ∈ G → g ∈ G → Divides (monomials n) f.0 g.0 → f.0 ≡ g.0
  unfolding polynomial
  lead-minimal f g p q d = by_cases (row? n f.0 g.0) (λ e. e)
      (λ other. absurd (all-at {c = R.one} (((clear-iff R (rows-laws n) G).0 clear).1 g f q p (λ e. other (ap (λ (x : Line F (Row n)). x.0) (sym e)))) (Memᴰ.head refl) d))

  -- If 1 is reducible, it is the only leading monomial.
  only_one : Reducible (monomials n) G (one n) → (f : Line F (Row n)) → f ∈ G → Divides (monomials n) f.0 (one n)
  only_one (h, q, d) f p = subst (λ (m : Row n). Divides (monomials n) m (one n))
      (lead-minimal h f q p ((divisible-at n h.0 f.0).1 (λ i l. omega (arith, (divisible-at n h.0 (one n)).0 d i l, exponent-one n i)))) d

  -- a has the exponents of the powers that are leading monomials.
  module _ (a : Row n) (leads : (i : ℕ) → i < n → (g : Line F (Row n)) × (g ∈ G) × (g.0 ≡ power n i (exponent n a i))) where
    lead-within : (f : Line F (Row n)) → f ∈ G → Divides (monomials n) f.0 a
    lead-within f p = (divisible-at n f.0 a).1 (λ i l. by_cases (dec_le (exponent n f.0 i) (exponent n a i)) (λ h. h) (λ h. at i l h (leads i l)))
      where
        at : (i : ℕ) → i < n → ¬ (exponent n f.0 i ≤ exponent n a i) → (g : Line F (Row n)) × (g ∈ G) × (g.0 ≡ power n i (exponent n a i))
            → exponent n f.0 i ≤ exponent n a i
        at i l h (g, q, e) =
            let d : Divides (monomials n) g.0 f.0 = rw e ((power_divides n i l (exponent n a i) f.0).1 (omega arith)) in
            omega (arith, ap (λ (m : Row n). exponent n m i) (sym (lead-minimal g f q p d) ∙ e), exponent-power n i (exponent n a i) l)

    power-irreducible : (i k : ℕ) → i < n → k < exponent n a i → ¬ Reducible (monomials n) G (power n i k)
    power-irreducible i k l h (f, p, d) =
        let (j, e) = power-of-divisor n i f.0 k d in
        let (g, q, r) = leads i l in
        let low : j ≤ k = omega (arith, (power_divides n i l j (power n i k)).0 (rw e at d), exponent-power n i k l) in
        let d' : Divides (monomials n) f.0 g.0 = rw (e, r) ((power_divides n i l j (power n i (exponent n a i))).1 (omega (arith, exponent-power n i (exponent n a i) l))) in
        omega (arith, ap (λ (m : Row n). exponent n m i) (sym e ∙ lead-minimal f g p q d' ∙ r), exponent-power n i j l, exponent-power n i (exponent n a i) l)

    degree-within : ¬ Large n G → ¬ Reducible (monomials n) G (one n) → degree n a ≤ n + (most_standard - 1)
    degree-within small s = omega (
      arith,
      powers-below-many n a,
      few-irreducible n G small (one n ∷ powers_below n a) (powers-below-once n a)
          (λ m q. ⊎_elim (λ e. rw e s) (λ r. let w = power_below n a m r in rw w.is (power-irreducible w.variable (suc w.e) w.within w.below)) (Memᴰ.cases_cons q)),
    )

  pub lcm-degree : ZeroDimensional n G → ¬ Large n G → (f g : Line F (Row n)) → f ∈ G → g ∈ G → degree n (lcm n f.0 g.0) ≤ n + (most_standard - 1)
  lcm-degree z small f g p q =
      let (a, leads) = row-of-each n (λ i e. (g : Line F (Row n)) × (g ∈ G) × (g.0 ≡ power n i e)) (λ i l. let (e, h, r, s) = z i l in (e, (h, r, s))) in
      by_cases (among? (λ h. (rows-laws n).divides? h.0 (one n)) G)
      (λ r. omega (arith, lcm-within n f.0 g.0 (one n) (only_one r f p) (only_one r g q), degree-one n))
      (λ s. omega (arith, lcm-within n f.0 g.0 a (lead-within a leads f p) (lead-within a leads g q), degree-within a leads small s))
