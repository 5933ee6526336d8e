-- Checks 12 and 15 are decided, line by line.
--   divided_smallest      the smallest line of which check 12 speaks, or that it speaks of none
--   s-polynomial-exists   two lines have an S-polynomial
--   s-polynomial-equal    it is one up to the order of terms
--   Fails, fails?         the S-polynomial of two lines has a remainder that is not zero; whether it has
--   failing_smallest      the smallest line of which check 15 speaks, or that it speaks of none, by any decision of pairs
use mathlib.Core.Path.{◌≡◌, subst}
use mathlib.Core.List.{List, [], ◌∷◌, cons-ne-nil}
use mathlib.Core.Logic.{◌⊎◌}
use Prim.Native.Nat.{ℕ, ◌+◌, ◌<◌}
use native.Mathlib.Decide.{ℕ_discrete, dec_lt}
use lib.ListN.{length}
use Rattle.lists.specs.Lists.{◌∈◌}
use Rattle.residue.specs.Field.{Arithmetic}
use Rattle.monomial.specs.Ordering.{Monomials, Divides}
use Rattle.monomial.proofs.OrderLaws.{MonomialLaws, MonomialOrder}
use Rattle.groebner.specs.Polynomials.{Poly, Equal, minus, shift}
use Rattle.groebner.specs.Lines.{Line, polynomial}
use Rattle.groebner.specs.Criteria.{Low}
use Rattle.groebner.specs.Remainders.{Remainder}
use Rattle.groebner.specs.Bases.{SPolynomial}
use Rattle.groebner.proofs.Terms.{clean, clean-proper, clean-same, equal-of-same, equal-nil}
use Rattle.groebner.proofs.Ground.{PolynomialRing}
use Rattle.groebner.proofs.Decisions.{among?}
use Rattle.groebner.proofs.Deciding.{not?, both?, as?}
use Rattle.groebner.proofs.Division.{remainder, remainder-equal}
use Rattle.groebner.proofs.Witnesses.{s-polynomial-unique}
use Rattle.staircase.specs.Conditions.{On, Divided, Failing}
use Rattle.convert.proofs.LineDecisions.{on?, on_below, smallest_or_none}

-- The smallest number that has Of, or that none has it.
abbrev pub SmallestOrNone : (ℕ → Type 0) → Type 0
SmallestOrNone Of = ((k : ℕ) × Of k × ((j : ℕ) → j < k → ¬ Of j)) ⊎ ((k : ℕ) → ¬ Of k)

module _ {F M : Type 0} (R : Arithmetic F) {𝓜 : Monomials M} (monoid : MonomialLaws 𝓜) (G : List (Line F M)) where
  -- A monomial of the line g is divisible by the leading monomial of another line than k.
  abbrev ByAnother : ℕ → Line F M → Type 0
  ByAnother k g = (j : ℕ) × (h : Line F M) × On G j h × ((¬ (j ≡ k)) × ((t : F × M) × (t ∈ polynomial R g) × Divides 𝓜 h.0 t.1))

  unfoldable divided? : (k : ℕ) → Dec (Divided R 𝓜 G k)
  unfolding as? on? both? not? among? ℕ_discrete polynomial
  divided? k = as? to back (on? G (λ i g. both? (ℕ_discrete i k) (on? G (λ j h. both? (not? (ℕ_discrete j k)) (among? (λ t. monoid.divides? h.0 t.1) (polynomial R g))))))
    where
      to : (i : ℕ) × (g : Line F M) × On G i g × ((i ≡ k) × ByAnother k g) → Divided R 𝓜 G k
      to (i, g, a, (e, (j, h, b, (n, (t, q, d))))) = record { g = g; h = h; j = j; line = subst (λ (x : ℕ). On G x g) e a; other = b; different = n; term = t; of_line = q; divides = d }

      back : Divided R 𝓜 G k → (i : ℕ) × (g : Line F M) × On G i g × ((i ≡ k) × ByAnother k g)
      back w = (k, w.g, w.line, (λ _. k, (w.j, w.h, w.other, (w.different, (w.term, w.of_line, w.divides)))))

  unfoldable pub divided_smallest : SmallestOrNone (Divided R 𝓜 G)
  unfolding divided? smallest_or_none
  divided_smallest = smallest_or_none divided? (2 + length G) (λ k w. on_below G k w.g w.line)

module _ {F M : Type 0} {R : Arithmetic F} {𝓜 : Monomials M} {lt : M → M → Type 0} (𝓟 : PolynomialRing R 𝓜) (ord : MonomialOrder 𝓜 lt) where
  open 𝓟 use {field, monoid}
  open field use {ring, decide}

  pub s-polynomial-exists : (f g : Line F M) → (s : Poly F M) × SPolynomial R 𝓜 f g s
  s-polynomial-exists f g =
      let (m, l) = monoid.lcm f.0 g.0 in
      let raw : Poly F M = minus R (shift 𝓜 l.left.0 (polynomial R f)) (shift 𝓜 l.right.0 (polynomial R g)) in (
        clean ring 𝓜 decide raw,
        record { m = m; lcm = l; u = l.left.0; left = l.left.1; v = l.right.0; right = l.right.1; proper = clean-proper ring 𝓜 decide raw; outcome = clean-same ring 𝓜 decide raw },
      )

  pub s-polynomial-equal : (f g : Line F M) (s r : Poly F M) → SPolynomial R 𝓜 f g s → SPolynomial R 𝓜 f g r → Equal s r
  s-polynomial-equal f g s r a b = equal-of-same ring 𝓜 s r a.proper b.proper (s-polynomial-unique 𝓟 ord f g s r a b)

  module _ (G : List (Line F M)) (low : Low lt G) where
    -- The S-polynomial of f and g has a remainder that is not zero.
    abbrev pub Fails : Line F M → Line F M → Type 0
    Fails f g = (s : Poly F M) × SPolynomial R 𝓜 f g s × (r : Poly F M) × Remainder R 𝓜 lt G s r × (¬ (r ≡ []))

    pub fails? : (f g : Line F M) → Dec (Fails f g)
    fails? f g = let (s, w) = s-polynomial-exists f g in let (r, q) = remainder 𝓟 ord G low s w.proper in go s w r q
      where
        go : (s : Poly F M) → SPolynomial R 𝓜 f g s → (r : Poly F M) → Remainder R 𝓜 lt G s r → Dec (Fails f g)
        go s w [] q = no (λ (s', w', r, q', n). n (equal-nil r (remainder-equal 𝓟 ord G low s' s r [] w'.proper w.proper (s-polynomial-equal f g s' s w' w) q' q)))
        go s w (t ∷ r) q = yes (s, w, t ∷ r, q, cons-ne-nil t r)

    -- An earlier line than k fails with g.
    abbrev WithEarlier : ℕ → Line F M → Type 0
    WithEarlier k g = (j : ℕ) × (f : Line F M) × On G j f × ((j < k) × Fails f g)

    -- By a decision of pairs.
    module _ (pair? : (f g : Line F M) → Dec (Fails f g)) where
      unfoldable failing? : (k : ℕ) → Dec (Failing R 𝓜 G lt k)
      unfolding as? on? both? ℕ_discrete dec_lt
      failing? k = as? to back (on? G (λ i g. both? (ℕ_discrete i k) (on? G (λ j f. both? (dec_lt j k) (pair? f g)))))
        where
          to : (i : ℕ) × (g : Line F M) × On G i g × ((i ≡ k) × WithEarlier k g) → Failing R 𝓜 G lt k
          to (i, g, a, (e, (j, f, b, (l, (s, w, r, q, n))))) =
              record { f = f; g = g; j = j; earlier = b; later = subst (λ (x : ℕ). On G x g) e a; before = l; s = s; pair = w; r = r; remainder = q; nonzero = n }

          back : Failing R 𝓜 G lt k → (i : ℕ) × (g : Line F M) × On G i g × ((i ≡ k) × WithEarlier k g)
          back w = (k, w.g, w.later, (λ _. k, (w.j, w.f, w.earlier, (w.before, (w.s, w.pair, w.r, w.remainder, w.nonzero)))))

      unfoldable pub failing_smallest : SmallestOrNone (Failing R 𝓜 G lt)
      unfolding failing? smallest_or_none
      failing_smallest = smallest_or_none failing? (2 + length G) (λ k w. on_below G k w.g w.later)
