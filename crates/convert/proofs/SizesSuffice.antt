-- The sizes of a reduced Groebner basis whose irreducible monomials are at most D, for any monomial ordering (document 01: limits 7 and 10 turn no
-- usable basis away).
--   Sized R n D G        at most 1 + (n - 1)·D lines, at most 1 + D terms in each, no exponent over D
--   tail-irreducible     the monomials of a line after the leading one are irreducible
--   lead-divisors        the proper divisors of a leading monomial are irreducible
--   standard-exponents   no exponent of an irreducible monomial passes the number of them
--   sizes-suffice        a reduced basis has these sizes
--   limits-suffice       with at most 32 irreducible monomials it is within limits 7 and 10
use mathlib.Core.Path.{◌≡◌, refl, sym, subst}
use mathlib.Core.List.Memᴰ
use mathlib.Core.List.{List, [], ◌∷◌, ◌++◌, map}
use mathlib.Core.Logic.{◌⊎◌, inl, inr, ⊎_elim}
use Prim.Native.Nat.{ℕ, ◌+◌, ◌*◌, ◌≤◌, ◌<◌}
use native.Mathlib.Omega.{arith}
use lib.ListN.{length, length-append, length-map}
use Rattle.lists.specs.Lists.{◌∈◌, Once}
use Rattle.lists.specs.Pairs.{Before}
use Rattle.residue.specs.Field.{Arithmetic}
use Rattle.monomial.specs.Sizes.{most_variables, most_exponent}
use Rattle.monomial.specs.Rows.{Row, exponent}
use Rattle.monomial.specs.Ordering.{Divides, monomials}
use Rattle.monomial.proofs.OrderLaws.{MonomialOrder}
use Rattle.monomial.proofs.AnyOrder.{asymmetric, irreflexive, divisor-below}
use Rattle.monomial.proofs.Products.{rows-laws}
use Rattle.groebner.specs.Polynomials.{Poly, Polynomial}
use Rattle.groebner.specs.Lines.{Line, polynomial, Reducible}
use Rattle.groebner.specs.Bases.{Reduced}
use Rattle.groebner.specs.Criteria.{Clear}
use Rattle.groebner.specs.Conversions.{Lists}
use Rattle.groebner.specs.RisingLists.{leads}
use Rattle.groebner.proofs.Lists.{pigeon, once-append, of_map}
use Rattle.groebner.proofs.Terms.{all-at}
use Rattle.groebner.proofs.Ground.{divides-trans}
use Rattle.groebner.proofs.Buchberger.{before-or}
use Rattle.groebner.proofs.Clear.{clear-iff}
use Rattle.groebner.proofs.Counting.{Divisors, exponent-bounded, few-above, bound-monotone}
use Rattle.lines.specs.Sizes.{most_standard, most_terms, most_lines}

pub record Sized {F : Type 0} (R : Arithmetic F) (n D : ℕ) (G : List (Line F (Row n))) : Type 0 where
  pub lines : 0 < n → length G + D ≤ 1 + n * D
  pub terms : (g : Line F (Row n)) → g ∈ G → length (polynomial R g) ≤ 1 + D
  pub exponents : (g : Line F (Row n)) → g ∈ G → (t : F × Row n) → t ∈ polynomial R g → (i : ℕ) → i < n → exponent n t.1 i ≤ D

-- No monomial of a polynomial stands twice.
monomials-once : {F M : Type 0} (R : Arithmetic F) (f : Poly F M) → Polynomial R f → Once (map (λ t. t.1) f)
monomials-once R [] p = tt
monomials-once R (t ∷ f) p = (λ i. let (u, j, e) = of_map (λ t. t.1) f i in all-at p.1 j (sym e), monomials-once R f p.2)

-- Lines whose leading monomials differ.
leads-once : {F M : Type 0} (l : List (Line F M)) → ((f g : Line F M) → Before f g l → ¬ (f.0 ≡ g.0)) → Once (leads l)
leads-once [] h = tt
leads-once (f ∷ l) h = (λ i. let (g, j, e) = of_map (λ g. g.0) l i in h f g (inl (refl, j)) e, leads-once l (λ f g b. h f g (inr b)))

module _ {F : Type 0} (R : Arithmetic F) (n : ℕ) {lt : Row n → Row n → Type 0} (ord : MonomialOrder (monomials n) lt) (G : List (Line F (Row n))) (reduced : Reduced R (monomials n) lt G) where
  clear : Clear R (monomials n) G
  clear = (clear-iff R (rows-laws n) G).1 (reduced.once, reduced.clear)

  lead-in : (g : Line F (Row n)) → (R.one, g.0) ∈ polynomial R g
  unfolding polynomial
  lead-in g = Memᴰ.head refl

  -- Two lines are one, or the leading monomial of the second divides no monomial of the first.
  same-or-clear : (g h : Line F (Row n)) → g ∈ G → h ∈ G → (g ≡ h) ⊎ ((c : F) (m : Row n) → (c, m) ∈ polynomial R g → ¬ Divides (monomials n) h.0 m)
  same-or-clear g h i j = ⊎_elim inl (λ b. inr (λ c m q. ⊎_elim (λ x. all-at (clear g h x).0 q) (λ x. all-at (clear h g x).1 q) b)) (before-or g h G i j)

  pub tail-irreducible : (g : Line F (Row n)) → g ∈ G → (c : F) (m : Row n) → (c, m) ∈ g.1 → ¬ Reducible (monomials n) G m
  unfolding polynomial
  tail-irreducible g i c m q (h, j, v) = ⊎_elim (λ e. above (subst (λ (x : Line F (Row n)). Divides (monomials n) x.0 m) (sym e) v)) (λ free. free c m (Memᴰ.tail q) v) (same-or-clear g h i j)
    where
      below : lt m g.0
      below = all-at (reduced.lines.falling g i).0 q

      above : ¬ Divides (monomials n) g.0 m
      above d = ⊎_elim (λ e. irreflexive ord (subst (lt m) e below)) (λ l. asymmetric ord l below) (divisor-below (rows-laws n) ord d)

  module _ (B : List (Row n)) (irreducible : Lists (λ m. ¬ Reducible (monomials n) G m) B) where
    pub lead-divisors : (g : Line F (Row n)) → g ∈ G → Divisors n g.0 B
    lead-divisors g i d v proper = irreducible.all d (λ (h, j, w). ⊎_elim (λ e. cycle (subst (λ (x : Line F (Row n)). Divides (monomials n) x.0 d) (sym e) w))
        (λ free. free R.one g.0 (lead-in g) (divides-trans (rows-laws n) w v)) (same-or-clear g h i j))
      where
        cycle : ¬ Divides (monomials n) g.0 d
        cycle w = ⊎_elim proper (λ l. ⊎_elim (λ e. irreflexive ord (subst (lt d) e l)) (λ k. asymmetric ord k l) (divisor-below (rows-laws n) ord w)) (divisor-below (rows-laws n) ord v)

    standard-divisors : (m : Row n) → m ∈ B → Divisors n m B
    standard-divisors m i d v _ = irreducible.all d (λ (g, j, w). irreducible.only m i (g, j, divides-trans (rows-laws n) w v))

    pub standard-exponents : (m : Row n) → m ∈ B → (i : ℕ) → i < n → exponent n m i ≤ length B
    standard-exponents m j = exponent-bounded n m B (standard-divisors m j)

    all-divisors : (m : Row n) → m ∈ (leads G ++ B) → Divisors n m B
    all-divisors m i = ⊎_elim (λ j. let (g, k, e) = of_map (λ g. g.0) G j in rw e (lead-divisors g k)) (standard-divisors m) (Memᴰ.append_cases (leads G) i)

    -- The leading monomials and the irreducible ones are all different.
    all_once : Once (leads G ++ B)
    all_once = once-append (leads G) B (leads-once G (λ f g b e. all-at (clear f g b).0 (lead-in f) (rw e (itself g)))) irreducible.once
        (λ m i j. let (g, k, e) = of_map (λ g. g.0) G i in irreducible.only m j (g, k, subst (Divides (monomials n) g.0) (sym e) (itself g)))
      where
        itself : (g : Line F (Row n)) → Divides (monomials n) g.0 g.0
        itself g = ((monomials n).one, sym ((rows-laws n).one_mul g.0))

    tail-short : (g : Line F (Row n)) → g ∈ G → length g.1 ≤ length B
    tail-short g i = omega (
      arith,
      length-map g.1 (λ t. t.1),
      pigeon (map (λ t. t.1) g.1) B (monomials-once R g.1 (reduced.lines.proper g i))
          (λ m j. let (t, k, e) = of_map (λ t. t.1) g.1 j in rw e (irreducible.all t.1 (tail-irreducible g i t.0 t.1 k))),
    )

    monomial-divisors : (g : Line F (Row n)) → g ∈ G → (t : F × Row n) → t ∈ polynomial R g → Divisors n t.1 B
    unfolding polynomial
    monomial-divisors g i t q = ⊎_elim (λ e. rw e (lead-divisors g i)) (λ j. standard-divisors t.1 (irreducible.all t.1 (tail-irreducible g i t.0 t.1 j))) (Memᴰ.cases_cons q)

    pub sizes-suffice : (D : ℕ) → length B ≤ D → Sized R n D G
    unfolding polynomial
    sizes-suffice D few = record {
      lines = bound-monotone n 1 (length G) (length B) D (omega (arith, few-above n B (leads G ++ B) all_once all-divisors, length-append (leads G) B, length-map G (λ g. g.0))) few;
      terms = λ g i. omega (arith, tail-short g i);
      exponents = λ g i t q v l. omega (arith, exponent-bounded n t.1 B (monomial-divisors g i t q) v l);
    }

    pub limits-suffice : length B ≤ most_standard → 0 < n → n ≤ most_variables → (length G ≤ most_lines) × ((g : Line F (Row n)) → g ∈ G → length (polynomial R g) ≤ most_terms)
        × ((g : Line F (Row n)) → g ∈ G → (t : F × Row n) → t ∈ polynomial R g → (i : ℕ) → i < n → exponent n t.1 i ≤ most_exponent)
    limits-suffice few some variables =
        let s = sizes-suffice most_standard few in
        (omega (arith, s.lines some), (λ g i. omega (arith, s.terms g i)), (λ g i t q v l. omega (arith, s.exponents g i t q v l)))
