-- Where the enumeration ends, for lex over a ranking of the variables: when a new leading monomial is a power of the first variable v, the
-- monomial 1 included (document 01).
--   standard-goes-on    it does not end after a standard monomial
--   ends-at-power       after a line it ends only where the leading monomial is a power of v
--   power-ends          and there it does end
--   ends-iff            together: none is left after m exactly if m makes a line and is a power of v
use mathlib.Core.Path.{◌≡◌, refl, subst}
use mathlib.Core.Bool.{true}
use mathlib.Core.List.Memᴰ
use mathlib.Core.List.{List, [], ◌∷◌, ◌++◌}
use mathlib.Core.Logic.{◌⊎◌, inl, inr, ◌↔◌, ⊎_elim}
use mathlib.Core.Option.{Option, none, some}
use Prim.Native.Nat.{ℕ, suc, ◌≤◌, ◌<◌}
use native.Mathlib.Omega.{arith}
use Rattle.lists.specs.Lists.{◌∈◌}
use Rattle.residue.specs.Field.{Arithmetic}
use Rattle.monomial.specs.Rows.{Row, exponent}
use Rattle.monomial.specs.Quotients.{is_power}
use Rattle.monomial.specs.Orders.{lex}
use Rattle.monomial.specs.Ordering.{Divides, monomials, LessBy}
use Rattle.std.specs.declared.cmp.Ordering.TheVariants.{Less}
use Rattle.monomial.proofs.Products.{divisible-at, power_at}
use Rattle.monomial.proofs.LexOrder.{lex-cons-less}
use Rattle.groebner.specs.Polynomials.{Poly, negate}
use Rattle.groebner.specs.Lines.{Line, Reducible}
use Rattle.groebner.specs.Next.{RanksOnce, carried, next}
use Rattle.groebner.proofs.Modules.{Module}
use Rattle.groebner.proofs.Elimination.{Elimination}
use Rattle.groebner.proofs.Successors.{Successor}
use Rattle.groebner.proofs.Next.{carried_here, carried-zero, next-lex}
use Rattle.groebner.proofs.ReducibleTest.{reducible, reducible-iff, irreducible-iff, reducible-closed}
use Rattle.groebner.proofs.Enumeration.{Progress, extend, visit, after_visit, ToVisit}

-- Lex over the ranking v, s of the n variables.
module _ (n v : ℕ) (s : List ℕ) (ranking : RanksOnce n (v ∷ s)) where
  -- The exponent of v does not fall.
  first-grows : (a b : Row n) → lex n (v ∷ s) a b ≡ Less → exponent n a v ≤ exponent n b v
  first-grows a b l = ⊎_elim (λ h. omega arith) (λ p. omega (arith, p.0)) ((lex-cons-less n v s a b).0 l)

  -- A monomial divides another if it does at v and at the variables of s.
  divides-by : (a b : Row n) → exponent n a v ≤ exponent n b v → ((i : ℕ) → i ∈ s → exponent n a i ≤ exponent n b i) → Divides (monomials n) a b
  divides-by a b h rest = (divisible-at n a b).1 (λ i l. at i (Memᴰ.cases_cons (ranking.all i l)))
    where
      at : (i : ℕ) → (i ≡ v) ⊎ (i ∈ s) → exponent n a i ≤ exponent n b i
      at i (inl e) = rw e h
      at i (inr j) = rest i j

  -- The power of v one above its power in m.
  up : Row n → Row n
  up m = carried n v s m

  within : v < n
  within = ranking.only v (Memᴰ.head refl)

  up_first : (m : Row n) → exponent n (up m) v ≡ suc (exponent n m v)
  unfolding up
  up_first m = carried_here n m v s within ranking.once.0

  up-zero : (m : Row n) (i : ℕ) → i ∈ s → exponent n (up m) i ≡ 0
  unfolding up
  up-zero m i j = carried-zero n m v s within ranking.once.0 i j

  up_above : (m : Row n) → lex n (v ∷ s) m (up m) ≡ Less
  up_above m = (lex-cons-less n v s m (up m)).1 (inl (omega (arith, up_first m)))

  -- What divides it is a power of v.
  divides-up : (m k : Row n) → Divides (monomials n) k (up m) → (i : ℕ) → i ∈ s → exponent n k i ≡ 0
  divides-up m k d i j = omega (arith, up-zero m i j, (divisible-at n k (up m)).0 d i (ranking.only i (Memᴰ.tail j)))

  module _ {F : Type 0} (m : Row n) (G : List (Line F (Row n))) (below : (g : Line F (Row n)) → g ∈ G → lex n (v ∷ s) g.0 m ≡ Less) (free : ¬ Reducible (monomials n) G m) where
    not_earlier : (g : Line F (Row n)) → g ∈ G → ¬ Divides (monomials n) g.0 (up m)
    not_earlier g i d = free (g, i, divides-by g.0 m (first-grows g.0 m (below g i)) (λ j h. omega (arith, divides-up m g.0 d j h)))

    pub standard-goes-on : ¬ Successor (LessBy (lex n (v ∷ s))) (reducible n G) m none
    standard-goes-on h = at ((reducible-iff n G (up m)).0 (h (up m) (up_above m)))
      where
        at : Reducible (monomials n) G (up m) → ⊥
        at (g, i, d) = not_earlier g i d

    module _ (f : Poly F (Row n)) where
      pub ends-at-power : Successor (LessBy (lex n (v ∷ s))) (reducible n (G ++ ((m, f) ∷ []))) m none → is_power n v m ≡ true
      ends-at-power h = at ((reducible-iff n (G ++ ((m, f) ∷ [])) (up m)).0 (h (up m) (up_above m)))
        where
          power : Divides (monomials n) m (up m) → is_power n v m ≡ true
          power d = (power_at n v m).1 (λ i l q. ⊎_elim (λ e. absurd (q e)) (divides-up m m d i) (Memᴰ.cases_cons (ranking.all i l)))

          at : Reducible (monomials n) (G ++ ((m, f) ∷ [])) (up m) → is_power n v m ≡ true
          at (g, i, d) = ⊎_elim (λ j. absurd (not_earlier g j d)) (λ j. power (subst (λ (h : Line F (Row n)). Divides (monomials n) h.0 (up m)) (Memᴰ.eq_of_singleton j) d))
              (Memᴰ.append_cases G i)

      pub power-ends : is_power n v m ≡ true → (r : Row n) → ¬ Successor (LessBy (lex n (v ∷ s))) (reducible n (G ++ ((m, f) ∷ []))) m (some r)
      power-ends p r h = (irreducible-iff n (G ++ ((m, f) ∷ [])) r).0 h.1 ((m, f), Memᴰ.append_right G (Memᴰ.head refl), divides-by m r (first-grows m r h.0) zero)
        where
          zero : (i : ℕ) → i ∈ s → exponent n m i ≤ exponent n r i
          zero i j = omega (arith, (power_at n v m).0 p i (ranking.only i (Memᴰ.tail j)) (λ e. ranking.once.0 (subst (λ x. x ∈ s) e j)))

  module _ {F : Type 0} {R : Arithmetic F} {W : Type 0} {𝓥 : Module R W} {L : Row n → W} {D : ℕ} (E : Elimination 𝓥 L D)
      (p : Progress n E) (m : Row n) (visits : ToVisit n E (LessBy (lex n (v ∷ s))) p m) where
    -- After m none is left exactly if m makes a line and is a power of v.
    pub ends-iff : (after_visit n E (next n (v ∷ s)) p m ≡ none) ↔ ((f : Poly F (Row n)) × (E.add p.state p.standard m ≡ inl f) × (is_power n v m ≡ true))
    unfolding visit extend
    ends-iff = at (E.add p.state p.standard m) refl
      where
        below : (g : Line F (Row n)) → g ∈ p.lines → lex n (v ∷ s) g.0 m ≡ Less
        below g i = (visits.seen.lines g i).0

        successor : (H : List (Line F (Row n))) → Successor (LessBy (lex n (v ∷ s))) (reducible n H) m (next n (v ∷ s) (reducible n H) m)
        successor H = next-lex n (v ∷ s) ranking (reducible n H) (reducible-closed n H) m

        at : (a : Poly F (Row n) ⊎ E.State) → E.add p.state p.standard m ≡ a
            → (next n (v ∷ s) (reducible n (extend n E p m a).lines) m ≡ none) ↔ ((f : Poly F (Row n)) × (E.add p.state p.standard m ≡ inl f) × (is_power n v m ≡ true))
        at (inl f) e = (
          λ q. (f, e, ends-at-power m p.lines below visits.free (negate R f) (subst (Successor (LessBy (lex n (v ∷ s))) (reducible n H) m) q (successor H))),
          λ h. ended (next n (v ∷ s) (reducible n H) m) (successor H) h.2,
        )
          where
            H : List (Line F (Row n))
            H = p.lines ++ ((m, negate R f) ∷ [])

            ended : (x : Option (Row n)) → Successor (LessBy (lex n (v ∷ s))) (reducible n H) m x → is_power n v m ≡ true → x ≡ none
            ended none _ _ = refl
            ended (some r) h q = absurd (power-ends m p.lines below visits.free (negate R f) q r h)
        at (inr t) e = (λ q. absurd (standard-goes-on m p.lines below visits.free (subst (Successor (LessBy (lex n (v ∷ s))) (reducible n p.lines) m) q (successor p.lines))), λ h. cc h.1)
