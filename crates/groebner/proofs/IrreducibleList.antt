-- All monomials that are not excluded, in rising order, or more of them than a given number (document 01, refusal 14), for any monomial
-- ordering with a successor function.
--   Counts lt P most x                   x lists the monomials that have P, at most that many; or x is none, and more have P
--   counts-iff                           that depends on P only up to equivalence
--   irreducibles-count                   irreducibles counts the monomials that are not excluded
--   irreducibles-of-lines                among them those that no leading monomial divides
use mathlib.Core.Path.{◌≡◌, refl, sym, ◌∙◌}
use mathlib.Core.Bool.{Bool, true, false, false≢true}
use mathlib.Core.List.Memᴰ
use mathlib.Core.List.{List, [], ◌∷◌, ◌++◌}
use mathlib.Core.Logic.{◌⊎◌, inl, inr, ◌↔◌}
use mathlib.Core.Option.{Option, none, some}
use Prim.Native.Nat.{ℕ, zero, suc, ◌+◌, ◌≤◌}
use native.Mathlib.Omega.{arith}
use lib.ListN.{length, length-append}
use Rattle.lists.specs.Lists.{◌∈◌}
use Rattle.monomial.specs.Rows.{Row, one}
use Rattle.monomial.specs.Ordering.{monomials}
use Rattle.monomial.proofs.OrderLaws.{MonomialOrder}
use Rattle.monomial.proofs.AnyOrder.{one-least}
use Rattle.monomial.proofs.Products.{exponent-one, divisible-at, rows-laws}
use Rattle.groebner.specs.Lines.{Line, Reducible, RisingList}
use Rattle.groebner.specs.RisingLists.{ListsRising}
use Rattle.groebner.specs.Next.{collect, irreducibles}
use Rattle.groebner.proofs.RisingLists.{rising-append}
use Rattle.groebner.proofs.Successors.{Closed, Successor, Successors, UpTo, Precedes, precedes-of-up-to, up-to-of-precedes}
use Rattle.groebner.proofs.ReducibleTest.{reducible, irreducible-iff, reducible-closed}

-- At most that many monomials have P, and x lists them; or x is none, and more have P.
abbrev pub Counts : {M : Type 0} → (M → M → Type 0) → (M → Type 0) → ℕ → Option (List M) → Type 0
Counts {M} lt P most none = (l : List M) × (length l ≡ suc most) × RisingList lt l × ((k : M) → k ∈ l → P k)
Counts {M} lt P most (some l) = (length l ≤ most) × ListsRising lt P l

pub counts-iff : {M : Type 0} (lt : M → M → Type 0) {P Q : M → Type 0} → ((k : M) → P k ↔ Q k) → (most : ℕ) (x : Option (List M)) → Counts lt P most x → Counts lt Q most x
counts-iff lt h most none c = (c.0, c.1, c.2, λ k i. (h k).0 (c.3 k i))
counts-iff lt h most (some l) c = (c.0, record { rising = c.1.rising; all = λ k q. c.1.all k ((h k).1 q); only = λ k i. (h k).0 (c.1.only k i) })

module _ (n : ℕ) {lt : Row n → Row n → Type 0} (ord : MonomialOrder (monomials n) lt) (next : (Row n → Bool) → Row n → Option (Row n)) (successors : Successors (monomials n) lt next) where
  module _ (excluded : Row n → Bool) (closed : Closed (monomials n) excluded) where
    -- k has Q and is not excluded.
    abbrev Free : (Row n → Type 0) → Row n → Type 0
    Free Q k = Q k × (excluded k ≡ false)

    -- m is the next one.
    add : (l : List (Row n)) (m : Row n) → ListsRising lt (Free (λ k. lt k m)) l → excluded m ≡ false → ListsRising lt (Free (UpTo lt m)) (l ++ (m ∷ []))
    add l m v free = record {
      rising = rising-append lt l m v.rising (λ k i. (v.only k i).0);
      all = λ k p. reach k p.0 p.1;
      only = λ k i. at k (Memᴰ.append_cases l i);
    }
      where
        reach : (k : Row n) → UpTo lt m k → excluded k ≡ false → k ∈ (l ++ (m ∷ []))
        reach k (inl e) f = Memᴰ.append_right l (Memᴰ.head e)
        reach k (inr h) f = Memᴰ.append_left (m ∷ []) (v.all k (h, f))

        at : (k : Row n) → (k ∈ l) ⊎ (k ∈ (m ∷ [])) → Free (UpTo lt m) k
        at k (inl i) = (inr (v.only k i).0, (v.only k i).1)
        at k (inr i) = rw (Memᴰ.eq_of_singleton i) (inl refl, free)

    -- What follows m is the next one, or none is left.
    onward : (l : List (Row n)) (m : Row n) → ListsRising lt (Free (UpTo lt m)) l → (x : Option (Row n)) → Successor lt excluded m x → ListsRising lt (Free (Precedes lt x)) l
    onward l m v x s = record {
      rising = v.rising;
      all = λ k p. at k p.1 (up-to-of-precedes ord excluded m x s k p.0);
      only = λ k i. (precedes-of-up-to ord excluded m x s k (v.only k i).0, (v.only k i).1);
    }
      where
        at : (k : Row n) → excluded k ≡ false → UpTo lt m k ⊎ (excluded k ≡ true) → k ∈ l
        at k f (inl u) = v.all k (u, f)
        at k f (inr e) = absurd (false≢true (sym f ∙ e))

    collect-count : (rest most : ℕ) (l : List (Row n)) (m : Row n) → ListsRising lt (Free (λ k. lt k m)) l → excluded m ≡ false → length l + rest ≡ most
        → Counts lt (λ k. excluded k ≡ false) most (collect n next excluded rest l m)
    unfolding collect
    collect-count zero most l m v free e = let w = add l m v free in (l ++ (m ∷ []), omega (arith, length-append l (m ∷ [])), w.rising, λ k i. (w.only k i).1)
    collect-count (suc rest) most l m v free e = at (next excluded m) (successors excluded closed m) (collect-count rest most (l ++ (m ∷ [])))
      where
        at : (x : Option (Row n)) → Successor lt excluded m x
            → ((r : Row n) → ListsRising lt (Free (λ k. lt k r)) (l ++ (m ∷ [])) → excluded r ≡ false → length (l ++ (m ∷ [])) + rest ≡ most
            → Counts lt (λ k. excluded k ≡ false) most (collect n next excluded rest (l ++ (m ∷ [])) r))
            → Counts lt (λ k. excluded k ≡ false) most (elim x [ none ↦ some (l ++ (m ∷ [])) | some r ↦ collect n next excluded rest (l ++ (m ∷ [])) r ])
        at none s _ = let w = onward (l ++ (m ∷ [])) m (add l m v free) none s in
            (omega (arith, length-append l (m ∷ [])), record { rising = w.rising; all = λ k f. w.all k (tt, f); only = λ k i. (w.only k i).1 })
        at (some r) s more = more r (onward (l ++ (m ∷ [])) m (add l m v free) (some r) s) s.1 (omega (arith, length-append l (m ∷ [])))

    pub irreducibles-count : (most : ℕ) → Counts lt (λ k. excluded k ≡ false) most (irreducibles n next excluded most)
    unfolding irreducibles monomials
    irreducibles-count most = at (excluded (one n)) refl
      where
        all-excluded : excluded (one n) ≡ true → (k : Row n) → ¬ (excluded k ≡ false)
        all-excluded e k f = false≢true (sym f ∙ closed (one n) k ((divisible-at n (one n) k).1 (λ i l. omega (arith, exponent-one n i))) e)

        least : (k : Row n) → ¬ lt k (one n)
        least = one-least (rows-laws n) ord

        at : (b : Bool) → excluded (one n) ≡ b → Counts lt (λ k. excluded k ≡ false) most (elim b [ true ↦ some [] | false ↦ collect n next excluded most [] (one n) ])
        at true e = (omega arith, record { rising = tt; all = λ k f. absurd (all-excluded e k f); only = λ k i. absurd (Memᴰ.not-nil i) })
        at false e = collect-count most most [] (one n) (record { rising = tt; all = λ k p. absurd (least k p.0); only = λ k i. absurd (Memᴰ.not-nil i) }) e (omega arith)

  -- The monomials that no leading monomial divides.
  pub irreducibles-of-lines : {F : Type 0} (G : List (Line F (Row n))) (most : ℕ) → Counts lt (λ k. ¬ Reducible (monomials n) G k) most (irreducibles n next (reducible n G) most)
  irreducibles-of-lines G most = counts-iff lt (irreducible-iff n G) most (irreducibles n next (reducible n G) most) (irreducibles-count (reducible n G) (reducible-closed n G) most)
