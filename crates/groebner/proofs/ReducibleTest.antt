-- The test whether the leading monomial of a line divides a monomial.
--   reducible n G m     the test
--   reducible-iff       it says that some leading monomial divides m
--   irreducible-iff     or that none does
--   reducible-closed    with a monomial its multiples are reducible
use mathlib.Core.Path.{◌≡◌, refl, subst}
use mathlib.Core.Bool.{Bool, true, false, false≢true}
use mathlib.Core.List.Memᴰ
use mathlib.Core.List.{List, [], ◌∷◌}
use mathlib.Core.Logic.{◌⊎◌, inl, inr, ◌↔◌}
use Prim.Native.Nat.{ℕ}
use Rattle.lists.specs.Lists.{◌∈◌}
use Rattle.monomial.specs.Rows.{Row}
use Rattle.monomial.specs.Quotients.{divides}
use Rattle.monomial.specs.Ordering.{Divides, monomials}
use Rattle.monomial.proofs.Products.{divides-iff, rows-laws}
use Rattle.groebner.specs.Lines.{Line, Reducible}
use Rattle.groebner.proofs.Ground.{divides-trans}
use Rattle.groebner.proofs.Successors.{Closed}

-- Whether some leading monomial divides m.
unfoldable pub reducible : {F : Type 0} (n : ℕ) → List (Line F (Row n)) → Row n → Bool
unfolding divides
reducible n [] m = false
reducible n (g ∷ G) m = elim (divides n g.0 m) [ true ↦ true | false ↦ reducible n G m ]

module _ {F : Type 0} (n : ℕ) where
  pub reducible-iff : (G : List (Line F (Row n))) (m : Row n) → (reducible n G m ≡ true) ↔ Reducible (monomials n) G m
  unfolding reducible
  reducible-iff [] m = (λ e. absurd (false≢true e), λ r. absurd (Memᴰ.not-nil r.1))
  reducible-iff (g ∷ G) m = at (divides n g.0 m) (divides-iff n g.0 m) (reducible-iff G m)
    where
      at : (b : Bool) → (b ≡ true) ↔ Divides (monomials n) g.0 m → (reducible n G m ≡ true) ↔ Reducible (monomials n) G m
          → (elim b [ true ↦ true | false ↦ reducible n G m ] ≡ true) ↔ Reducible (monomials n) (g ∷ G) m
      at true first rest = (λ _. (g, Memᴰ.head refl, first.0 refl), λ _. refl)
      at false first rest = (λ e. let r = rest.0 e in (r.0, Memᴰ.tail r.1, r.2), λ r. back r (Memᴰ.cases_cons r.1))
        where
          back : (r : Reducible (monomials n) (g ∷ G) m) → (r.0 ≡ g) ⊎ r.0 ∈ G → reducible n G m ≡ true
          back r (inl e) = absurd (false≢true (first.1 (subst (λ (h : Line F (Row n)). Divides (monomials n) h.0 m) e r.2)))
          back r (inr i) = rest.1 (r.0, i, r.2)

  pub irreducible-iff : (G : List (Line F (Row n))) (m : Row n) → (reducible n G m ≡ false) ↔ (¬ Reducible (monomials n) G m)
  irreducible-iff G m = at (reducible n G m) (reducible-iff G m)
    where
      at : (b : Bool) → (b ≡ true) ↔ Reducible (monomials n) G m → (b ≡ false) ↔ (¬ Reducible (monomials n) G m)
      at true i = (λ e. absurd (false≢true (rw e)), λ h. absurd (h (i.0 refl)))
      at false i = (λ _ r. false≢true (i.1 r), λ _. refl)

  pub reducible-closed : (G : List (Line F (Row n))) → Closed (monomials n) (reducible n G)
  reducible-closed G a b d e = let r = (reducible-iff G a).0 e in (reducible-iff G b).1 (r.0, r.1, divides-trans (rows-laws n) r.2 d)
