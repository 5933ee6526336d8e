-- Lines of which no monomial is divisible by another line's leading monomial (document 01, refusal 12).
--   minimal-of-clear    a leading monomial divides no leading monomial of another line
--   tails-of-clear      the monomials of the tails are irreducible
use mathlib.Core.Path.{◌≡◌, refl}
use mathlib.Core.List.Memᴰ
use mathlib.Core.List.{List}
use mathlib.Core.Logic.{◌⊎◌, inl, inr}
use Rattle.lists.specs.Lists.{◌∈◌}
use Rattle.lists.specs.Pairs.{Before}
use Rattle.residue.specs.Field.{Arithmetic}
use Rattle.monomial.specs.Ordering.{Monomials, Divides}
use Rattle.monomial.proofs.OrderLaws.{MonomialOrder}
use Rattle.groebner.specs.Polynomials.{All}
use Rattle.groebner.specs.Lines.{Line, polynomial, Reducible}
use Rattle.groebner.specs.Criteria.{Clear, Low}
use Rattle.groebner.proofs.Terms.{all-at, all_of}
use Rattle.groebner.proofs.Ground.{not-below}
use Rattle.groebner.proofs.Buchberger.{before-or}

module _ {F M : Type 0} (R : Arithmetic F) (𝓜 : Monomials M) (G : List (Line F M)) (clear : Clear R 𝓜 G) where
  -- A leading monomial divides monomials of its own line only.
  divides-own : (g h : Line F M) → g ∈ G → h ∈ G → (c : F) (m : M) → (c, m) ∈ polynomial R h → Divides 𝓜 g.0 m → g ≡ h
  divides-own g h p q c m t d = go (before-or g h G p q)
    where
      go : (g ≡ h) ⊎ (Before g h G ⊎ Before h g G) → g ≡ h
      go (inl e) = e
      go (inr (inl b)) = absurd (all-at (clear g h b).1 t d)
      go (inr (inr b)) = absurd (all-at (clear h g b).0 t d)

  pub minimal-of-clear : (g h : Line F M) → g ∈ G → h ∈ G → Divides 𝓜 g.0 h.0 → g ≡ h
  unfolding polynomial
  minimal-of-clear g h p q d = divides-own g h p q R.one h.0 (Memᴰ.head refl) d

  -- A line's own leading monomial divides no monomial of its tail, which is smaller.
  pub tails-of-clear : {lt : M → M → Type 0} → MonomialOrder 𝓜 lt → Low lt G → (h : Line F M) → h ∈ G → All (λ m. ¬ Reducible 𝓜 G m) h.1
  unfolding polynomial
  tails-of-clear ord low h q = all_of h.1 (λ c m t (g, p, d). not-below ord d.0 g.0 (rw (← d.1, divides-own g h p q c m (Memᴰ.tail t) d) (all-at (low h q) t)))
