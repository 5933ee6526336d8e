-- Check 12 of document 01 is part (2) of definition 1.6 of 001: lines each once, and no monomial of a line divisible by another's leading monomial.
--   clear-iff     the check passes exactly if each line stands once and part (2) holds
use mathlib.Core.Path.{◌≡◌, refl, sym, subst}
use mathlib.Core.List.Memᴰ
use mathlib.Core.List.{List, [], ◌∷◌}
use mathlib.Core.Logic.{◌⊎◌, inl, inr, ◌↔◌}
use Rattle.lists.specs.Lists.{◌∈◌, Once}
use Rattle.lists.specs.Pairs.{Before}
use Rattle.residue.specs.Field.{Arithmetic}
use Rattle.monomial.specs.Ordering.{Monomials, Divides}
use Rattle.monomial.proofs.OrderLaws.{MonomialLaws}
use Rattle.groebner.specs.Polynomials.{All, all_cons}
use Rattle.groebner.specs.Lines.{Line, polynomial}
use Rattle.groebner.specs.Criteria.{Clear}
use Rattle.groebner.proofs.Buchberger.{before-or, before-in}

module _ {F M : Type 0} (R : Arithmetic F) {𝓜 : Monomials M} (monoid : MonomialLaws 𝓜) (G : List (Line F M)) where
  open R use {one as 𝟙}

  clear_of : Clear R 𝓜 G → (p q : Line F M) → p ∈ G → q ∈ G → ¬ (p ≡ q) → All (λ m. ¬ Divides 𝓜 q.0 m) (polynomial R p)
  clear_of c p q a b n = go (before-or p q G a b)
    where
      go : (p ≡ q) ⊎ (Before p q G ⊎ Before q p G) → All (λ m. ¬ Divides 𝓜 q.0 m) (polynomial R p)
      go (inl e) = absurd (n e)
      go (inr (inl x)) = (c p q x).0
      go (inr (inr x)) = (c q p x).1

  before_self : {A : Type 0} (g : A) (k : List A) → Once k → ¬ Before g g k
  before_self g [] w b = b
  before_self {A} g (h ∷ k) w (inl b) = w.0 (Memᴰ.cast (sym b.0) b.1)
  before_self g (h ∷ k) w (inr b) = before_self g k w.1 b

  once-of : Clear R 𝓜 G → Once G
  unfolding polynomial
  once-of c = go G (λ g b. itself g (c g g b).0)
    where
      itself : (g : Line F M) → All (λ m. ¬ Divides 𝓜 g.0 m) ((𝟙, g.0) ∷ g.1) → ⊥
      itself g (all_cons h a) = h (𝓜.one, sym (monoid.one_mul g.0))

      go : (k : List (Line F M)) → ((g : Line F M) → ¬ Before g g k) → Once k
      go [] n = tt
      go (h ∷ k) n = (λ q. n h (inl (refl, q)), go k (λ g b. n g (inr b)))

  clear-from : Once G → ((p q : Line F M) → p ∈ G → q ∈ G → ¬ (p ≡ q) → All (λ m. ¬ Divides 𝓜 q.0 m) (polynomial R p)) → Clear R 𝓜 G
  clear-from w c f g b = (c f g r.0 r.1 n, c g f r.1 r.0 (λ e. n (sym e)))
    where
      r : (f ∈ G) × (g ∈ G)
      r = before-in f g G b

      n : ¬ (f ≡ g)
      n e = before_self g G w (subst (λ (x : Line F M). Before x g G) e b)

  pub clear-iff : Clear R 𝓜 G ↔ (Once G × ((p q : Line F M) → p ∈ G → q ∈ G → ¬ (p ≡ q) → All (λ m. ¬ Divides 𝓜 q.0 m) (polynomial R p)))
  clear-iff = (λ c. (once-of c, clear_of c), λ o. clear-from o.0 o.1)
