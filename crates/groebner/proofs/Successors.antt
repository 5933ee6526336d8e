-- The next monomial that is not excluded, for any order.
--   Closed 𝓜 excluded             the multiples of an excluded monomial are excluded
--   Successor lt excluded m x     x is the smallest monomial above m that is not excluded; none where all above m are excluded
--   Successors 𝓜 lt next          next finds it, for every such test
--   UpTo lt m k                   k is m or smaller than m
--   Precedes lt x k               k is smaller than x; any k where x is none
--   precedes-of-up-to             what is up to m precedes its successor
--   up-to-of-precedes             what precedes the successor of m is up to m or excluded
use mathlib.Core.Path.{◌≡◌}
use mathlib.Core.Bool.{Bool, true, false}
use mathlib.Core.Logic.{◌⊎◌, inl, inr}
use mathlib.Core.Option.{Option, none, some}
use Rattle.monomial.specs.Ordering.{Monomials, Divides}
use Rattle.monomial.proofs.OrderLaws.{MonomialOrder}

-- The multiples of an excluded monomial are excluded.
abbrev pub Closed : {M : Type 0} → Monomials M → (M → Bool) → Type 0
Closed {M} 𝓜 excluded = (a b : M) → Divides 𝓜 a b → excluded a ≡ true → excluded b ≡ true

-- The smallest monomial above m that is not excluded, or none where all above m are excluded.
abbrev pub Successor : {M : Type 0} → (M → M → Type 0) → (M → Bool) → M → Option M → Type 0
Successor {M} lt excluded m none = (k : M) → lt m k → excluded k ≡ true
Successor {M} lt excluded m (some r) = lt m r × (excluded r ≡ false) × ((k : M) → lt m k → lt k r → excluded k ≡ true)

abbrev pub Successors : {M : Type 0} → Monomials M → (M → M → Type 0) → ((M → Bool) → M → Option M) → Type 0
Successors {M} 𝓜 lt next = (excluded : M → Bool) → Closed 𝓜 excluded → (m : M) → Successor lt excluded m (next excluded m)

-- k is m or smaller than m.
abbrev pub UpTo : {M : Type 0} → (M → M → Type 0) → M → M → Type 0
UpTo lt m k = (k ≡ m) ⊎ lt k m

-- k is smaller than x; any k where x is none.
abbrev pub Precedes : {M : Type 0} → (M → M → Type 0) → Option M → M → Type 0
Precedes lt none k = Unit
Precedes lt (some r) k = lt k r

module _ {M : Type 0} {𝓜 : Monomials M} {lt : M → M → Type 0} (ord : MonomialOrder 𝓜 lt) (excluded : M → Bool) (m : M) where
  pub precedes-of-up-to : (x : Option M) → Successor lt excluded m x → (k : M) → UpTo lt m k → Precedes lt x k
  precedes-of-up-to none s k h = tt
  precedes-of-up-to (some r) s k (inl e) = rw e s.0
  precedes-of-up-to (some r) s k (inr l) = ord.trans l s.0

  pub up-to-of-precedes : (x : Option M) → Successor lt excluded m x → (k : M) → Precedes lt x k → UpTo lt m k ⊎ (excluded k ≡ true)
  up-to-of-precedes x s k p = at x s p (ord.total k m)
    where
      at : (x : Option M) → Successor lt excluded m x → Precedes lt x k → lt k m ⊎ ((k ≡ m) ⊎ lt m k) → UpTo lt m k ⊎ (excluded k ≡ true)
      at x s p (inl l) = inl (inr l)
      at x s p (inr (inl e)) = inl (inl e)
      at none s p (inr (inr g)) = inr (s k g)
      at (some r) s p (inr (inr g)) = inr (s.2 k g p)
