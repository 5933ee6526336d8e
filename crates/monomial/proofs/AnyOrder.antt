-- What holds of every monomial ordering.
--   transitive-of   a total and well-founded relation is transitive
--   asymmetric      of two monomials at most one is the smaller
--   irreflexive     no monomial is smaller than itself
--   cancel          u·a = u·b only where a = b
--   one-least       no monomial is smaller than 1
--   one-or-above    each monomial is 1 or greater than 1
--   divisor-below   a divisor of b is b or smaller than b
use mathlib.Core.Path.{◌≡◌, ◌∙◌}
use mathlib.Core.Logic.{◌⊎◌, inl, inr, ⊎_elim}
use mathlib.Core.WellFounded.{WellFounded, induction}
use Rattle.monomial.specs.Ordering.{Monomials, Divides}
use Rattle.monomial.proofs.OrderLaws.{MonomialLaws, MonomialOrder}

-- A well-founded relation has no cycle of two or of three.
module _ {M : Type 0} {lt : M → M → Type 0} (wf : WellFounded lt) where
  no-cycle-of-two : (a b : M) → lt a b → ¬ lt b a
  no-cycle-of-two a = induction wf {C = λ a. (b : M) → lt a b → ¬ lt b a} a (λ a below b p q. below b q a q p)

  no-cycle-of-three : (a b c : M) → lt a b → lt b c → ¬ lt c a
  no-cycle-of-three a = induction wf {C = λ a. (b c : M) → lt a b → lt b c → ¬ lt c a} a (λ a below b c p q r. below c r a b r p q)

pub transitive-of : {M : Type 0} {lt : M → M → Type 0} → ((a b : M) → lt a b ⊎ ((a ≡ b) ⊎ lt b a)) → WellFounded lt → {a b c : M} → lt a b → lt b c → lt a c
transitive-of {lt = lt} total wf {a} {b} {c} p q = go (total a c)
  where
    go : lt a c ⊎ ((a ≡ c) ⊎ lt c a) → lt a c
    go (inl r) = r
    go (inr (inl e)) = absurd (no-cycle-of-two wf a b p (rw e q))
    go (inr (inr r)) = absurd (no-cycle-of-three wf a b c p q r)

module _ {M : Type 0} {𝓜 : Monomials M} {lt : M → M → Type 0} (order : MonomialOrder 𝓜 lt) where
  pub asymmetric : {a b : M} → lt a b → ¬ lt b a
  asymmetric {a} {b} = no-cycle-of-two order.wf a b

  pub irreflexive : {a : M} → ¬ lt a a
  irreflexive p = asymmetric p p

  pub cancel : (u : M) {a b : M} → 𝓜.mul u a ≡ 𝓜.mul u b → a ≡ b
  cancel u {a} {b} e = go (order.total a b)
    where
      go : lt a b ⊎ ((a ≡ b) ⊎ lt b a) → a ≡ b
      go (inl p) = absurd (irreflexive (rw e at (order.mono u p)))
      go (inr (inl q)) = q
      go (inr (inr p)) = absurd (irreflexive (rw e at (order.mono u p)))

module _ {M : Type 0} {𝓜 : Monomials M} {lt : M → M → Type 0} (laws : MonomialLaws 𝓜) (order : MonomialOrder 𝓜 lt) where
  mul_one : (a : M) → 𝓜.mul a 𝓜.one ≡ a
  mul_one a = laws.mul_comm a 𝓜.one ∙ laws.one_mul a

  -- Were a smaller than 1, then a·a would be smaller than a and so smaller than 1 too, without end.
  pub one-least : (a : M) → ¬ lt a 𝓜.one
  one-least a = induction order.wf {C = λ a. ¬ lt a 𝓜.one} a (λ a below p.
      let q : lt (𝓜.mul a a) a = rw (mul_one a) at (order.mono a p) in
      below (𝓜.mul a a) q (order.trans q p))

  pub one-or-above : (a : M) → (a ≡ 𝓜.one) ⊎ lt 𝓜.one a
  one-or-above a = ⊎_elim (λ p. absurd (one-least a p)) (λ r. r) (order.total a 𝓜.one)

  pub divisor-below : {a b : M} → Divides 𝓜 a b → (a ≡ b) ⊎ lt a b
  divisor-below {a} {b} d = go (one-or-above d.0)
    where
      go : (d.0 ≡ 𝓜.one) ⊎ lt 𝓜.one d.0 → (a ≡ b) ⊎ lt a b
      go (inl e) = inl (cc (d.1, e, laws.one_mul a))
      go (inr p) = inr (rw (d.1, laws.mul_comm d.0 a) (rw (mul_one a) at (order.mono a p)))
