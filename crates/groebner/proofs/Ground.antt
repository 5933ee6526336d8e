-- What the theory asks of coefficients and monomials, and more consequences of an order's laws (beside `monomial`'s proofs/AnyOrder.antt).
--   PolynomialRing R 𝓜     a field of coefficients, and monomials with their laws
--   not-below              a multiple of a monomial is not smaller than it
--   cancel_right           u·a = v·a only where u = v
--   divides-antisym, divides-trans
use mathlib.Core.Path.{◌≡◌, sym, ◌∙◌, ap, subst}
use mathlib.Core.Logic.{◌⊎◌, inl, inr}
use mathlib.Core.WellFounded.{induction}
use Rattle.residue.specs.Field.{Arithmetic}
use Rattle.residue.specs.RingLaws.{Field}
use Rattle.monomial.specs.Ordering.{Monomials, Divides}
use Rattle.monomial.proofs.OrderLaws.{MonomialLaws, MonomialOrder}
use Rattle.monomial.proofs.AnyOrder.{cancel}

-- A field of coefficients, and monomials with their laws.
pub record PolynomialRing {F M : Type 0} (R : Arithmetic F) (𝓜 : Monomials M) : Type 0 where
  pub field : Field R
  pub monoid : MonomialLaws 𝓜

module _ {M : Type 0} {𝓜 : Monomials M} {lt : M → M → Type 0} (ord : MonomialOrder 𝓜 lt) where
  open 𝓜 use {mul as prod}

  pub not-below : (u a : M) → ¬ lt (prod u a) a
  not-below u a = induction ord.wf {C = λ a. ¬ lt (prod u a) a} a (λ a ih h. ih (prod u a) h (ord.mono u h))

  pub divides-antisym : (a b : M) → Divides 𝓜 a b → Divides 𝓜 b a → a ≡ b
  divides-antisym a b p q = go (ord.total a b)
    where
      go : lt a b ⊎ ((a ≡ b) ⊎ lt b a) → a ≡ b
      go (inl h) = absurd (not-below q.0 b (subst (λ x. lt x b) q.1 h))
      go (inr (inl e)) = e
      go (inr (inr h)) = absurd (not-below p.0 a (subst (λ x. lt x a) p.1 h))

module _ {M : Type 0} {𝓜 : Monomials M} (monoid : MonomialLaws 𝓜) where
  pub cancel_right : {lt : M → M → Type 0} → MonomialOrder 𝓜 lt → (u v a : M) → 𝓜.mul u a ≡ 𝓜.mul v a → u ≡ v
  cancel_right ord u v a e = cancel ord a (monoid.mul_comm a u ∙ e ∙ monoid.mul_comm v a)

  pub divides-trans : {a b c : M} → Divides 𝓜 a b → Divides 𝓜 b c → Divides 𝓜 a c
  divides-trans p q = (𝓜.mul q.0 p.0, q.1 ∙ ap (𝓜.mul q.0) p.1 ∙ sym (monoid.mul_assoc _ _ _))
