-- Sums of products over the numbers below d.
--   dot-on         it reads v and w below d only
--   dot-comm       v and w may change places
--   dot-add        of a sum in the first place it is the sum
--   dot-mul        of a multiple in the first place it is the multiple
--   dot-none       where v is 0 below d, it is 0
--   dot-only       where v is 1 at s and 0 elsewhere below d, it is w(s)
--   dot-assoc      a double sum, either way round
--   zero-mul       a product with 0
use mathlib.Core.Path.{◌≡◌, refl, sym, ◌∙◌, ap, ap₂}
use mathlib.Core.Logic.{by_cases}
use Prim.Native.Nat.{ℕ, zero, suc, ◌<◌}
use native.Mathlib.Decide.{ℕ_discrete}
use native.Mathlib.Omega.{arith}
use Rattle.residue.specs.Field.{Arithmetic}
use Rattle.residue.specs.RingLaws.{Ring}
use Rattle.groebner.specs.MultiplicationRows.{dot}
use Rattle.groebner.proofs.Modules.{self, plus-medial, zero-add, mul-zero}

module _ {F : Type 0} {R : Arithmetic F} (ring : Ring R) where
  open R use {zero as 𝟘, one as 𝟙, add, mul}

  pub dot-on : (d : ℕ) (v v' w w' : ℕ → F) → ((k : ℕ) → k < d → v k ≡ v' k) → ((k : ℕ) → k < d → w k ≡ w' k) → dot R d v w ≡ dot R d v' w'
  unfolding dot
  dot-on zero v v' w w' p q = refl
  dot-on (suc d) v v' w w' p q = ap₂ add (ap₂ mul (p d (omega arith)) (q d (omega arith))) (dot-on d v v' w w' (λ k h. p k (omega arith)) (λ k h. q k (omega arith)))

  pub dot-comm : (d : ℕ) (v w : ℕ → F) → dot R d v w ≡ dot R d w v
  unfolding dot
  dot-comm zero v w = refl
  dot-comm (suc d) v w = ap₂ add (ring.mul_comm (v d) (w d)) (dot-comm d v w)

  pub dot-add : (d : ℕ) (u v w : ℕ → F) → dot R d (λ k. add (u k) (v k)) w ≡ add (dot R d u w) (dot R d v w)
  unfolding dot self
  dot-add zero u v w = sym (ring.add_zero 𝟘)
  dot-add (suc d) u v w = ap₂ add ((self ring).act_add (u d) (v d) (w d)) (dot-add d u v w) ∙ plus-medial (self ring) _ _ _ _

  pub dot-mul : (d : ℕ) (c : F) (v w : ℕ → F) → dot R d (λ k. mul c (v k)) w ≡ mul c (dot R d v w)
  unfolding dot
  dot-mul zero c v w = sym (mul-zero ring c)
  dot-mul (suc d) c v w = ap₂ add (ring.mul_assoc c (v d) (w d)) (dot-mul d c v w) ∙ sym (ring.mul_add c _ _)

  pub zero-mul : {c : F} → c ≡ 𝟘 → (a : F) → mul c a ≡ 𝟘
  zero-mul {c} z a = ring.mul_comm c a ∙ ap (mul a) z ∙ mul-zero ring a

  pub dot-none : (d : ℕ) (v w : ℕ → F) → ((k : ℕ) → k < d → v k ≡ 𝟘) → dot R d v w ≡ 𝟘
  unfolding dot
  dot-none zero v w z = refl
  dot-none (suc d) v w z = ap₂ add (zero-mul (z d (omega arith)) (w d)) (dot-none d v w (λ k h. z k (omega arith))) ∙ ring.add_zero 𝟘

  pub dot-only : (d s : ℕ) (v w : ℕ → F) → s < d → v s ≡ 𝟙 → ((k : ℕ) → k < d → ¬ (k ≡ s) → v k ≡ 𝟘) → dot R d v w ≡ w s
  unfolding dot self
  dot-only zero s v w h o z = absurd (omega arith)
  dot-only (suc d) s v w h o z = by_cases (ℕ_discrete s d)
      (λ e. ap₂ add (ap (λ k. mul (v k) (w k)) (sym e) ∙ ap (λ x. mul x (w s)) o ∙ (self ring).act_one (w s)) (dot-none d v w (λ k l. z k (omega arith) (omega arith))) ∙ ring.add_zero (w s))
      (λ n. ap₂ add (zero-mul (z d (omega arith) (λ e. n (sym e))) (w d)) (dot-only d s v w (omega arith) o (λ k l. z k (omega arith))) ∙ zero-add ring (w s))

  pub dot-assoc : (d e : ℕ) (w : ℕ → F) (C : ℕ → ℕ → F) (v : ℕ → F) → dot R d (λ r. dot R e w (λ s. C s r)) v ≡ dot R e w (λ s. dot R d (C s) v)
  unfolding dot
  dot-assoc d zero w C v = dot-none d (λ _. 𝟘) v (λ k h. refl)
  dot-assoc d (suc e) w C v = dot-add d (λ r. mul (w e) (C e r)) (λ r. dot R e w (λ s. C s r)) v ∙ ap₂ add (dot-mul d (w e) (C e) v) (dot-assoc d e w C v)
