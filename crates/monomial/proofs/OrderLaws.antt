-- What the theory asks of monomials and of their orders.
--   MonomialLaws 𝓜       what the theory asks of monomials
--   MonomialOrder 𝓜 lt   lt is a monomial ordering (001, definition 1.4)
--   Ranks n s            the list s ranks all n variables
use mathlib.Core.Path.{◌≡◌}
use mathlib.Core.Logic.{◌⊎◌}
use mathlib.Core.WellFounded.{WellFounded}
use mathlib.Core.List.{List, Memᴰ}
use Rattle.monomial.specs.Ordering.{Monomials, Divides, Lcm}
use Prim.Native.Nat.{ℕ, ◌<◌}

-- A commutative monoid in which divisibility is decided and least common multiples exist.
pub record MonomialLaws {M : Type 0} (𝓜 : Monomials M) : Type 0 where
  pub mul_assoc : (a b c : M) → 𝓜.mul (𝓜.mul a b) c ≡ 𝓜.mul a (𝓜.mul b c)
  pub mul_comm : (a b : M) → 𝓜.mul a b ≡ 𝓜.mul b a
  pub one_mul : (a : M) → 𝓜.mul 𝓜.one a ≡ a
  pub divides? : (a b : M) → Dec (Divides 𝓜 a b)
  pub lcm : (a b : M) → (m : M) × Lcm 𝓜 a b m

-- A monomial ordering (001, definition 1.4): total, compatible with products, and a well-ordering.
pub record MonomialOrder {M : Type 0} (𝓜 : Monomials M) (lt : M → M → Type 0) : Type 0 where
  pub total : (a b : M) → lt a b ⊎ ((a ≡ b) ⊎ lt b a)
  pub trans : {a b c : M} → lt a b → lt b c → lt a c
  pub mono : (u : M) {a b : M} → lt a b → lt (𝓜.mul u a) (𝓜.mul u b)
  pub wf : WellFounded lt

-- Each of the n variables stands in the list.
abbrev pub Ranks : ℕ → List ℕ → Type 0
Ranks n s = (i : ℕ) → i < n → Memᴰ i s
