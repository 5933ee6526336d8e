-- The residues that numbers stand for.
--   residue-same                residues that are equal as numbers are equal
--   residue-zero, residue-one   the residues of 0 and 1
--   residue-add, residue-mul    the residues of a sum and of a product
--   residue-mod                 a number and its remainder have the same residue
--   residue-below               a number below p is its own residue
--   residue-times               the residue of a product that was reduced
--   residue-negation            the residue of - a
--   residue-nonzero             a number below p whose residue is zero is 0
--   residue-injective           numbers below p with the same residue are equal
use mathlib.Core.Path.{◌≡◌, sym, ◌∙◌, ap}
use mathlib.Core.HLevel.{Σ_prop_path}
use Prim.Native.Nat.{ℕ, ◌+◌, ◌-◌, ◌*◌, ◌%◌, ◌<◌}
use native.Mathlib.Bridge.{le_prop}
use native.Mathlib.Nat.{mod-eq_of_lt, add-mod, mod-mod}
use native.Mathlib.Omega.{arith}
use Rattle.residue.specs.Modular.{sum_mod, negation_mod, product_mod}
use Rattle.residue.specs.Field.{ZMod, modulo, residue}
use Rattle.residue.proofs.Remainders.{mod-mul, mul-mod}

pub residue-same : {p : ℕ} {a b : ZMod p} → a.0 ≡ b.0 → a ≡ b
residue-same e = Σ_prop_path (λ x. le_prop) e

module _ (p : ℕ) (h : 1 < p) where
  pub residue-add : (a b : ℕ) → residue p h (a + b) ≡ (modulo p h).add (residue p h a) (residue p h b)
  unfolding residue modulo sum_mod
  residue-add a b = residue-same (add-mod a b p)

  pub residue-mul : (a b : ℕ) → residue p h (a * b) ≡ (modulo p h).mul (residue p h a) (residue p h b)
  unfolding residue modulo product_mod
  residue-mul a b = residue-same (sym (mod-mul a (b % p) p ∙ mul-mod a b p))

  pub residue-zero : residue p h 0 ≡ (modulo p h).zero
  unfolding residue modulo
  residue-zero = residue-same (mod-eq_of_lt (omega arith))

  pub residue-one : residue p h 1 ≡ (modulo p h).one
  unfolding residue modulo
  residue-one = residue-same (mod-eq_of_lt h)

  pub residue-mod : (a : ℕ) → residue p h (a % p) ≡ residue p h a
  unfolding residue
  residue-mod a = residue-same (mod-mod a p)

  pub residue-below : (a : ℕ) → a < p → (residue p h a).0 ≡ a
  unfolding residue
  residue-below a l = mod-eq_of_lt l

  pub residue-times : (a b : ℕ) → residue p h (a * b % p) ≡ (modulo p h).mul (residue p h a) (residue p h b)
  residue-times a b = residue-mod (a * b) ∙ residue-mul a b

  pub residue-negation : (a : ℕ) → a < p → residue p h (negation_mod p a) ≡ (modulo p h).neg (residue p h a)
  unfolding residue modulo negation_mod
  residue-negation a l = residue-same (mod-mod (p - a) p ∙ ap (λ x. (p - x) % p) (sym (mod-eq_of_lt l)))

  pub residue-nonzero : (a : ℕ) → a < p → residue p h a ≡ (modulo p h).zero → a ≡ 0
  unfolding residue modulo
  residue-nonzero a l e = sym (mod-eq_of_lt l) ∙ ap (λ (x : ZMod p). x.0) e

  pub residue-injective : (a b : ℕ) → a < p → b < p → residue p h a ≡ residue p h b → a ≡ b
  unfolding residue
  residue-injective a b l m e = sym (mod-eq_of_lt l) ∙ ap (λ (x : ZMod p). x.0) e ∙ mod-eq_of_lt m
