-- The residues modulo p are a commutative ring, and modulo a prime a field.
--   residue-ring    the laws of a commutative ring
--   residue-field   the laws of a field
use mathlib.Core.Path.{◌≡◌, ap}
use mathlib.Core.Logic.{◌≢◌}
use mathlib.Core.HLevel.{Σ_prop_discrete, hedberg}
use Prim.Native.Nat.{ℕ, ◌<◌}
use native.Mathlib.Bridge.{le_prop}
use native.Mathlib.Decide.{ℕ_discrete}
use native.Mathlib.Omega.{arith}
use Rattle.residue.specs.Prime.{Prime}
use Rattle.residue.specs.Field.{ZMod, modulo}
use Rattle.residue.specs.RingLaws.{Ring, Field}
use Rattle.residue.proofs.ModularLaws.{sum-assoc, sum_comm, sum-zero, negation-sum, product_mod-assoc, product_mod-comm, product-one, product-sum}
use Rattle.residue.proofs.Residues.{residue-same}
use Rattle.residue.proofs.Inverses.{reciprocal-exists}

residue-discrete : (p : ℕ) → Discrete (ZMod p)
residue-discrete p = Σ_prop_discrete (λ x. le_prop) ℕ_discrete

pub residue-ring : (p : ℕ) (h : 1 < p) → Ring (modulo p h)
unfolding modulo
residue-ring p h = record {
  is_set = hedberg (residue-discrete p);
  add_assoc = λ a b c. residue-same (sum-assoc p a.0 b.0 c.0);
  add_comm = λ a b. residue-same (sum_comm p a.0 b.0);
  add_zero = λ a. residue-same (sum-zero p a.0 a.1);
  add_neg = λ a. residue-same (negation-sum p a.0 a.1);
  mul_assoc = λ a b c. residue-same (product_mod-assoc p a.0 b.0 c.0);
  mul_comm = λ a b. residue-same (product_mod-comm p a.0 b.0);
  mul_one = λ a. residue-same (product-one p a.0 a.1);
  mul_add = λ a b c. residue-same (product-sum p a.0 b.0 c.0);
}

pub residue-field : (p : ℕ) (prime : Prime p) → Field (modulo p prime.above_one)
unfolding modulo
residue-field p prime = record {
  ring = residue-ring p prime.above_one;
  decide = residue-discrete p;
  nontrivial = λ e. let z : ◌≡◌ {A = ℕ} 1 0 = ap (λ (x : ZMod p). x.0) e in omega arith;
  reciprocal = λ a n.
      let m : a.0 ≢ 0 = λ e. n (residue-same e) in
      let (b, s) = reciprocal-exists p prime a.0 (omega arith) a.1 in
      ((b, s.below), residue-same s.inverse);
}
