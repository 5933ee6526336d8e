-- Sums of products of numbers over the numbers below d, and their residues.
--   dot_product d v w        Σ v(k)·w(k) over k < d
--   total-more, total-none   its remainder, one product more, and one of 0
--   residue-total            the residue of such a sum is the sum of the residues' products
use mathlib.Core.Path.{◌≡◌, sym, ◌∙◌, ap, ap₂}
use Prim.Native.Nat.{ℕ, zero, suc, ◌+◌, ◌*◌, ◌%◌, ◌<◌}
use native.Mathlib.Nat.{add_comm, mod-add-mod}
use native.Mathlib.Numerals.{add-one}
use native.Mathlib.Omega.{arith}
use Rattle.residue.specs.Field.{modulo, residue}
use Rattle.residue.proofs.Residues.{residue-add, residue-mul, residue-zero}
use Rattle.groebner.specs.MultiplicationRows.{dot}

-- Σ v(k)·w(k) over k < d
unfoldable pub dot_product : ℕ → (ℕ → ℕ) → (ℕ → ℕ) → ℕ
dot_product zero v w = 0
dot_product (suc d) v w = v d * w d + dot_product d v w

pub total-more : (p d : ℕ) (v w : ℕ → ℕ) → (dot_product d v w % p + v d * w d) % p ≡ dot_product (d + 1) v w % p
unfolding dot_product
total-more p d v w = mod-add-mod (dot_product d v w) p (v d * w d) ∙ ap (◌% p) (add_comm _ _) ∙ ap (λ n. dot_product n v w % p) (sym (add-one d))

pub total-none : (d : ℕ) (v w : ℕ → ℕ) → v d ≡ 0 → dot_product d v w ≡ dot_product (d + 1) v w
unfolding dot_product
total-none d v w e = sym (rw e (omega arith)) ∙ ap (λ n. dot_product n v w) (sym (add-one d))

module _ (p : ℕ) (h : 1 < p) where
  pub residue-total : (d : ℕ) (v w : ℕ → ℕ) → residue p h (dot_product d v w) ≡ dot (modulo p h) d (λ k. residue p h (v k)) (λ k. residue p h (w k))
  unfolding dot_product dot
  residue-total zero v w = residue-zero p h
  residue-total (suc d) v w = residue-add p h (v d * w d) (dot_product d v w) ∙ ap₂ (modulo p h).add (residue-mul p h (v d) (w d)) (residue-total d v w)
