-- Residues and monomials as the theory asks for them, with decisions and reciprocals that compute.
--   ComputedResidues, computed     the residues modulo p and their operations; h, that p is above 1
--   computed_field                 the residues as a field
--   candidate, computed_inverse    a reciprocal, found by a search; inverse-law
--   computed_laws, computed_ring   the monomials in n variables, and both together
use mathlib.Core.Path.{◌≡◌, ◌∙◌}
use mathlib.Core.Bool.{true, false}
use Prim.Native.Nat.{ℕ, zero, suc, ◌*◌, ◌%◌, ◌<◌}
use lib.Dec.{eqb}
use Rattle.residue.specs.Prime.{Prime}
use Rattle.residue.specs.Field.{Arithmetic, ZMod, modulo, residue}
use Rattle.residue.specs.RingLaws.{Field}
use Rattle.residue.proofs.ResidueField.{residue-ring, residue-field}
use Rattle.monomial.specs.Quotients.{lcm}
use Rattle.monomial.specs.Ordering.{monomials}
use Rattle.monomial.proofs.OrderLaws.{MonomialLaws}
use Rattle.monomial.proofs.Products.{rows-laws, lcm-least}
use Rattle.groebner.proofs.Ground.{PolynomialRing}
use Rattle.groebner.proofs.Computing.{residue?, divides?}

-- The last b up to k with a·b = 1 modulo p, or 0.
unfoldable pub candidate : (p a k : ℕ) → ℕ
candidate p a zero = 0
candidate p a (suc k) = elim (eqb (a * suc k % p) 1) [ true ↦ suc k | false ↦ candidate p a k ]

module _ (p : ℕ) (prime : Prime p) where
  -- A prime is above 1.
  abbrev pub h : 1 < p
  h = prime.above_one

  -- The residues.
  abbrev pub ComputedResidues : Type 0
  ComputedResidues = ZMod p

  -- Their operations.
  abbrev pub computed : Arithmetic ComputedResidues
  computed = modulo p h

  -- The residues as a field, with a decision of equality that computes.
  unfoldable pub computed_field : Field computed
  unfolding residue?
  computed_field = let f : Field computed = residue-field p prime in record { ring = residue-ring p h; decide = residue? p; nontrivial = f.nontrivial; reciprocal = f.reciprocal }

  -- Some reciprocal of c, if c is not zero.
  some-inverse : (c : ComputedResidues) → Dec (c ≡ computed.zero) → ComputedResidues
  some-inverse c (yes z) = computed.zero
  some-inverse c (no n) = ((residue-field p prime).reciprocal c n).0

  -- The candidate b, if it is a reciprocal of c.
  checked-inverse : (b c : ComputedResidues) → Dec (computed.mul b c ≡ computed.one) → ComputedResidues
  checked-inverse b c (yes e) = b
  checked-inverse b c (no n) = some-inverse c (residue? p c computed.zero)

  -- A reciprocal of c, if c is not zero.
  unfoldable pub computed_inverse : ComputedResidues → ComputedResidues
  unfolding candidate residue residue? modulo checked-inverse some-inverse
  computed_inverse c = checked-inverse (residue p h (candidate p c.0 p)) c (residue? p (computed.mul (residue p h (candidate p c.0 p)) c) computed.one)

  checked-law : (b c : ComputedResidues) (d : Dec (computed.mul b c ≡ computed.one)) → ¬ (c ≡ computed.zero) → computed.mul (checked-inverse b c d) c ≡ computed.one
  unfolding checked-inverse some-inverse
  checked-law b c (yes e) n = e
  checked-law b c (no m) n = at (residue? p c computed.zero)
    where
      at : (d : Dec (c ≡ computed.zero)) → computed.mul (some-inverse c d) c ≡ computed.one
      at (yes z) = absurd (n z)
      at (no k) = (residue-ring p h).mul_comm _ c ∙ ((residue-field p prime).reciprocal c k).1

  pub computed-inverse-law : (c : ComputedResidues) → ¬ (c ≡ computed.zero) → computed.mul (computed_inverse c) c ≡ computed.one
  unfolding computed_inverse
  computed-inverse-law c = checked-law (residue p h (candidate p c.0 p)) c (residue? p (computed.mul (residue p h (candidate p c.0 p)) c) computed.one)

-- The monomials in n variables.
unfoldable pub computed_laws : (n : ℕ) → MonomialLaws (monomials n)
unfolding divides? lcm
computed_laws n = let l : MonomialLaws (monomials n) = rows-laws n in
    record { mul_assoc = l.mul_assoc; mul_comm = l.mul_comm; one_mul = l.one_mul; divides? = divides? n; lcm = λ a b. (lcm n a b, lcm-least n a b) }

-- Both together.
unfoldable pub computed_ring : (p : ℕ) (prime : Prime p) (n : ℕ) → PolynomialRing (computed p prime) (monomials n)
unfolding computed_field computed_laws
computed_ring p prime n = record { field = computed_field p prime; monoid = computed_laws n }
