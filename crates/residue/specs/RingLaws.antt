-- Inner contracts. Commutative rings and fields as records of laws.
--   Ring R          the laws of a commutative ring
--   Field R         the laws of a field
use Rattle.std.specs.Prelude.{◌≡◌}
use Rattle.residue.specs.Field.{Arithmetic}

-- A commutative ring.
pub record Ring {F : Type 0} (R : Arithmetic F) : Type 0 where
  pub is_set : IsSet F
  pub add_assoc : (a b c : F) → R.add (R.add a b) c ≡ R.add a (R.add b c)
  pub add_comm : (a b : F) → R.add a b ≡ R.add b a
  pub add_zero : (a : F) → R.add a R.zero ≡ a
  pub add_neg : (a : F) → R.add a (R.neg a) ≡ R.zero
  pub mul_assoc : (a b c : F) → R.mul (R.mul a b) c ≡ R.mul a (R.mul b c)
  pub mul_comm : (a b : F) → R.mul a b ≡ R.mul b a
  pub mul_one : (a : F) → R.mul a R.one ≡ a
  pub mul_add : (a b c : F) → R.mul a (R.add b c) ≡ R.add (R.mul a b) (R.mul a c)

-- A field: a commutative ring in which equality is decided, one is not zero, and what is not zero has a reciprocal.
pub record Field {F : Type 0} (R : Arithmetic F) : Type 0 where
  pub ring : Ring R
  pub decide : (a b : F) → Dec (a ≡ b)
  pub nontrivial : ¬ (R.one ≡ R.zero)
  pub reciprocal : (a : F) → ¬ (a ≡ R.zero) → (b : F) × (R.mul a b ≡ R.one)
