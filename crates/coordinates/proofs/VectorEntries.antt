-- Lists of residues, from the entries of vectors of the code.
--   past_end             past the end of a vector there are zeros
--   below-of             coefficients are below p at all places where they are at those of the vector
--   residue-less         the residue of a + (p - c)·b is that of a - c·b
--   vector-entry         an entry of a vector as a residue
--   length-vector        as many as the vector has
--   vector-is            the list of a vector, by its entries
--   subtracted-entries   a - c·b, by its entries
--   multiplied-entries   c·a, by its entries
--   subtracted-none      a - 0·b is a
use mathlib.Core.Path.{◌≡◌, sym, ◌∙◌, ap, ap₂}
use mathlib.Core.List.{List, map}
use mathlib.Core.Logic.{by_cases}
use Prim.Native.Nat.{ℕ, ◌+◌, ◌-◌, ◌*◌, ◌%◌, ◌<◌, ◌≤◌}
use native.Mathlib.Nat.{add-mod, mod-mod, add-mul-mod_self_left, mod-eq_of_lt}
use native.Mathlib.Decide.{dec_lt}
use native.Mathlib.Omega.{arith}
use lib.ListN.{length, get_or, length-map, get_or-map, get_or-eq_default}
use lib.Seq.{ext_get_or}
use Rattle.residue.specs.Modular.{sum_mod, negation_mod}
use Rattle.residue.specs.Field.{ZMod, modulo, residue}
use Rattle.residue.specs.declared.Residue.{Residue}
use Rattle.residue.proofs.ResidueField.{residue-ring}
use Rattle.residue.proofs.Residues.{residue-same, residue-mod, residue-zero, residue-times, residue-negation}
use Rattle.groebner.proofs.Modules.{self, neg-act}
use Rattle.groebner.proofs.CoefficientRows.{length-subtract-same, length-multiply, entry-subtract, entry-multiply}
use Rattle.lines.specs.Sizes.{most_standard}
use Rattle.coordinates.specs.Vectors.{coordinate, Below, vector, FullLength, Represents, subtracted, multiplied}
use Rattle.coordinates.specs.declared.Coordinates.{Coordinates}

pub past_end : (w : Coordinates) (k : ℕ) → length w.c ≤ k → coordinate w k ≡ 0
past_end w k l = ap (λ (x : Residue). x.0) (get_or-eq_default w.c (record { 0 = 0 }) l)

module _ (p : ℕ) (h : 1 < p) where
  residue-plus : (a b : ℕ) → residue p h ((a + b) % p) ≡ (modulo p h).add (residue p h a) (residue p h (b % p))
  unfolding residue modulo sum_mod
  residue-plus a b = residue-same (mod-mod (a + b) p ∙ add-mod a b p ∙ ap (λ x. (a % p + x) % p) (sym (mod-mod b p)))

  residue-opposite : (c : ℕ) → c < p → residue p h (p - c) ≡ (modulo p h).neg (residue p h c)
  unfolding negation_mod
  residue-opposite c l = sym (residue-mod p h (p - c)) ∙ residue-negation p h c l

  pub residue-less : (a c b : ℕ) → c < p → residue p h ((a + (p - c) * b) % p) ≡ (modulo p h).add (residue p h a) ((modulo p h).neg ((modulo p h).mul (residue p h c) (residue p h b)))
  unfolding self
  residue-less a c b l = residue-plus a ((p - c) * b)
      ∙ ap ((modulo p h).add (residue p h a)) (residue-times p h (p - c) b
      ∙ ap (λ x. (modulo p h).mul x (residue p h b)) (residue-opposite c l) ∙ neg-act (self (residue-ring p h)) (residue p h c) (residue p h b))

  pub vector-entry : (w : Coordinates) (k : ℕ) → get_or (vector p h w) k (modulo p h).zero ≡ residue p h (coordinate w k)
  unfolding vector
  vector-entry w k = ap (get_or (map (λ x. residue p h x.0) w.c) k) (sym (residue-zero p h)) ∙ get_or-map (λ (x : Residue). residue p h x.0) w.c k (record { 0 = 0 })

  pub length-vector : (w : Coordinates) → length (vector p h w) ≡ length w.c
  unfolding vector
  length-vector w = length-map w.c (λ x. residue p h x.0)

  pub vector-is : (w : Coordinates) (l : List (ZMod p)) → length w.c ≡ length l → ((k : ℕ) → k < length l → residue p h (coordinate w k) ≡ get_or l k (modulo p h).zero) → vector p h w ≡ l
  vector-is w l s e = ext_get_or (modulo p h).zero (vector p h w) l (length-vector w ∙ s) (λ k m. vector-entry w k ∙ e k (omega (arith, length-vector w)))

pub below-of : (p : ℕ) (w : Coordinates) → FullLength w → 0 < p → ((k : ℕ) → k < most_standard → coordinate w k < p) → Below p w
below-of p w whole o b = record { below = λ k. by_cases (dec_lt k most_standard) (b k) (λ m. omega (arith, past_end w k (omega (arith, whole)))) }

module _ (p : ℕ) (r : Coordinates) (whole : FullLength r) (o : 0 < p) where
  pub subtracted-entries : (a b : Coordinates) (c : ℕ) → FullLength a → FullLength b → c < p
      → ((k : ℕ) → k < most_standard → coordinate r k ≡ (coordinate a k + (p - c) * coordinate b k) % p) → Represents p r (subtracted p a c b)
  subtracted-entries a b c u v m e = record {
    whole = whole;
    below = below-of p r whole o (λ k l. omega (arith, e k l));
    residues = λ h. vector-is p h r _ (whole ∙ sym (size h)) (λ k l. ap (residue p h) (e k (omega (arith, l, size h)))
        ∙ residue-less p h (coordinate a k) c (coordinate b k) m
        ∙ sym (entry-subtract (residue-ring p h) (vector p h a) (residue p h c) (vector p h b) k
        ∙ ap₂ (λ x y. (modulo p h).add x ((modulo p h).neg ((modulo p h).mul (residue p h c) y))) (vector-entry p h a k) (vector-entry p h b k)));
  }
    where
      size : (h : 1 < p) → length (subtracted p a c b h) ≡ most_standard
      size h = length-subtract-same (modulo p h) (vector p h a) (residue p h c) (vector p h b) (length-vector p h a ∙ u ∙ sym (length-vector p h b ∙ v)) ∙ length-vector p h a ∙ u

  pub multiplied-entries : (a : Coordinates) (c : ℕ) → FullLength a
      → ((k : ℕ) → k < most_standard → coordinate r k ≡ c * coordinate a k % p) → Represents p r (multiplied p c a)
  multiplied-entries a c u e = record {
    whole = whole;
    below = below-of p r whole o (λ k l. omega (arith, e k l));
    residues = λ h. vector-is p h r _ (whole ∙ sym (size h)) (λ k l. ap (residue p h) (e k (omega (arith, l, size h)))
        ∙ residue-times p h c (coordinate a k)
        ∙ sym (entry-multiply (residue-ring p h) (residue p h c) (vector p h a) k ∙ ap ((modulo p h).mul (residue p h c)) (vector-entry p h a k)));
  }
    where
      size : (h : 1 < p) → length (multiplied p c a h) ≡ most_standard
      size h = length-multiply (modulo p h) (residue p h c) (vector p h a) ∙ length-vector p h a ∙ u

pub subtracted-none : (p : ℕ) (a b : Coordinates) (c : ℕ) → FullLength a → FullLength b → Below p a → c < p → c ≡ 0 → Represents p a (subtracted p a c b)
subtracted-none p a b c u v m l e = subtracted-entries p a u (omega arith) a b c u v l (λ k _. sym (same (coordinate a k) (coordinate b k) (m.below k)))
  where
    same : (x y : ℕ) → x < p → (x + (p - c) * y) % p ≡ x
    same x y h = let d : p - c ≡ p = omega arith in rw d (add-mul-mod_self_left x p y ∙ mod-eq_of_lt h)
