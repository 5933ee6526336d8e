-- Exponents in the array of a monomial: one that is read, and one that is stored.
--   exponent-read         what stands at the place of a variable is its exponent
--   ExponentPut m i x r   r has the exponent x of variable i, and the other exponents of m
--   exponent-put          so has m after the store
use mathlib.Core.Path.{◌≡◌, sym, ◌∙◌, ap}
use Prim.Native.Nat.{ℕ, ◌<◌}
use lib.ListN.{length, get_or, set}
use lib.Seq.{get_or-set_same, get_or-set_other}
use Rattle.monomial.specs.Rows.{exponent}
use Rattle.monomial.specs.Represented.{row}
use Rattle.monomial.specs.declared.Exponent.{Exponent}
use Rattle.monomial.specs.declared.Monomial.{Monomial}
use Rattle.monomial.proofs.Places.{exponent-row}

pub exponent-read : (n i : ℕ) (m : Monomial) → i < n → (get_or m.e i (record { 0 = 0 })).0 ≡ exponent n (row n m) i
unfolding row
exponent-read n i m h = sym (exponent-row n i m.e h)

-- The monomial r is m but for the exponent x of variable i.
pub record ExponentPut (m : Monomial) (i x : ℕ) (r : Monomial) : Type 0 where
  pub here : (n : ℕ) → i < n → exponent n (row n r) i ≡ x
  pub elsewhere : (n j : ℕ) → j < n → ¬ (j ≡ i) → exponent n (row n r) j ≡ exponent n (row n m) j

pub exponent-put : (m : Monomial) (i : ℕ) (x : Exponent) → i < length m.e → ExponentPut m i x.0 (record { e = set m.e i x })
unfolding row
exponent-put m i x g = record {
  here = λ n h. exponent-row n i (set m.e i x) h ∙ ap (λ (y : Exponent). y.0) (get_or-set_same m.e i x (record { 0 = 0 }) g);
  elsewhere = λ n j h d. exponent-row n j (set m.e i x) h ∙ ap (λ (y : Exponent). y.0) (get_or-set_other m.e i j x (record { 0 = 0 }) d)
      ∙ sym (exponent-row n j m.e h);
}
