-- Values of the code with one exponent changed.
--   with-with         of two changes of one exponent the later counts
--   clear-below       clearing raises no exponent
--   carried-below     a carry raises each exponent by one at most
--   exponent-held     what stands at place v of the value with the exponents a
--   stored_at v x r   r with x stored at place v
--   raised_at v r     r with the exponent at place v raised by one
--   stored-with       after a store at place v the value with the exponents a has that exponent of v
--   raised-raise      after it was raised at place v the value holds x_v·a
use mathlib.Core.Path.{◌≡◌, refl, sym, ◌∙◌, ap}
use mathlib.Core.List.{List, [], ◌∷◌, ◌++◌}
use Prim.Native.Nat.{ℕ, zero, suc, ◌+◌, ◌≤◌, ◌<◌}
use native.Mathlib.Decide.{ℕ_discrete}
use native.Mathlib.Numerals.{add-one}
use native.Mathlib.Omega.{arith}
use lib.ListN.{get_or, set}
use Rattle.monomial.specs.Rows.{Row, exponent}
use Rattle.monomial.specs.Represented.{row, exponent_list, monomial}
use Rattle.monomial.specs.declared.Exponent.{Exponent}
use Rattle.monomial.specs.declared.Monomial.{Monomial}
use Rattle.monomial.proofs.Places.{exponent-row, row-monomial}
use Rattle.groebner.specs.Next.{with_exponent, raise, clear, carried}
use Rattle.groebner.proofs.Exponents.{with-zero, with-other, raise-same, raise-other}

pub with-with : (n v e f : ℕ) (a : Row n) → with_exponent n v e (with_exponent n v f a) ≡ with_exponent n v e a
unfolding with_exponent
with-with zero v e f a = refl
with-with (suc n) zero e f a = refl
with-with (suc n) (suc v) e f a = ap (λ b. (a.0, b)) (with-with n v e f a.1)

zero-below : (n v : ℕ) (a : Row n) (i : ℕ) → exponent n (with_exponent n v 0 a) i ≤ exponent n a i
zero-below n v a i = at (ℕ_discrete i v)
  where
    at : Dec (i ≡ v) → exponent n (with_exponent n v 0 a) i ≤ exponent n a i
    at (yes e) = rw e (omega (arith, with-zero n v a))
    at (no q) = omega (arith, with-other n v 0 a i q)

pub clear-below : (n : ℕ) (s : List ℕ) (a : Row n) (i : ℕ) → exponent n (clear n s a) i ≤ exponent n a i
unfolding clear
clear-below n [] a i = omega arith
clear-below n (v ∷ s) a i = omega (arith, zero-below n v (clear n s a) i, clear-below n s a i)

pub carried-below : (n v : ℕ) (s : List ℕ) (a : Row n) → v < n → (i : ℕ) → exponent n (carried n v s a) i ≤ suc (exponent n a i)
unfolding carried
carried-below n v s a h i = at (ℕ_discrete i v)
  where
    at : Dec (i ≡ v) → exponent n (raise n v (clear n s a)) i ≤ suc (exponent n a i)
    at (yes e) = rw e (omega (arith, raise-same n v (clear n s a) h, clear-below n s a v))
    at (no q) = omega (arith, raise-other n v (clear n s a) i q, clear-below n s a i)

pub exponent-held : (n v : ℕ) (a : Row n) → v < n → (get_or (monomial n a).e v (record { 0 = 0 })).0 ≡ exponent n a v
unfolding row
exponent-held n v a h = sym (exponent-row n v (monomial n a).e h) ∙ ap (λ b. exponent n b v) (row-monomial n a)

-- r with x stored at place v.
abbrev pub stored_at : ℕ → Exponent → Monomial → Monomial
stored_at v x r = record { e = set r.e v x }

-- r with the exponent at place v raised by one.
abbrev pub raised_at : ℕ → Monomial → Monomial
raised_at v r = stored_at v (record { 0 = (get_or r.e v (record { 0 = 0 })).0 + 1 }) r

set-with : (n v : ℕ) (x : Exponent) (a : Row n) (z : List Exponent) → v < n → set (exponent_list n a ++ z) v x ≡ exponent_list n (with_exponent n v x.0 a) ++ z
unfolding exponent_list with_exponent
set-with zero v x a z h = absurd (omega arith)
set-with (suc n) zero x a z h = refl
set-with (suc n) (suc v) x a z h = ap (λ l. record { 0 = a.0 } ∷ l) (set-with n v x a.1 z (omega arith))

pub stored-with : (n v : ℕ) (x : Exponent) (a : Row n) → v < n → stored_at v x (monomial n a) ≡ monomial n (with_exponent n v x.0 a)
unfolding monomial
stored-with n v x a h = ap (λ l. record { e = l }) (set-with n v x a _ h)

pub raised-raise : (n v : ℕ) (a : Row n) → v < n → raised_at v (monomial n a) ≡ monomial n (raise n v a)
unfolding raise
raised-raise n v a h = stored-with n v _ a h ∙ ap (λ e. monomial n (with_exponent n v e a)) (add-one _ ∙ ap suc (exponent-held n v a h))
