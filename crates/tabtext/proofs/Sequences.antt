-- Answers of readers in sequence, at places of a text.
--   reading-then     a value after what was read
--   number-after     the same for the answer of a reader of numbers
--   row-after        a term: its row after its coefficient
--   no-row-after     a coefficient, and no row after it
--   exponent-first   the first exponent is a number
--   exponent-later   a later exponent is a number after a dot
use Prim.Native.Nat.{ℕ, zero, suc, ◌≤◌, ◌<◌}
use mathlib.Core.Path.{◌≡◌, refl, ◌∙◌}
use mathlib.Core.List.{List}
use native.Mathlib.Omega.{arith}
use lib.ListN.{length, take, drop}
use Rattle.std.specs.Prelude.{Option, Some, None}
use Rattle.lists.specs.Lists.{Bytes}
use Rattle.tabtext.specs.Readers.{got, bad, Reader, pure, ◌>>=◌, ◌>>◌, read_number, read_field, read_exponent, read_term}
use Rattle.tabtext.specs.Answers.{Reading, NumberSays, NextSays, RowSays}
use Rattle.tabtext.proofs.Steps.{then-got, then-bad, after-got}

pub reading-then : {A B : Type 0} (r : Reader A) (next : A → Reader B) (s : Bytes) (at : ℕ) {i k : ℕ} {a : A} {b : B} →
    Reading r s at a i → next a (drop i s) ≡ got b (drop k s) → i < k → k ≤ length s → Reading (r >>= next) s at b k
reading-then r next s at h e p q = record { reads = then-got r next (drop at s) h.reads ∙ e; after = omega (arith, h.after); inside = q }

pub number-after : {A : Type 0} (r : Reader A) (next : Reader ℕ) (s : Bytes) (at i : ℕ) (x : Option (ℕ × ℕ)) →
    NextSays r s at (Some i) → NumberSays next s i x → NumberSays (r >> next) s at x
unfolding ◌>>◌
number-after r next s at i (Some (v, k)) h g = reading-then r (λ _. next) s at h.1 g.reads g.after g.inside
number-after r next s at i None h g = after-got r next (drop at s) h.1.reads ∙ g

pub row-after : (n : ℕ) (s : Bytes) (at i k c : ℕ) (row : List ℕ) →
    NumberSays read_number s at (Some (c, i)) → RowSays n 58 s i (Some (row, k)) → Reading (read_term n) s at (c, take n row) k
unfolding pure read_term
row-after n s at i k c row h g = reading-then _ _ _ _ h (then-got _ _ _ g.reads) g.after g.inside

pub no-row-after : (n : ℕ) (s : Bytes) (at i c : ℕ) → NumberSays read_number s at (Some (c, i)) → RowSays n 58 s i None → read_term n (drop at s) ≡ bad
unfolding pure read_term
no-row-after n s at i c h g = then-got _ _ _ h.reads ∙ then-bad _ _ _ g

pub exponent-first : (j : ℕ) → j ≡ 0 → read_exponent j ≡ read_number
unfolding read_exponent
exponent-first j e = rw e

pub exponent-later : (j : ℕ) → (j ≡ 0 → ⊥) → read_exponent j ≡ read_field 46
unfolding read_exponent
exponent-later zero e = absurd (e refl)
exponent-later (suc j) e = refl
