-- The numbers of the refusals by checks 2 to 11.
--   OfText k           k is a number from 2 to 11
--   checked-number     a refusal by these checks has such a number
use mathlib.Core.Path.{◌≡◌}
use mathlib.Core.List.{List, [], ◌∷◌}
use mathlib.Core.Logic.{◌⊎◌, inl, inr}
use mathlib.Core.Option.{Option, none, some}
use Prim.Native.Nat.{ℕ, suc, ◌≤◌}
use native.Mathlib.Omega.{arith}
use Rattle.lists.specs.Lists.{Bytes}
use Rattle.answer.specs.Outcomes.{Judged, refused}
use Rattle.lines.specs.Terms.{Term}
use Rattle.checks.specs.Checks.{Basis, check_header, check_term, check_terms, check_generator, check_end, Remaining, malformed, generator_refused, generator_passed, end_refused, after_end, complete, Checked, malformed_header, header_refused, header_passed}

abbrev pub OfText : ℕ → Type 0
OfText k = (2 ≤ k) × (k ≤ 11)

-- A check that refuses with k, and those after it.
one-check : {P Later : Type 0} {number : ℕ} (k : ℕ) → OfText k → (Later → OfText number) → (P × (◌≡◌ {A = Option ℕ} (some number) (some k))) ⊎ ((¬ P) × Later) → OfText number
one-check {number = number} k h n (inl (x, e)) = let same : number ≡ k = cc in omega arith
one-check k h n (inr (x, l)) = n l

no-check : {number : ℕ} → ◌≡◌ {A = Option ℕ} (some number) none → OfText number
no-check e = let z : ◌≡◌ {A = ℕ} 0 1 = cc in absurd (omega arith)

header-number : (order : Bytes) (p n number : ℕ) → check_header order p n (some number) → OfText number
header-number order p n number = one-check 3 (omega arith) (one-check 4 (omega arith) (one-check 5 (omega arith) no-check))

term-number : {Later : Type 0} (p number : ℕ) (t : Term) → (Later → OfText number) → check_term p t (λ _. Later) (some number) → OfText number
term-number p number t later = one-check 6 (omega arith) (one-check 7 (omega arith) later)

terms-number : (p n j : ℕ) (before : Term) (ts : List Term) (number : ℕ) → check_terms p n j before ts (some number) → OfText number
terms-number p n j before [] number c = no-check c
terms-number p n j before (t ∷ ts) number c = one-check 10 (omega arith) (term-number p number t (one-check 8 (omega arith) (terms-number p n (suc j) t ts number))) c

generator-number : (p n k : ℕ) (ts : List Term) (number : ℕ) → check_generator p n k ts (some number) → OfText number
generator-number p n k [] number c = let same : number ≡ 2 = cc in omega arith
generator-number p n k (t ∷ ts) number c = one-check 10 (omega arith) (term-number p number t (one-check 9 (omega arith) (terms-number p n 2 t ts number))) c

end-number : (k count number : ℕ) → check_end k count (some number) → OfText number
end-number k count number = one-check 11 (omega arith) no-check

-- Of two refusals that are one, the numbers.
same_number : (number line k at : ℕ) → OfText k → ◌≡◌ {A = Judged Basis} (refused number line) (refused k at) → OfText number
same_number number line k at h e = let same : number ≡ k = cc in omega arith

remaining-number : (number line : ℕ) {p n : ℕ} {got : List (List Term)} {s : Bytes} → Remaining p n (refused number line) got s → OfText number
remaining-number number line (malformed m e) = same_number number line _ _ (omega arith) e
remaining-number number line {p} {n} (generator_refused {terms = terms} k f c e) = same_number number line k _ (generator-number p n _ terms k c) e
remaining-number number line (generator_passed f c r) = remaining-number number line r
remaining-number number line (end_refused {count = count} k f c e) = same_number number line k _ (end-number _ count k c) e
remaining-number number line (after_end f c m e) = same_number number line _ _ (omega arith) e
remaining-number number line (complete f c e) = let z : ◌≡◌ {A = ℕ} 0 1 = cc in absurd (omega arith)

pub checked-number : (number line : ℕ) (s : Bytes) → Checked s (refused number line) → OfText number
checked-number number line s (malformed_header m e) = same_number number line _ _ (omega arith) e
checked-number number line s (header_refused {order} {p} {n} k f c e) = same_number number line k _ (header-number order p n k c) e
checked-number number line s (header_passed f c r) = remaining-number number line r
