-- A result r whose error was replaced by another, as s.
--   kept-value     a value of s is that of r
--   old-error      an error of s was made of that of r
use mathlib.Core.Path.{◌≡◌, refl, sym, ◌∙◌}
use native.Mathlib.Omega.{arith}
use Prim.Native.Nat.{ℕ}
use Rattle.std.specs.Prelude.{Result, Ok, Err, MatchResult, IsErrAnd}

module _ {T E D : Type 0} (r : Result T E) (s : Result T D) (Q : E → D → Type 0) (cases : MatchResult r (λ x. s ≡ Ok x) (λ e. IsErrAnd s (Q e))) where
  pub kept-value : {x : T} → s ≡ Ok x → r ≡ Ok x
  kept-value = at r cases
    where
      at : (r : Result T E) → MatchResult r (λ x. s ≡ Ok x) (λ e. IsErrAnd s (Q e)) → {x : T} → s ≡ Ok x → r ≡ Ok x
      at (Ok y) e q = let z : ◌≡◌ {A = Result T D} (Ok y) (Ok _) = sym e ∙ q in cc
      at (Err e) q p = absurd (rw p at q)

  pub old-error : {d : D} → s ≡ Err d → (e : E) × (r ≡ Err e) × Q e d
  old-error = at r cases
    where
      at : (r : Result T E) → MatchResult r (λ x. s ≡ Ok x) (λ e. IsErrAnd s (Q e)) → {d : D} → s ≡ Err d → (e : E) × (r ≡ Err e) × Q e d
      at (Ok y) e p = let n : ◌≡◌ {A = Result T D} (Ok y) (Err _) = sym e ∙ p in let z : ◌≡◌ {A = ℕ} 0 1 = cc in absurd (omega arith)
      at (Err e) q p = (e, refl, rw p at q)
