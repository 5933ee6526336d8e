-- The test of `is_detour`, and a search among the variables.
--   detour-iff      the place of w less x says whether that is a rank of the list
--   Blocked         none of the variables before x_j passes
--   blocked-none, blocked-more, blocked-all
use mathlib.Core.Path.{◌≡◌, refl}
use mathlib.Core.Bool.{Bool, true, false, not}
use mathlib.Core.List.{List}
use mathlib.Core.Logic.{◌↔◌}
use Prim.Native.Nat.{ℕ, ◌+◌, ◌-◌, ◌≤◌, ◌<◌}
use native.Mathlib.Omega.{arith}
use borrow.Author.Count.{below_more}
use lib.ListN.{length}
use Rattle.std.specs.Prelude.{Option, Some, None}
use Rattle.std.specs.Option.{is_some}
use Rattle.lists.proofs.Testing.{false-not-true}
use Rattle.monomial.specs.Ranks.{FirstRank}
use Rattle.multiplication.specs.Rules.{PassesBy}

pub detour-iff : {ranks : List ℕ} {e w x : ℕ} → ¬ (e ≡ 0) → (r : Option ℕ) (b : Bool)
    → FirstRank ranks (length ranks) (w - x) r → is_some r ≡ not b → (b ≡ true) ↔ PassesBy ranks e w x
detour-iff h None true first q = (λ u. record { divisor = omega arith; outside = first.none refl }, λ a. refl)
detour-iff h None false first q = absurd cc
detour-iff h (Some k) true first q = absurd cc
detour-iff h (Some k) false first q = let p = first.some k refl in (λ u. cc, λ a. absurd (a.outside k p.within p.found))

pub record Blocked (n : ℕ) (P : ℕ → Type 0) (j : ℕ) : Type 0 where
  pub within : j ≤ n
  pub none : (k : ℕ) → k < j → ¬ P k

pub blocked-none : {n : ℕ} {P : ℕ → Type 0} → Blocked n P 0
blocked-none = record { within = omega arith; none = λ k h. absurd (omega arith) }

module _ {n : ℕ} {P : ℕ → Type 0} {j : ℕ} (so_far : Blocked n P j) where
  pub blocked-more : j < n → {t : Bool} → (t ≡ true) ↔ P j → t ≡ false → Blocked n P (j + 1)
  blocked-more h test e = record { within = omega arith; none = below_more _ j so_far.none (λ q. false-not-true e (test.1 q)) }

  pub blocked-all : n ≤ j → ¬ ((k : ℕ) × (k < n) × P k)
  blocked-all h (k, u, q) = so_far.none k (omega arith) q
