-- Where check 14 does not speak, at most 32 monomials are irreducible.
--   few-irreducible   a list of irreducible monomials, each once, has at most 32
use mathlib.Core.List.Memᴰ
use mathlib.Core.List.{List, [], ◌∷◌}
use mathlib.Core.Logic.{⊎_elim, by_cases}
use Prim.Native.Nat.{ℕ, zero, suc, ◌≤◌}
use native.Mathlib.Decide.{dec_le}
use native.Mathlib.Omega.{arith}
use lib.ListN.{length, take}
use lib.Seq.{length-take-le}
use Rattle.lists.specs.Lists.{◌∈◌, Once}
use Rattle.lists.proofs.EachElement.{each_of}
use Rattle.monomial.specs.Rows.{Row}
use Rattle.monomial.specs.Ordering.{monomials}
use Rattle.groebner.specs.Lines.{Line, Reducible}
use Rattle.lines.specs.Sizes.{most_standard}
use Rattle.staircase.specs.Conditions.{Large}

module _ {A : Type 0} where
  of-take : (k : ℕ) (l : List A) {x : A} → x ∈ take k l → x ∈ l
  of-take zero l q = absurd (Memᴰ.not-nil q)
  of-take (suc k) [] q = absurd (Memᴰ.not-nil q)
  of-take (suc k) (y ∷ l) q = ⊎_elim (λ e. Memᴰ.head e) (λ r. Memᴰ.tail (of-take k l r)) (Memᴰ.cases_cons q)

  once-take : (k : ℕ) (l : List A) → Once l → Once (take k l)
  once-take zero l w = tt
  once-take (suc k) [] w = tt
  once-take (suc k) (x ∷ l) w = (λ q. w.0 (of-take k l q), once-take k l w.1)

module _ {F : Type 0} (n : ℕ) (G : List (Line F (Row n))) where
  abbrev Irreducible : Row n → Type 0
  Irreducible m = ¬ Reducible (monomials n) G m

  pub few-irreducible : ¬ Large n G → (l : List (Row n)) → Once l → ((m : Row n) → m ∈ l → Irreducible m) → length l ≤ most_standard
  few-irreducible small l once irreducible = by_cases (dec_le (length l) most_standard) (λ h. h) (λ h. absurd (small (
    take (suc most_standard) l,
    length-take-le (suc most_standard) l (omega arith),
    once-take (suc most_standard) l once,
    each_of Irreducible (take (suc most_standard) l) (λ m q. irreducible m (of-take (suc most_standard) l q)),
  )))
