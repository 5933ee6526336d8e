-- Coordinates that are 1 at one place and 0 elsewhere.
--   indicator-same, indicator-other   what `indicator` is
--   indicator-below                   it is below a modulus
--   unit-at                           a store of 1 into zeros
use mathlib.Core.Path.{◌≡◌, refl, sym, ◌∙◌, ap}
use mathlib.Core.Bool.{Bool, true, false}
use mathlib.Core.List.{List}
use mathlib.Core.Logic.{by_cases}
use Prim.Native.Nat.{ℕ, ◌<◌}
use native.Mathlib.Decide.{ℕ_discrete}
use native.Mathlib.Omega.{arith}
use lib.ListN.{length, get_or, set}
use lib.Seq.{get_or-set_same, get_or-set_other}
use lib.Dec.{eqb}
use borrow.Author.Tests.{eq-eqb, eqb-true}
use Rattle.residue.specs.declared.Residue.{Residue}
use Rattle.lines.specs.Sizes.{most_standard}
use Rattle.coordinates.specs.Vectors.{indicator}

pub indicator-same : (j : ℕ) → indicator j j ≡ 1
unfolding indicator
indicator-same j = ap (λ t. elim t [ true ↦ 1 | false ↦ 0 ]) (eq-eqb j j refl)

pub indicator-other : (j k : ℕ) → ¬ (j ≡ k) → indicator j k ≡ 0
unfolding indicator
indicator-other j k n = go (eqb j k) (λ e. n (eqb-true j k e))
  where
    go : (t : Bool) → ¬ (t ≡ true) → ◌≡◌ {A = ℕ} (elim t [ true ↦ 1 | false ↦ 0 ]) 0
    go true q = absurd (q refl)
    go false q = refl

pub indicator-below : (p j k : ℕ) → 1 < p → indicator j k < p
indicator-below p j k h = by_cases (ℕ_discrete j k) (λ e. rw e (omega (arith, indicator-same k))) (λ q. omega (arith, indicator-other j k q))

pub unit-at : (l : List Residue) (k : ℕ) → length l ≡ most_standard → ((j : ℕ) → (get_or l j (record { 0 = 0 })).0 ≡ 0) → k < most_standard
    → (j : ℕ) → (get_or (set l k (record { 0 = 1 })) j (record { 0 = 0 })).0 ≡ indicator j k
unit-at l k s z h j = by_cases (ℕ_discrete j k)
    (λ e. rw e (ap (λ x. x.0) (get_or-set_same l k (record { 0 = 1 }) (record { 0 = 0 }) (omega arith)) ∙ sym (indicator-same k)))
    (λ n. ap (λ x. x.0) (get_or-set_other l k j (record { 0 = 1 }) (record { 0 = 0 }) n) ∙ z j ∙ sym (indicator-other j k n))
