-- The outcome is all that the converter has to prove: the other two demands follow from it.
--   meets-of      from the first field of Meets, all of it
--   accepted-fits the length that is told is no more than that of the output
use mathlib.Core.Path.{◌≡◌, sym, ◌∙◌, ap, ap₂, subst}
use Prim.Native.Nat.{ℕ, ◌≤◌}
use native.Mathlib.Omega.{arith}
use lib.ListN.{length, length-append, take, drop}
use lib.Seq.{take-append_seam}
use Rattle.lists.specs.Lists.{Bytes}
use Rattle.answer.specs.Outcomes.{Judged, refused, passed}
use Rattle.answer.specs.Answers.{pair, returned, after}
use Rattle.answer.specs.declared.Refused.{Refused}
use Rattle.std.specs.Prelude.{Result, Ok}
use Rattle.convert.specs.Outcome.{Outcome}
use Rattle.convert.specs.Contract.{Usable, Systems, Meets}
use Rattle.convert.proofs.OutcomeCases.{outcome-number}
use Rattle.convert.proofs.Systems.{systems-of}
use Rattle.convert.proofs.Usable.{usable-refused}

module _ (input was left : Bytes) (answer : Result ℕ Refused) where
  only-16 : (o : Judged Bytes) → Outcome input (length was) o → pair answer ≡ returned o → Usable input → (k line : ℕ) → pair answer ≡ (k, line) → ¬ (k ≡ 0) → k ≡ 16
  only-16 (refused j at) c r u k line e n =
      let same : k ≡ j = ap (λ (x : ℕ × ℕ). x.0) (sym e ∙ r) in
      same ∙ usable-refused input u (length was) j at c
  only-16 (passed out) c r u k line e n = absurd (n (ap (λ (x : ℕ × ℕ). x.0) (sym e ∙ r)))

  systems : (o : Judged Bytes) → Outcome input (length was) o → pair answer ≡ returned o → left ≡ after o was → (size : ℕ) → answer ≡ Ok size → Systems input (take size left)
  systems (refused j at) c r l size e =
      let zero : 0 ≡ j = ap (λ (x : ℕ × ℕ). x.0) (ap pair (sym e) ∙ r) in
      absurd (omega (arith, (outcome-number input (length was) j at c).0))
  systems (passed out) c r l size e =
      let same : size ≡ length out = ap (λ (x : ℕ × ℕ). x.1) (ap pair (sym e) ∙ r) in
      subst (Systems input) (sym (ap₂ take same l ∙ take-append_seam out (drop (length out) was))) (systems-of input (length was) out c)

  pub meets-of : (o : Judged Bytes) × Outcome input (length was) o × (pair answer ≡ returned o) × (left ≡ after o was) → Meets input was left answer
  meets-of (o, c, r, l) = record { outcome = (o, c, r, l); usable = only-16 o c r; systems = systems o c r l }

  pub accepted-fits : Meets input was left answer → (size : ℕ) → answer ≡ Ok size → size ≤ length left
  accepted-fits m size e = let (o, c, r, l) = m.outcome in at o c (ap pair (sym e) ∙ r) l
    where
      at : (o : Judged Bytes) → Outcome input (length was) o → (0, size) ≡ returned o → left ≡ after o was → size ≤ length left
      at (refused j line) c r l = let zero : 0 ≡ j = ap (λ (x : ℕ × ℕ). x.0) r in absurd (omega (arith, (outcome-number input (length was) j line c).0))
      at (passed out) c r l =
          let same : size ≡ length out = ap (λ (x : ℕ × ℕ). x.1) r in
          omega (arith, ap length l ∙ length-append out (drop (length out) was))
