-- The usable texts are exactly those that are refused only where the output is too short.
--   reached-usable      a text that passes checks 1 to 15 is usable
--   UnlessShort o       o is an output, or the refusal 16
--   exactly-usable      a text is usable exactly if every outcome is so, whatever the room
use mathlib.Core.Path.{◌≡◌, sym, ◌∙◌, ap, ap₂, subst}
use mathlib.Core.List.{List, [], ◌∷◌, ◌++◌, map}
use mathlib.Core.Logic.{◌⊎◌, inl, inr, ◌↔◌}
use Prim.Native.Nat.{ℕ, ◌<◌}
use native.Mathlib.Omega.{arith}
use lib.ListN.{length, length-map}
use Rattle.lists.specs.Lists.{Bytes}
use Rattle.answer.specs.Outcomes.{Judged, refused, passed}
use Rattle.tabtext.specs.Text.{bytes, header, generator, end, text, TextLine}
use Rattle.convert.specs.Written.{as_generator}
use Rattle.convert.specs.Outcome.{Outcome}
use Rattle.convert.specs.Contract.{Usable}
use Rattle.convert.proofs.LineTerms.{terms_of_line, text-lines, terms-of-generators}
use Rattle.convert.proofs.ConvertedChecks.{lines_of_basis}
use Rattle.convert.proofs.OutcomeCases.{Early, Reached, outcome-cases}
use Rattle.convert.proofs.OutcomeExists.{outcome_exists}
use Rattle.convert.proofs.Usable.{usable-refused}

pub reached-usable : (input : Bytes) (room : ℕ) (o : Judged Bytes) → Reached input room o → Usable input
reached-usable input room o r =
    let p : ℕ = r.basis.p in
    let n : ℕ = r.basis.n in
    let h : 1 < p = r.passes.modulus.prime.above_one in
    let back : map (terms_of_line p h n) (lines_of_basis r.basis h) ≡ r.basis.generators = terms-of-generators p h n r.basis.generators r.passes.good in
    let many : length (lines_of_basis r.basis h) ≡ length r.basis.generators = sym (length-map (lines_of_basis r.basis h) (terms_of_line p h n)) ∙ ap length back in
    let same : map (as_generator p h n) (lines_of_basis r.basis h) ≡ map generator r.basis.generators = text-lines p h n (lines_of_basis r.basis h) ∙ ap (map generator) back in
    record {
      p = p;
      modulus = r.passes.modulus;
      n = n;
      variables = r.passes.variables;
      lines = lines_of_basis r.basis h;
      reduced = r.reduced;
      finite = r.finite;
      small = r.small;
      stands = r.passes.stands ∙ ap₂ (λ (ls : List TextLine) (k : ℕ). text ((header (bytes "grevlex") p n ∷ ls) ++ (end k ∷ []))) (sym same) (sym many);
    }

-- Refused only where the output is too short.
abbrev pub UnlessShort : Judged Bytes → Type 0
UnlessShort (passed out) = Unit
UnlessShort (refused number line) = number ≡ 16

pub exactly-usable : (input : Bytes) → Usable input ↔ ((room : ℕ) (o : Judged Bytes) → Outcome input room o → UnlessShort o)
exactly-usable input = (λ u room o. only u room o, back)
  where
    only : Usable input → (room : ℕ) (o : Judged Bytes) → Outcome input room o → UnlessShort o
    only u room (passed out) w = tt
    only u room (refused k line) w = usable-refused input u room k line w

    at : (o : Judged Bytes) → UnlessShort o → Early o ⊎ Reached input 0 o → Usable input
    at o s (inl (k, line, low, high, e)) = let same : k ≡ 16 = subst UnlessShort e s in absurd (omega arith)
    at o s (inr r) = reached-usable input 0 o r

    back : ((room : ℕ) (o : Judged Bytes) → Outcome input room o → UnlessShort o) → Usable input
    back h = let (o, w) = outcome_exists input 0 in at o (h 0 o w) (outcome-cases input 0 o w)
