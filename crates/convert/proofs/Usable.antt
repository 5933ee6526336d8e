-- Demand 2, its last sentence: a usable text is refused only where the output is too short.
--   basis_of_lines u   the basis that a usable text holds
--   usable-passes      a usable text passes checks 2 to 11 with its lines
--   usable-refused     a refusal of it is 16
use mathlib.Core.Path.{◌≡◌, sym, ◌∙◌, ap₂, subst}
use mathlib.Core.List.{List, [], ◌∷◌, ◌++◌, map}
use mathlib.Core.Logic.{inl, inr}
use Prim.Native.Nat.{ℕ, ◌<◌}
use native.Mathlib.Omega.{arith}
use lib.ListN.{length, length-map}
use Rattle.lists.specs.Lists.{Bytes}
use Rattle.lists.proofs.EachElement.{each_map}
use Rattle.residue.specs.Prime.{Prime}
use Rattle.residue.specs.Field.{ZMod, modulo}
use Rattle.monomial.specs.Rows.{Row}
use Rattle.monomial.specs.Ordering.{monomials, Grevlex}
use Rattle.monomial.proofs.GrevlexOrder.{grevlex-order}
use Rattle.answer.specs.Outcomes.{Judged, refused, passed, refuse◌at_0_if◌else◌}
use Rattle.groebner.specs.Lines.{Line, Reducible}
use Rattle.groebner.specs.Bases.{Reduced}
use Rattle.groebner.specs.Standard.{Finite}
use Rattle.lines.specs.Sizes.{most_standard}
use Rattle.tabtext.specs.Text.{bytes, header, end, text, TextLine}
use Rattle.checks.specs.Checks.{Basis}
use Rattle.checks.proofs.TextChecks.{checked-unique}
use Rattle.checks.proofs.GoodLines.{GoodLine}
use Rattle.checks.proofs.Passes.{GoodText, good-text-iff}
use Rattle.staircase.specs.Conditions.{Large}
use Rattle.acceptance.specs.Whole.{Whole}
use Rattle.acceptance.proofs.WholeOutcome.{passing-iff, whole-of-passing}
use Rattle.convert.specs.Written.{written}
use Rattle.convert.specs.Outcome.{AfterChecks, Outcome}
use Rattle.convert.specs.Contract.{Usable}
use Rattle.convert.proofs.SizesSuffice.{Sized, sizes-suffice}
use Rattle.convert.proofs.FewIrreducible.{few-of}
use Rattle.convert.proofs.LineTerms.{terms_of_line, text-lines, generators-of-terms}
use Rattle.convert.proofs.GoodTerms.{terms-good}
use Rattle.convert.proofs.TextWidth.{passes-width}
use Rattle.convert.proofs.ConvertedChecks.{Output, converted-whole, refused-output}

-- The basis that a usable text holds.
unfoldable pub basis_of_lines : {input : Bytes} → Usable input → Basis
unfolding terms_of_line
basis_of_lines u = record { p = u.p; n = u.n; generators = map (terms_of_line u.p u.modulus.prime.above_one u.n) u.lines }

pub usable-passes : (input : Bytes) (u : Usable input) → GoodText input (basis_of_lines u)
unfolding basis_of_lines
usable-passes input u =
    let h : 1 < u.p = u.modulus.prime.above_one in
    let (B, few, irreducible) = few-of u.n u.lines u.small in
    let sized : Sized (modulo u.p h) u.n most_standard u.lines = sizes-suffice (modulo u.p h) u.n (grevlex-order u.n) u.lines u.reduced B irreducible most_standard few in
    let many : length (map (terms_of_line u.p h u.n) u.lines) ≡ length u.lines = length-map u.lines (terms_of_line u.p h u.n) in
    record {
      modulus = u.modulus;
      variables = u.variables;
      size = omega (arith, many, sized.lines u.variables.some);
      good = each_map (GoodLine u.p u.n) (terms_of_line u.p h u.n) u.lines (terms-good u.p h u.n u.lines u.modulus.size sized u.reduced.lines);
      stands = u.stands ∙ ap₂ (λ (ls : List TextLine) (k : ℕ). text ((header (bytes "grevlex") u.p u.n ∷ ls) ++ (end k ∷ []))) (text-lines u.p h u.n u.lines) (sym many);
    }

-- Checks 12 to 16 on the lines of a reduced basis with at most 32 irreducible monomials.
module _ (p : ℕ) (prime : Prime p) (n : ℕ) (G : List (Line (ZMod p) (Row n))) (reduced : Reduced (modulo p prime.above_one) (monomials n) (Grevlex n) G)
    (finite : Finite (λ m. ¬ Reducible (monomials n) G m)) (small : ¬ Large n G) where
  only-16 : (room k line : ℕ) → Whole p prime.above_one n G (Output p prime.above_one n G room) (refused k line) → k ≡ 16
  only-16 room k line w = at ((whole-of-passing p prime n G (Output p prime.above_one n G room) ((passing-iff p prime n G reduced.lines).1 (reduced, finite)) (refused k line)).0 w)
    where
      at : (refuse 14 at_0_if Large n G else Output p prime.above_one n G room) (refused k line) → k ≡ 16
      at (inl (l, e)) = absurd (small l)
      at (inr (l, (H, B, c, f))) = (refused-output room (written p prime.above_one n H B) k line f).0

pub usable-refused : (input : Bytes) → Usable input → (room k line : ℕ) → Outcome input room (refused k line) → k ≡ 16
unfolding basis_of_lines
usable-refused input u room k line (inl (l, e)) = absurd (omega (arith, passes-width input (basis_of_lines u) (usable-passes input u)))
usable-refused input u room k line (inr (l, (c, q, a))) =
    let prime : Prime u.p = u.modulus.prime in
    let h : 1 < u.p = prime.above_one in
    let same : c ≡ passed (basis_of_lines u) = checked-unique input c (passed (basis_of_lines u)) q ((good-text-iff input (basis_of_lines u)).1 (usable-passes input u)) in
    let w = converted-whole (basis_of_lines u) prime room (refused k line) (subst (λ (c : Judged Basis). AfterChecks c room (refused k line)) same a) in
    only-16 u.p prime u.n u.lines u.reduced u.finite u.small room k line
    (subst (λ (G : List (Line (ZMod u.p) (Row u.n))). Whole u.p h u.n G (Output u.p h u.n G room) (refused k line)) (generators-of-terms u.p h u.n u.lines) w)
