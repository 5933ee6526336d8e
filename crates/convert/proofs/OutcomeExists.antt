-- Each text and room has an outcome, and it is computed.
--   dimension?       whether check 13 passes
--   failing          the line of which check 15 speaks, if there is one
--   whole_exists     checks 12 to 15 have an outcome, if what comes after them has one for a basis that passes
--   outcome_exists   a text has an outcome
--   one-outcome      and no other
use mathlib.Core.Path.{◌≡◌, refl}
use mathlib.Core.List.{List}
use mathlib.Core.Logic.{◌⊎◌, inl, inr}
use mathlib.Core.Bool.{true, Bool-discrete}
use Prim.Native.Nat.{ℕ, ◌<◌}
use native.Mathlib.Decide.{dec_lt}
use lib.ListN.{length}
use Rattle.lists.specs.Lists.{Bytes}
use Rattle.residue.specs.Prime.{Prime}
use Rattle.residue.specs.Field.{ZMod, modulo}
use Rattle.monomial.specs.Rows.{Row}
use Rattle.monomial.specs.Quotients.{is_power, lcm}
use Rattle.monomial.specs.Ordering.{monomials, Grevlex}
use Rattle.monomial.proofs.Products.{lcm-least}
use Rattle.monomial.proofs.GrevlexOrder.{grevlex-order}
use Rattle.answer.specs.Outcomes.{Judged, refused, passed}
use Rattle.groebner.specs.Lines.{Line, Lines}
use Rattle.groebner.specs.Criteria.{Low}
use Rattle.groebner.specs.Standard.{ZeroDimensional}
use Rattle.groebner.proofs.Deciding.{as?}
use Rattle.groebner.proofs.Decisions.{among?, below?}
use Rattle.groebner.proofs.Computing.{by_grevlex}
use Rattle.groebner.proofs.ZeroDimension.{zero-dimensional-tested}
use Rattle.tabtext.specs.Sizes.{most_bytes}
use Rattle.tabtext.specs.Readers.{read_line}
use Rattle.checks.specs.Checks.{Basis, Checked}
use Rattle.checks.proofs.Model.{judge}
use Rattle.checks.proofs.TextChecks.{checked-iff}
use Rattle.checks.proofs.Passes.{GoodText, good-text-iff}
use Rattle.staircase.specs.TermLines.{lines_of}
use Rattle.staircase.specs.Conditions.{Divided, Failing, Large}
use Rattle.acceptance.specs.Whole.{Whole}
use Rattle.acceptance.proofs.WholeOutcome.{Passing, passing-iff}
use Rattle.convert.specs.Written.{written}
use Rattle.convert.specs.Outcome.{Fits, AfterChecks, Outcome}
use Rattle.convert.proofs.FewIrreducible.{Few, large_or_few, few-not-large}
use Rattle.convert.proofs.Conversions.{conversion_exists}
use Rattle.convert.proofs.PassedLines.{passed_lines}
use Rattle.convert.proofs.ConvertedChecks.{Output, lines_of_basis}
use Rattle.convert.proofs.CheckDecisions.{SmallestOrNone, divided_smallest, failing_smallest}
use Rattle.convert.proofs.PairDecisions.{pair_by}
use Rattle.convert.proofs.ComputedGround.{computed_laws, computed_ring}
use Rattle.convert.proofs.LexEnumeration.{division_steps}
use Rattle.convert.proofs.OutcomeUnique.{outcome-unique}

module _ (p : ℕ) (prime : Prime p) (n : ℕ) (G : List (Line (ZMod p) (Row n))) (lines : Lines (modulo p prime.above_one) (Grevlex n) G) where
  abbrev h : 1 < p
  h = prime.above_one

  -- Check 13.
  unfoldable pub dimension? : Dec (ZeroDimensional n G)
  unfolding as? below? among? is_power
  dimension? = as? (zero-dimensional-tested n G).1 (zero-dimensional-tested n G).0 (below? (λ i. among? (λ g. Bool-discrete (is_power n i g.0) true) G) n)

  -- Check 15.
  unfoldable pub failing : SmallestOrNone (Failing (modulo p h) (monomials n) G (Grevlex n))
  unfolding failing_smallest pair_by computed_ring by_grevlex lcm
  failing = failing_smallest (computed_ring p prime n) (grevlex-order n) G low (pair_by (computed_ring p prime n) (grevlex-order n) (by_grevlex p prime n) (λ a b. (lcm n a b, lcm-least n a b)) G low division_steps)
    where
      low : Low (Grevlex n) G
      low g q = (lines.falling g q).0

  unfoldable pub whole_exists : {A : Type 0} (later : Judged A → Type 0) → (Passing p prime n G → Few n G → (o : Judged A) × later o) → (o : Judged A) × Whole p h n G later o
  unfolding divided_smallest computed_laws large_or_few dimension? failing
  whole_exists {A} later next = at (divided_smallest (modulo p h) (computed_laws n) G) dimension? (large_or_few n G) failing
    where
      at : SmallestOrNone (Divided (modulo p h) (monomials n) G) → Dec (ZeroDimensional n G) → Large n G ⊎ Few n G → SmallestOrNone (Failing (modulo p h) (monomials n) G (Grevlex n)) → (o : Judged A) × Whole p h n G later o
      at (inl (k, d, first)) z f s = (refused 12 k, inl (k, d, first, refl))
      at (inr u) (no z) f s = (refused 13 0, inr (u, inl (z, refl)))
      at (inr u) (yes z) (inl l) s = (refused 14 0, inr (u, inr (λ n. n z, inl (l, refl))))
      at (inr u) (yes z) (inr f) (inl (k, d, first)) = (refused 15 k, inr (u, inr (λ n. n z, inr (few-not-large n G f, inl (k, d, first, refl)))))
      at (inr u) (yes z) (inr f) (inr v) =
          let (o, w) = next (record { undivided = u; dimension = λ n. n z; unfailing = v }) f in
          (o, inr (u, inr (λ n. n z, inr (few-not-large n G f, inr (v, w)))))

  unfoldable output_exists : (room : ℕ) → Passing p prime n G → Few n G → (o : Judged Bytes) × Output p h n G room o
  unfolding conversion_exists written dec_lt
  output_exists room w (B₀, few, irreducible) =
      let (reduced, finite) = (passing-iff p prime n G lines).0 w in
      let (H, B, c) = conversion_exists p prime n G lines reduced.groebner B₀ irreducible in
      let (o, f) = fits-exists (written p h n H B) in
      (o, (H, B, c, f))
    where
      fits-exists : (out : Bytes) → (o : Judged Bytes) × Fits room out o
      fits-exists out = elim (dec_lt room (length out)) [ yes l ↦ (refused 16 0, inl (l, refl)) | no l ↦ (passed out, inr (l, refl)) ]

unfoldable after_exists : (input : Bytes) (room : ℕ) (c : Judged Basis) → Checked input c → (o : Judged Bytes) × AfterChecks c room o
unfolding whole_exists output_exists lines_of
after_exists input room (refused k line) q = (refused k line, refl)
after_exists input room (passed b) q =
    let w : GoodText input b = (good-text-iff input b).0 q in
    let prime : Prime b.p = w.modulus.prime in
    let h : 1 < b.p = prime.above_one in
    let lines : Lines (modulo b.p h) (Grevlex b.n) (lines_of_basis b h) = passed_lines b.p h b.n b.generators w.good in
    let (o, x) = whole_exists b.p prime b.n (lines_of_basis b h) lines (Output b.p h b.n (lines_of_basis b h) room) (output_exists b.p prime b.n (lines_of_basis b h) lines room) in
    (o, (h, x))

unfoldable pub outcome_exists : (input : Bytes) (room : ℕ) → (o : Judged Bytes) × Outcome input room o
unfolding after_exists judge read_line dec_lt
outcome_exists input room = elim (dec_lt most_bytes (length input)) [
  | yes l ↦ (refused 1 0, inl (l, refl))
  | no l ↦ let c = judge input in let q = (checked-iff input c).1 refl in let (o, a) = after_exists input room c q in (o, inr (l, (c, q, a)))
]

pub one-outcome : (input : Bytes) (room : ℕ) → (o : Judged Bytes) × Outcome input room o × ((o' : Judged Bytes) → Outcome input room o' → o' ≡ o)
one-outcome input room = let (o, w) = outcome_exists input room in (o, w, λ o' w'. outcome-unique input room o' o w' w)
