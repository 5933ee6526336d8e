-- The outcome of checks 12 to 15 on a basis of the code, from the answers of the parts that do them.
--   Refuses b e                  the outcome of checks 12 to 15 is the refusal e
--   says-refused                 the answer to a refused basis is its outcome
--   whole-divided                12: `first_divided` found a line
--   zero-dimensional-leads       13: the answer of `zero_dimensional` is that on the lines
--   whole-not-zero-dimensional   the answer no
--   leads-pass                   the answer yes
--   whole-large                  14: `list_irreducibles` found too many
--   lines_clear                  no monomial of a line is divisible by another line's leading monomial
--   not-large                    `list_irreducibles` listed all
--   pairable                     so the least common multiples of leading monomials are low, as check 15 asks
--   failing                      15: the answer no of `is_groebner`: the basis is as `first_failing` asks, and check 15 speaks of a line
--   whole-failing                the answer of `first_failing`
--   whole-passes                 the answer yes: the basis passes
use mathlib.Core.Path.{◌≡◌, refl, sym, ◌∙◌, ap, subst}
use mathlib.Core.Bool.{Bool, true, false, false≢true}
use mathlib.Core.List.{List}
use mathlib.Core.Logic.Iff
use mathlib.Core.Logic.{inl, inr, ◌↔◌}
use mathlib.Core.Option.{none}
use Prim.Native.Nat.{ℕ, ◌<◌}
use native.Mathlib.Omega.{arith}
use Rattle.std.specs.Prelude.{Some, None, Ok, Err}
use Rattle.arrayvec.specs.ArrayVec.{ArrayVec}
use Rattle.lists.proofs.EachElement.{each_of, each_at}
use Rattle.residue.specs.Prime.{Prime}
use Rattle.residue.specs.Field.{modulo}
use Rattle.monomial.specs.Rows.{Row}
use Rattle.monomial.specs.Orders.{variables}
use Rattle.monomial.specs.Ordering.{monomials, Lex, Grevlex}
use Rattle.monomial.proofs.OrderLaws.{MonomialOrder}
use Rattle.monomial.specs.declared.Monomial.{Monomial}
use Rattle.monomial.proofs.LexOrder.{lex-order}
use Rattle.monomial.proofs.GrevlexOrder.{grevlex-order}
use Rattle.answer.specs.Outcomes.{Judged, passed, refuse◌at_smallest◌else◌, refuse◌at_0_if◌else◌}
use Rattle.answer.specs.declared.Refused.{Refused}
use Rattle.answer.specs.declared.Refusal.TheVariants.{NotReduced, NotZeroDimensional, TooManyStandardMonomials, NotGroebner}
use Rattle.groebner.specs.Lines.{Lines, Reducible}
use Rattle.groebner.specs.Criteria.{Clear}
use Rattle.groebner.specs.Standard.{ZeroDimensional}
use Rattle.groebner.specs.Next.{next, irreducibles}
use Rattle.groebner.proofs.Instance.{ground}
use Rattle.groebner.proofs.Lists.{pigeon}
use Rattle.groebner.proofs.RisingLists.{rising-once}
use Rattle.groebner.proofs.Next.{next-lex, variables-ranking}
use Rattle.groebner.proofs.IrreducibleList.{Counts, irreducibles-of-lines}
use Rattle.lines.specs.Sizes.{most_standard}
use Rattle.lines.specs.declared.StoredBasis.{StoredBasis}
use Rattle.staircase.specs.StoredLines.{stored_lines}
use Rattle.staircase.specs.Leads.{rows_of, LeadsOf, multiple, Powers, CountIs}
use Rattle.staircase.specs.Places.{FirstDivided}
use Rattle.staircase.specs.Sound.{Sound}
use Rattle.staircase.specs.Conditions.{Large, Failing}
use Rattle.staircase.specs.Listed.{listed, ListsIrreducibles}
use Rattle.staircase.proofs.ArrayRows.{rows-length}
use Rattle.staircase.proofs.ClearLines.{divided-clear}
use Rattle.staircase.proofs.PowersOfVariables.{power-of-leads}
use Rattle.staircase.proofs.SoundLines.{sound-lines}
use Rattle.staircase.proofs.FailingPairs.{failing-buchberger}
use Rattle.staircase.proofs.IrreducibleLists.{multiple-leads}
use Rattle.multiplication.specs.declared.rows.Tables.{Tables}
use Rattle.multiplication.specs.Criterion.{Acceptance}
use Rattle.division.specs.PairRemainders.{Pairable, FirstFailing}
use Rattle.division.proofs.LowPairs.{low-pairs}
use Rattle.acceptance.specs.Answers.{WholeVerdict, LeadsPass, Convertible, WholeSays}
use Rattle.acceptance.proofs.SmallestRefused.{smallest-refuses}
use Rattle.acceptance.proofs.WholeOutcome.{Passing, passing-iff}

-- Nothing comes after the checks.
abbrev Passes : Judged Unit → Type 0
Passes o = o ≡ passed tt

module _ (b : StoredBasis) where
  -- The checks refuse the basis so.
  abbrev pub Refuses : Refused → Type 0
  Refuses e = WholeVerdict {T = ArrayVec Monomial} b (Err e)

  pub says-refused : (e : Refused) (t : Tables) → Refuses e → WholeSays b (Err e) t
  says-refused e t o = record { verdict = o; convertible = λ l q. let z : ◌≡◌ {A = ℕ} 0 1 = cc in absurd (omega arith) }

  pub whole-divided : (k : ℕ) → FirstDivided b (Some k) → Refuses (record { refusal = NotReduced; line = k })
  whole-divided k first h = smallest-refuses 12 (
      refuse 13 at_0_if ¬ ZeroDimensional b.n (stored_lines b h) else
      refuse 14 at_0_if Large b.n (stored_lines b h) else
      refuse 15 at_smallest Failing (modulo b.p h) (monomials b.n) (stored_lines b h) (Grevlex b.n) else
      Passes) (first h)

  module _ (ms : List Monomial) (leads : LeadsOf b ms) where
    pub zero-dimensional-leads : (h : 1 < b.p) → Powers b.n (rows_of b.n ms) ↔ ZeroDimensional b.n (stored_lines b h)
    zero-dimensional-leads h = subst (λ (L : List (Row b.n)). Powers b.n L ↔ ZeroDimensional b.n (stored_lines b h)) (sym (leads.1 h)) (power-of-leads b.n (stored_lines b h))

    module _ (t : Bool) (says : (t ≡ true) ↔ Powers b.n (rows_of b.n ms)) (u : FirstDivided b None) where
      pub whole-not-zero-dimensional : t ≡ false → Refuses (record { refusal = NotZeroDimensional; line = 0 })
      whole-not-zero-dimensional e h = inr (u h, inl (λ z. false≢true (sym e ∙ says.1 ((zero-dimensional-leads h).1 z)), refl))

      pub leads-pass : t ≡ true → LeadsPass b
      leads-pass e h = (u h, (zero-dimensional-leads h).0 (says.0 e))

    -- `list_irreducibles` answers that there are too many.
    abbrev TooMany : Type 0
    TooMany = CountIs b.n (variables b.n) (multiple b.n (rows_of b.n ms)) most_standard None

    -- Then 33 of them stand in a rising list.
    large : TooMany → (h : 1 < b.p) → Large b.n (stored_lines b h)
    large counted h = (more.0, more.1, rising-once ord more.0 more.2, each_of _ more.0 more.3)
      where
        ord : MonomialOrder (monomials b.n) (Lex b.n (variables b.n))
        ord = lex-order b.n (variables b.n) (variables-ranking b.n).all

        more : Counts (Lex b.n (variables b.n)) (λ m. ¬ Reducible (monomials b.n) (stored_lines b h) m) most_standard none
        more = subst (Counts (Lex b.n (variables b.n)) (λ m. ¬ Reducible (monomials b.n) (stored_lines b h) m) most_standard)
            (ap (λ f. irreducibles b.n (next b.n (variables b.n)) f most_standard) (sym (ap (multiple b.n) (leads.1 h) ∙ multiple-leads b.n (stored_lines b h))) ∙ counted)
            (irreducibles-of-lines b.n ord (next b.n (variables b.n)) (next-lex b.n (variables b.n) (variables-ranking b.n)) (stored_lines b h) most_standard)

    pub whole-large : LeadsPass b → TooMany → Refuses (record { refusal = TooManyStandardMonomials; line = 0 })
    whole-large pass counted h = inr ((pass h).0, inr (λ z. z (pass h).1, inl (large counted h, refl)))

  pub lines_clear : LeadsPass b → (h : 1 < b.p) → Clear (modulo b.p h) (monomials b.n) (stored_lines b h)
  lines_clear pass h = (divided-clear (modulo b.p h) (monomials b.n) (stored_lines b h)).0 (pass h).0

  module _ (sound : Sound b) (pass : LeadsPass b) (l : List Monomial) (irreducible : ListsIrreducibles b l) where
    pub not-large : (h : 1 < b.p) → ¬ Large b.n (stored_lines b h)
    not-large h (k, e, once, each) =
        omega (arith, pigeon k (listed b.n l) once (λ m q. (irreducible.lists h).all m (each_at _ k each q)), e, rows-length b.n l, irreducible.few)

    pub pairable : Pairable b
    pairable = let h = sound.modulus.prime.above_one in record { sound = sound; low = low-pairs b sound h (pass h).0 (pass h).1 (not-large h) }

    pub whole-failing : (k : ℕ) → FirstFailing b (Some k) → Refuses (record { refusal = NotGroebner; line = k })
    whole-failing k first h = inr ((pass h).0, inr (λ z. z (pass h).1, inr (not-large h, smallest-refuses 15 Passes (first h))))

    abbrev prime : 1 < b.p → Prime b.p
    prime h = record { above_one = h; no_divisor = sound.modulus.prime.no_divisor }

    abbrev lines : (h : 1 < b.p) → Lines (modulo b.p h) (Grevlex b.n) (stored_lines b h)
    lines h = sound-lines b sound h

    module _ (a : Bool) (t : Tables) (acceptance : Acceptance b l a t) where
      -- 15 speaks of no line exactly if the answer of `is_groebner` is yes.
      accepted : (h : 1 < b.p) → ((k : ℕ) → ¬ Failing (modulo b.p h) (monomials b.n) (stored_lines b h) (Grevlex b.n) k) ↔ (a ≡ true)
      accepted h = Iff.trans (failing-buchberger (ground b.p (prime h) b.n) (grevlex-order b.n) (stored_lines b h) (λ g q. ((lines h).falling g q).0)) (Iff.symm (acceptance.buchberger h))

      some-failing : a ≡ false → ¬ FirstFailing b None
      some-failing e never = let h = sound.modulus.prime.above_one in false≢true (sym e ∙ (accepted h).0 (never h))

      pub failing : a ≡ false → Pairable b × ¬ FirstFailing b None
      failing e = (pairable, some-failing e)

      passing : a ≡ true → (h : 1 < b.p) → Passing b.p (prime h) b.n (stored_lines b h)
      passing e h = record { undivided = (pass h).0; dimension = λ z. z (pass h).1; unfailing = (accepted h).1 e }

      pub whole-passes : a ≡ true → WholeSays b (Ok (record { items = l })) t
      whole-passes e = record {
        verdict = λ h. let w = passing e h in inr (w.undivided, inr (w.dimension, inr (not-large h, inr (w.unfailing, refl))));
        convertible = λ k q. let same : l ≡ k.items = cc in subst (λ k. Convertible b k t) same (record {
          reduced = λ h. ((passing-iff b.p (prime h) b.n (stored_lines b h) (lines h)).0 (passing e h)).0;
          irreducibles = irreducible;
          below = acceptance.below;
          filled = acceptance.filled;
        });
      }
