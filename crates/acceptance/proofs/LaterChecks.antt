-- Checks 12 to 15 with those that come after them.
--   whole-refused    a refusal by 12 to 15 stands, whatever comes after them
--   whole-later      where 12 to 15 pass, what comes after them decides
use mathlib.Core.Path.{◌≡◌, sym, ap}
use mathlib.Core.List.{List}
use mathlib.Core.Logic.{inl, inr}
use Prim.Native.Nat.{ℕ, ◌<◌}
use Rattle.residue.specs.Field.{ZMod}
use Rattle.monomial.specs.Rows.{Row}
use Rattle.answer.specs.Outcomes.{Judged, refused, passed}
use Rattle.answer.proofs.Outcomes.{passed-not-refused}
use Rattle.groebner.specs.Lines.{Line}
use Rattle.acceptance.specs.Whole.{Whole}

-- The refusal, whatever passes.
refusal : {A : Type 0} → Judged Unit → Judged A
refusal (refused number line) = refused number line
refusal (passed a) = refused 0 0

module _ {A : Type 0} (p : ℕ) (h : 1 < p) (n : ℕ) (G : List (Line (ZMod p) (Row n))) (later : Judged A → Type 0) where
  pub whole-refused : (number line : ℕ) → Whole p h n G (λ (o : Judged Unit). o ≡ passed tt) (refused number line) → Whole p h n G later (refused number line)
  unfolding refusal
  whole-refused number line (inl (k, d, q, e)) = inl (k, d, q, ap refusal e)
  whole-refused number line (inr (u, inl (z, e))) = inr (u, inl (z, ap refusal e))
  whole-refused number line (inr (u, inr (z, inl (x, e)))) = inr (u, inr (z, inl (x, ap refusal e)))
  whole-refused number line (inr (u, inr (z, inr (x, inl (k, f, q, e))))) = inr (u, inr (z, inr (x, inl (k, f, q, ap refusal e))))
  whole-refused number line (inr (u, inr (z, inr (x, inr (v, e))))) = absurd (passed-not-refused (sym e))

  pub whole-later : Whole p h n G (λ (o : Judged Unit). o ≡ passed tt) (passed tt) → (o : Judged A) → later o → Whole p h n G later o
  whole-later (inl (k, d, q, e)) o l = absurd (passed-not-refused e)
  whole-later (inr (u, inl (z, e))) o l = absurd (passed-not-refused e)
  whole-later (inr (u, inr (z, inl (x, e)))) o l = absurd (passed-not-refused e)
  whole-later (inr (u, inr (z, inr (x, inl (k, f, q, e))))) o l = absurd (passed-not-refused e)
  whole-later (inr (u, inr (z, inr (x, inr (v, e))))) o l = inr (u, inr (z, inr (x, inr (v, l))))
