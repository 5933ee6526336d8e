-- A text is refused with a number from 1 to 15, or it passes checks 1 to 15 and then the room decides.
--   Early o               o is a refusal with a number from 1 to 15
--   Reached input room o  the text passes: the basis that it holds, its lex basis H and standard monomials B, and check 16 on their text
--   outcome-cases         an outcome is one of the two
--   outcome-number        a refusal has a number from 1 to 16: none looks like an answer that accepts
use mathlib.Core.Path.{◌≡◌}
use mathlib.Core.List.{List}
use mathlib.Core.Logic.{◌⊎◌, inl, inr}
use Prim.Native.Nat.{ℕ, ◌<◌, ◌≤◌}
use native.Mathlib.Omega.{arith}
use Rattle.lists.specs.Lists.{Bytes}
use Rattle.residue.specs.Prime.{Prime}
use Rattle.residue.specs.Field.{ZMod, modulo}
use Rattle.monomial.specs.Rows.{Row}
use Rattle.monomial.specs.Ordering.{monomials, Grevlex}
use Rattle.answer.specs.Outcomes.{Judged, refused, passed}
use Rattle.groebner.specs.Lines.{Line, Lines, Reducible}
use Rattle.groebner.specs.Bases.{Reduced}
use Rattle.groebner.specs.Standard.{Finite}
use Rattle.checks.specs.Checks.{Basis, Checked}
use Rattle.checks.proofs.Passes.{GoodText, good-text-iff}
use Rattle.staircase.specs.Conditions.{Large}
use Rattle.acceptance.proofs.WholeOutcome.{passing-iff}
use Rattle.convert.specs.Written.{written}
use Rattle.convert.specs.Outcome.{Converts, Fits, AfterChecks, Outcome}
use Rattle.convert.proofs.PassedLines.{passed_lines}
use Rattle.convert.proofs.RefusalNumbers.{checked-number}
use Rattle.convert.proofs.ConvertedChecks.{WholeOf, lines_of_basis, converted-whole, refused-output}

abbrev pub Early : Judged Bytes → Type 0
Early o = (k : ℕ) × (line : ℕ) × (1 ≤ k) × (k ≤ 15) × (o ≡ refused k line)

pub record Reached (input : Bytes) (room : ℕ) (o : Judged Bytes) : Type 0 where
  pub basis : Basis
  pub passes : GoodText input basis
  pub reduced : Reduced (modulo basis.p passes.modulus.prime.above_one) (monomials basis.n) (Grevlex basis.n) (lines_of_basis basis passes.modulus.prime.above_one)
  pub finite : Finite (λ m. ¬ Reducible (monomials basis.n) (lines_of_basis basis passes.modulus.prime.above_one) m)
  pub small : ¬ Large basis.n (lines_of_basis basis passes.modulus.prime.above_one)
  pub H : List (Line (ZMod basis.p) (Row basis.n))
  pub B : List (Row basis.n)
  pub converts : Converts basis.p passes.modulus.prime.above_one basis.n (lines_of_basis basis passes.modulus.prime.above_one) H B
  pub fits : Fits room (written basis.p passes.modulus.prime.above_one basis.n H B) o

module _ (input : Bytes) (room : ℕ) (o : Judged Bytes) where
  whole-cases : (b : Basis) (w : GoodText input b) → WholeOf b w.modulus.prime.above_one room o → Early o ⊎ Reached input room o
  whole-cases b w (inl (k, d, first, e)) = inl (12, k, omega arith, omega arith, e)
  whole-cases b w (inr (u, inl (z, e))) = inl (13, 0, omega arith, omega arith, e)
  whole-cases b w (inr (u, inr (z, inl (l, e)))) = inl (14, 0, omega arith, omega arith, e)
  whole-cases b w (inr (u, inr (z, inr (l, inl (k, d, first, e))))) = inl (15, k, omega arith, omega arith, e)
  whole-cases b w (inr (u, inr (z, inr (l, inr (v, (H, B, c, f)))))) =
      let prime : Prime b.p = w.modulus.prime in
      let h : 1 < b.p = prime.above_one in
      let lines : Lines (modulo b.p h) (Grevlex b.n) (lines_of_basis b h) = passed_lines b.p h b.n b.generators w.good in
      let (reduced, finite) = (passing-iff b.p prime b.n (lines_of_basis b h) lines).0 (record { undivided = u; dimension = z; unfailing = v }) in
      inr (record { basis = b; passes = w; reduced = reduced; finite = finite; small = l; H = H; B = B; converts = c; fits = f })

  after-cases : (c : Judged Basis) → Checked input c → AfterChecks c room o → Early o ⊎ Reached input room o
  after-cases (refused k line) q e = let (low, high) = checked-number k line input q in inl (k, line, omega arith, omega arith, e)
  after-cases (passed b) q a = let w = (good-text-iff input b).0 q in whole-cases b w (converted-whole b w.modulus.prime room o a)

  pub outcome-cases : Outcome input room o → Early o ⊎ Reached input room o
  outcome-cases (inl (l, e)) = inl (1, 0, omega arith, omega arith, e)
  outcome-cases (inr (l, (c, q, a))) = after-cases c q a

pub outcome-number : (input : Bytes) (room number line : ℕ) → Outcome input room (refused number line) → (1 ≤ number) × (number ≤ 16)
outcome-number input room number line w = at (outcome-cases input room (refused number line) w)
  where
    at : Early (refused number line) ⊎ Reached input room (refused number line) → (1 ≤ number) × (number ≤ 16)
    at (inl (k, l, low, high, e)) = let same : number ≡ k = cc in (omega arith, omega arith)
    at (inr r) = let (same, _) = refused-output room _ number line r.fits in (omega arith, omega arith)
