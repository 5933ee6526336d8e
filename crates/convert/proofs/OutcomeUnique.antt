-- Each text and room has at most one outcome.
--   converted-unique   checks 12 to 16 have at most one outcome, for a basis whose p is prime
--   outcome-unique     a text has at most one
use mathlib.Core.Path.{sym, ◌∙◌, ap₂, subst}
use mathlib.Core.List.{List}
use Prim.Native.Nat.{ℕ}
use Rattle.lists.specs.Lists.{Bytes}
use Rattle.residue.specs.Prime.{Prime}
use Rattle.residue.specs.Field.{ZMod}
use Rattle.monomial.specs.Rows.{Row}
use Rattle.answer.specs.Outcomes.{Judged, refused, passed}
use Rattle.groebner.specs.Lines.{Line}
use Rattle.checks.specs.Checks.{Basis, Checked}
use Rattle.checks.proofs.TextChecks.{checked-unique}
use Rattle.checks.proofs.Passes.{good-text-iff}
use Rattle.acceptance.proofs.WholeOutcome.{AtMostOne, at-0-unique, whole_unique}
use Rattle.convert.specs.Written.{written}
use Rattle.convert.specs.Outcome.{Fits, Converted, AfterChecks, Outcome}
use Rattle.convert.proofs.Conversions.{conversion-unique}
use Rattle.convert.proofs.ConvertedChecks.{Output, lines_of_basis, converted-whole}

fits-unique : (room : ℕ) (out : Bytes) → AtMostOne (Fits room out)
fits-unique room out = at-0-unique 16 (λ o o' a b. a ∙ sym b) _

output-unique : (p : ℕ) (prime : Prime p) (n : ℕ) (G : List (Line (ZMod p) (Row n))) (room : ℕ) → AtMostOne (Output p prime.above_one n G room)
output-unique p prime n G room o o' (H, B, c, f) (K, C, d, g) =
    let (e, q) = conversion-unique p prime n G K H C B d c in
    fits-unique room _ o o' f (subst (λ (out : Bytes). Fits room out o') (ap₂ (written p prime.above_one n) e q) g)

pub converted-unique : (b : Basis) → Prime b.p → (room : ℕ) → AtMostOne (Converted b room)
converted-unique b prime room o o' c d =
    whole_unique b.p prime.above_one b.n (lines_of_basis b prime.above_one) (output-unique b.p prime b.n (lines_of_basis b prime.above_one) room) o o'
    (converted-whole b prime room o c) (converted-whole b prime room o' d)

after-unique : (s : Bytes) (c : Judged Basis) → Checked s c → (room : ℕ) → AtMostOne (AfterChecks c room)
after-unique s (refused number line) q room o o' a b = a ∙ sym b
after-unique s (passed b) q room o o' a b' = converted-unique b ((good-text-iff s b).0 q).modulus.prime room o o' a b'

pub outcome-unique : (input : Bytes) (room : ℕ) → AtMostOne (Outcome input room)
outcome-unique input room = at-0-unique 1 (λ o o' (c, q, a) (d, r, b). after-unique input c q room o o' a (subst (λ (x : Judged Basis). AfterChecks x room o') (checked-unique input d c r q) b)) _
