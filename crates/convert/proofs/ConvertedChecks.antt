-- Checks 12 to 16 for a basis whose p is prime.
--   Output p h n G room o   what comes after check 15: the text of the lex basis and its standard monomials, or 16
--   lines_of_basis b h      the lines of a basis that was read
--   converted-whole         the checks with the proof that 1 < p that a prime has
--   passed-output           the bytes of an output that fits
--   refused-output          an output that does not fit is refused with 16
use mathlib.Core.Path.{◌≡◌, subst}
use mathlib.Core.List.{List}
use mathlib.Core.Logic.{inl, inr}
use Prim.Native.Nat.{ℕ, ◌<◌}
use native.Mathlib.Bridge.{le_prop}
use native.Mathlib.Omega.{arith}
use lib.ListN.{length}
use Rattle.lists.specs.Lists.{Bytes}
use Rattle.residue.specs.Prime.{Prime}
use Rattle.residue.specs.Field.{ZMod}
use Rattle.monomial.specs.Rows.{Row}
use Rattle.answer.specs.Outcomes.{Judged, refused, passed}
use Rattle.groebner.specs.Lines.{Line}
use Rattle.checks.specs.Checks.{Basis}
use Rattle.staircase.specs.TermLines.{lines_of}
use Rattle.acceptance.specs.Whole.{Whole}
use Rattle.convert.specs.Written.{written}
use Rattle.convert.specs.Outcome.{Converts, Fits, Converted}

abbrev pub Output : (p : ℕ) (h : 1 < p) (n : ℕ) → List (Line (ZMod p) (Row n)) → ℕ → Judged Bytes → Type 0
Output p h n G room o = (H : List (Line (ZMod p) (Row n))) × (B : List (Row n)) × Converts p h n G H B × Fits room (written p h n H B) o

abbrev pub lines_of_basis : (b : Basis) → 1 < b.p → List (Line (ZMod b.p) (Row b.n))
lines_of_basis b h = lines_of b.p h b.n b.generators

abbrev pub WholeOf : (b : Basis) → 1 < b.p → ℕ → Judged Bytes → Type 0
WholeOf b h room = Whole b.p h b.n (lines_of_basis b h) (Output b.p h b.n (lines_of_basis b h) room)

pub converted-whole : (b : Basis) (prime : Prime b.p) (room : ℕ) (o : Judged Bytes) → Converted b room o → WholeOf b prime.above_one room o
converted-whole b prime room o (h, w) = subst (λ (h : 1 < b.p). WholeOf b h room o) (le_prop h prime.above_one) w

pub passed-output : (room : ℕ) (text out : Bytes) → Fits room text (passed out) → (out ≡ text) × (¬ (room < length text))
passed-output room text out (inl (l, e)) = let z : ◌≡◌ {A = ℕ} 0 1 = cc in absurd (omega arith)
passed-output room text out (inr (n, e)) = (cc, n)

pub refused-output : (room : ℕ) (text : Bytes) (k line : ℕ) → Fits room text (refused k line) → (k ≡ 16) × (line ≡ 0)
refused-output room text k line (inl (l, e)) = (cc, cc)
refused-output room text k line (inr (n, e)) = let z : ◌≡◌ {A = ℕ} 0 1 = cc in absurd (omega arith)
