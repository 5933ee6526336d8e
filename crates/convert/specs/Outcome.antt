-- Believed. What a text and an output of `room` bytes come to (document 01, "Refused texts"; demands 1 and 2).
--   Converts p h n G H B       H is the reduced lex Groebner basis of the ideal of G, and B its standard monomials (demand 2)
--   Fits room out o            16, or the output
--   Converted b room o         checks 12 to 16 for a basis that was read
--   AfterChecks c room o       the refusal of checks 2 to 11 stands, or their basis goes on
--   Outcome input room o       o is the outcome of the text
use Rattle.std.specs.Prelude.{ℕ, ◌<◌, ◌≡◌, List, ◌↔◌, length}
use Rattle.lists.specs.Lists.{◌∈◌, Bytes}
use Rattle.residue.specs.Field.{ZMod, modulo}
use Rattle.monomial.specs.Rows.{Row}
use Rattle.monomial.specs.Orders.{variables}
use Rattle.monomial.specs.Ordering.{monomials, Lex, Grevlex}
use Rattle.answer.specs.Outcomes.{Judged, refused, passed, refuse◌at_0_if◌else◌}
use Rattle.groebner.specs.Lines.{Line, Rising, RisingList}
use Rattle.groebner.specs.Ideals.{SameIdeal}
use Rattle.groebner.specs.Bases.{Reduced}
use Rattle.groebner.specs.Standard.{Standard}
use Rattle.tabtext.specs.Sizes.{most_bytes}
use Rattle.checks.specs.Checks.{Basis, Checked}
use Rattle.staircase.specs.TermLines.{lines_of}
use Rattle.acceptance.specs.Whole.{Whole}
use Rattle.convert.specs.Written.{written}

-- Demand 2: the reduced lex Groebner basis of the same ideal, in rising order, and exactly its standard monomials, in rising order.
pub record Converts (p : ℕ) (h : 1 < p) (n : ℕ) (G H : List (Line (ZMod p) (Row n))) (B : List (Row n)) : Type 0 where
  pub reduced : Reduced (modulo p h) (monomials n) (Lex n (variables n)) H
  pub ideal : SameIdeal (modulo p h) (monomials n) G H
  pub rising : Rising (Lex n (variables n)) H
  pub standard : (m : Row n) → Standard (modulo p h) (monomials n) (Grevlex n) (Lex n (variables n)) G m ↔ (m ∈ B)
  pub ascending : RisingList (Lex n (variables n)) B

-- 16: the output, if the room is no shorter.
abbrev pub Fits : ℕ → Bytes → Judged Bytes → Type 0
Fits room out = refuse 16 at_0_if room < length out else λ o. o ≡ passed out

-- 12 to 16, for a basis that was read.
abbrev pub Converted : Basis → ℕ → Judged Bytes → Type 0
Converted b room o = (h : 1 < b.p) × Whole b.p h b.n (lines_of b.p h b.n b.generators) (λ o.
    (H : List (Line (ZMod b.p) (Row b.n))) × (B : List (Row b.n))
    × Converts b.p h b.n (lines_of b.p h b.n b.generators) H B × Fits room (written b.p h b.n H B) o) o

-- After checks 2 to 11: their refusal stands, or the basis goes on.
abbrev pub AfterChecks : Judged Basis → ℕ → Judged Bytes → Type 0
AfterChecks (refused number line) room o = o ≡ refused number line
AfterChecks (passed b) room o = Converted b room o

-- 1, then 2 to 11, then 12 to 16.
abbrev pub Outcome : Bytes → ℕ → Judged Bytes → Type 0
Outcome input room = refuse 1 at_0_if most_bytes < length input else λ o. (c : Judged Basis) × Checked input c × AfterChecks c room o
