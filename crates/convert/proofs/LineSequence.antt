-- Loops over the lines of a text: the lines from place j on are left.
--   text-line                                  a line with its LF, and the lines after it
--   text-append                                lines, and the lines after them
--   CountingLines ls k j                       the lines of ls up to place j have at most k bytes each
--   counting-lines-start, -turn, -end          before the first turn; after a turn; after the last turn
--   PrintingLines ls takes after was now j     a loop that prints the lines ls to a sink, at place j
--   printing-lines-start, -room, -turn, -end   before the first turn; room for a line; a turn; after the last turn
use Prim.Native.Nat.{ℕ, ◌+◌, ◌*◌, ◌≤◌}
use mathlib.Core.Path.{◌≡◌, refl, ap, ◌∙◌}
use mathlib.Core.List.{List, [], ◌∷◌, ◌++◌, append_assoc}
use native.Mathlib.Omega.{arith}
use lib.ListN.{length, drop, drop_of_length-le, length-append}
use Rattle.lists.specs.Lists.{Bytes}
use Rattle.tabtext.specs.Text.{TextLine, line, text}
use Rattle.tabtext.specs.Printed.{printed}
use Rattle.tabtext.specs.Sinks.{SinkLaws}
use Rattle.tabtext.proofs.Separators.{StandsAt}
use Rattle.tabtext.proofs.Writing.{Left, left-all, left_less, left-none, left-room}

pub text-line : (l : TextLine) (ls : List TextLine) → text (l ∷ ls) ≡ printed l ++ text ls
unfolding text printed
text-line l ls = rw append_assoc

pub text-append : (ls ks : List TextLine) → text (ls ++ ks) ≡ text ls ++ text ks
unfolding text
text-append [] ks = refl
text-append (l ∷ ls) ks = ap (λ (s : Bytes). line l ++ (10 ∷ s)) (text-append ls ks) ∙ rw append_assoc

module _ (ls : List TextLine) where
  -- The text of the lines from place j on, where l stands.
  text-more : (j : ℕ) (l : TextLine) → StandsAt ls j l → text (drop j ls) ≡ printed l ++ text (drop (j + 1) ls)
  text-more j l s = ap text s ∙ text-line l (drop (j + 1) ls)

  text-none : (j : ℕ) → length ls ≤ j → text (drop j ls) ≡ []
  unfolding text
  text-none j h = rw (drop_of_length-le ls h)

  -- The text has at most k bytes for each line up to place j, and those of the lines from there on.
  pub record CountingLines (k j : ℕ) : Type 0 where
    pub most : length (text ls) ≤ k * j + length (text (drop j ls))

  -- `now` is the sink `was` with the lines up to j put into it.
  pub record PrintingLines {S : Type 0} (takes : S → ℕ → Type 0) (after : S → Bytes → S) (was now : S) (j : ℕ) : Type 0 where
    pub left : Left takes after was (text ls) (text (drop j ls)) now

pub counting-lines-start : (ls : List TextLine) (k : ℕ) → CountingLines ls k 0
counting-lines-start ls k = record { most = omega arith }

module _ {ls : List TextLine} {k j : ℕ} (c : CountingLines ls k j) where
  pub counting-lines-turn : (l : TextLine) → StandsAt ls j l → length (printed l) ≤ k → CountingLines ls k (j + 1)
  counting-lines-turn l s h = record {
    most = omega (arith, c.most, h, ap length (text-more ls j l s), length-append (printed l) (text (drop (j + 1) ls)));
  }

  pub counting-lines-end : length ls ≤ j → length (text ls) ≤ k * j
  counting-lines-end h = omega (arith, c.most, ap length (text-none ls j h))

module _ {S : Type 0} {takes : S → ℕ → Type 0} {after : S → Bytes → S} (laws : SinkLaws takes after) {ls : List TextLine} {was : S} where
  pub printing-lines-start : takes was (length (text ls)) → PrintingLines ls takes after was was 0
  printing-lines-start t = record { left = left-all laws refl t }

  module _ {now : S} {j : ℕ} (p : PrintingLines ls takes after was now j) where
    pub printing-lines-room : (l : TextLine) → StandsAt ls j l → takes now (length (printed l))
    printing-lines-room l s = left-room laws (printed l) (text (drop (j + 1) ls)) (text-more ls j l s) p.left

    pub printing-lines-turn : (l : TextLine) {next : S} → StandsAt ls j l → next ≡ after now (printed l) → PrintingLines ls takes after was next (j + 1)
    printing-lines-turn l s w = record { left = left_less laws _ _ (text-more ls j l s) p.left w }

    pub printing-lines-end : length ls ≤ j → now ≡ after was (text ls)
    printing-lines-end h = left-none laws (text-none ls j h) p.left
