-- Bytes put into a sink, part by part.
--   Left takes after was whole rest now   what is left: with `rest` put into `now`, all of `whole` is put into `was`
--   left-all                              before anything is put, all is left
--   left-room                             there is room for the part that stands first
--   left_less                             after the part that stands first, the rest is left
--   left-none                             where nothing is left, all is put
--   left-last                             after the last part, all is put
--   put-both                              a byte, and bytes after it
use Prim.Native.Nat.{ℕ, ◌+◌}
use mathlib.Core.Path.{◌≡◌, ap, sym, ◌∙◌, subst}
use mathlib.Core.List.{[], ◌∷◌, ◌++◌}
use lib.ListN.{length, length-append}
use Rattle.lists.specs.Lists.{Bytes}
use Rattle.tabtext.specs.Sinks.{SinkLaws}

pub record Left {S : Type 0} (takes : S → ℕ → Type 0) (after : S → Bytes → S) (was : S) (whole rest : Bytes) (now : S) : Type 0 where
  pub bytes : after now rest ≡ after was whole
  pub room : takes now (length rest)

-- Room for all is room for both parts.
both : {S : Type 0} (takes : S → ℕ → Type 0) (now : S) {rest : Bytes} (part more : Bytes) → rest ≡ part ++ more → takes now (length rest) → takes now (length part + length more)
both takes now part more e t = subst (takes now) (ap length e ∙ length-append part more) t

module _ {S : Type 0} {takes : S → ℕ → Type 0} {after : S → Bytes → S} (laws : SinkLaws takes after) {was : S} {whole : Bytes} where
  pub left-all : {rest : Bytes} → whole ≡ rest → takes was (length whole) → Left takes after was whole rest was
  left-all e t = record { bytes = ap (after was) (sym e); room = subst (λ (s : Bytes). takes was (length s)) e t }

  module _ {rest : Bytes} {now : S} where
    pub left-room : (part more : Bytes) → rest ≡ part ++ more → Left takes after was whole rest now → takes now (length part)
    left-room part more e l = laws.first now (length part) (length more) (both takes now part more e l.room)

    pub left_less : (part more : Bytes) {now' : S} → rest ≡ part ++ more → Left takes after was whole rest now → now' ≡ after now part → Left takes after was whole more now'
    left_less part more e l w = record {
      bytes = ap (λ (s : S). after s more) w ∙ laws.joined now part more ∙ ap (after now) (sym e) ∙ l.bytes;
      room = subst (λ (s : S). takes s (length more)) (sym w) (laws.rest now part (length more) (both takes now part more e l.room));
    }

    pub left-none : rest ≡ [] → Left takes after was whole rest now → now ≡ after was whole
    left-none e l = sym (laws.nothing now) ∙ ap (after now) (sym e) ∙ l.bytes

    pub left-last : {now' : S} → Left takes after was whole rest now → now' ≡ after now rest → now' ≡ after was whole
    left-last l w = w ∙ l.bytes

-- A byte, and bytes after it.
pub put-both : {S : Type 0} {takes : S → ℕ → Type 0} {after : S → Bytes → S} (laws : SinkLaws takes after) {now between next : S} (b : ℕ) (bs : Bytes) →
    between ≡ after now (b ∷ []) → next ≡ after between bs → next ≡ after now (b ∷ bs)
put-both {after = after} laws {now} b bs e w = w ∙ ap (λ s. after s bs) e ∙ laws.joined now (b ∷ []) bs
