-- The word between two places of a text.
--   word-other     it is not a word of another length
--   word_same      of its length: it is the word exactly if that stands there
use Prim.Native.Nat.{ℕ, ◌-◌, ◌≤◌}
use mathlib.Core.Path.{◌≡◌, refl, ap, sym, ◌∙◌}
use mathlib.Core.Bool.{Bool, true, false, false≢true}
use mathlib.Core.Logic.{◌↔◌}
use mathlib.Core.List.{◌++◌}
use native.Mathlib.Omega.{arith}
use lib.ListN.{length, take, drop, take-append-drop, length-drop}
use lib.Seq.{take-append_seam, length-take-le}
use Rattle.lists.specs.Lists.{Bytes}
use Rattle.tabtext.specs.Readers.{got, bad, read_word}
use Rattle.tabtext.specs.Answers.{WordSays}
use Rattle.tabtext.proofs.Steps.{got-not-bad}
use Rattle.tabtext.proofs.Words.{read-of-word, word-of-read}

module _ (w s : Bytes) (start end : ℕ) where
  pub word-other : start ≤ end → end ≤ length s → ¬ (end - start ≡ length w) → ¬ (take (end - start) (drop start s) ≡ w)
  word-other h k n e = n (sym (length-take-le (end - start) (drop start s) (omega (arith, length-drop start s))) ∙ ap length e)

  -- It is the word that is read there.
  word_stands : {v : Unit} {rest : Bytes} → end - start ≡ length w → read_word w (drop start s) ≡ got v rest → take (end - start) (drop start s) ≡ w
  word_stands {v} {rest} l e = rw (l, word-of-read w (drop start s) e) (take-append_seam w rest)

  -- It is not the word that is not read there.
  word-absent : end - start ≡ length w → read_word w (drop start s) ≡ bad → ¬ (take (end - start) (drop start s) ≡ w)
  word-absent l e h =
      let t = drop start s in
      let text : w ++ drop (end - start) t ≡ t = ap (λ x. x ++ drop (end - start) t) (sym h) ∙ take-append-drop (end - start) t in
      got-not-bad (sym (read-of-word w (drop (end - start) t)) ∙ ap (read_word w) text ∙ e)

  pub word_same : (r : Bool) → end - start ≡ length w → WordSays w s start r → (r ≡ true) ↔ (take (end - start) (drop start s) ≡ w)
  word_same true l h = (λ e. word_stands l h.reads, λ e. refl)
  word_same false l h = (λ e. absurd (false≢true e), λ e. absurd (word-absent l h e))
