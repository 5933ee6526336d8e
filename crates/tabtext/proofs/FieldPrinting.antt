-- Loops over fields that are put into a sink, each with a separator before it: the fields from place j on are left.
--   PrintingFields takes after show sep l more most was whole now j
--                                 a loop that prints the fields of l, each of fewer than `most` bytes, at place j; `more` comes after them
--   printing-room                 there is room for a field and its separator
--   printing-turn                 a turn
--   printing-last                 after the last turn, what comes after the fields is left
--   printing-short                and each field is so short
use Prim.Native.Nat.{ℕ, zero, suc, ◌+◌, ◌<◌}
use mathlib.Core.Path.{◌≡◌, ap, sym, ◌∙◌, subst}
use mathlib.Core.List.{List, [], ◌∷◌}
use native.Mathlib.Omega.{arith}
use native.Mathlib.Numerals.{add-one}
use lib.ListN.{length, take, drop}
use lib.Seq.{take-length}
use Rattle.lists.specs.Lists.{Bytes, Each}
use Rattle.tabtext.specs.Sinks.{SinkLaws}
use Rattle.tabtext.proofs.Separators.{StandsAt, fields_from, fields_more, fields_none}
use Rattle.tabtext.proofs.Writing.{Left, left-room, left_less}

module _ {A : Type 0} (P : A → Type 0) where
  each-next : (j : ℕ) (l : List A) (x : A) → drop j l ≡ x ∷ drop (suc j) l → P x → Each P (take j l) → Each P (take (suc j) l)
  each-next zero [] x s p e = tt
  each-next zero (y ∷ l) x s p e = let q : x ≡ y = cc in (subst P q p, tt)
  each-next (suc j) [] x s p e = tt
  each-next (suc j) (y ∷ l) x s p e = (e.0, each-next j l x s p e.1)

  -- One element more.
  pub each_more : (l : List A) (j : ℕ) (x : A) → StandsAt l j x → P x → Each P (take j l) → Each P (take (j + 1) l)
  each_more l j x s p e = rw (add-one j) (each-next j l x (rw (add-one j) at s) p e)

module _ {S A : Type 0} (takes : S → ℕ → Type 0) (after : S → Bytes → S) (show : A → Bytes) (sep : ℕ) (l : List A) (more : Bytes) (most : ℕ) where
  pub record PrintingFields (was : S) (whole : Bytes) (now : S) (j : ℕ) : Type 0 where
    pub left : Left takes after was whole (fields_from show sep l more j) now
    pub short : Each (λ x. length (show x) < most) (take j l)

module _ {S A : Type 0} {takes : S → ℕ → Type 0} {after : S → Bytes → S} (laws : SinkLaws takes after)
    {show : A → Bytes} {sep : ℕ} {l : List A} {more : Bytes} {most : ℕ} {was : S} {whole : Bytes} {now : S} {j : ℕ}
    (f : PrintingFields takes after show sep l more most was whole now j) where
  pub printing-room : (x : A) → StandsAt l j x → takes now (length (sep ∷ show x))
  printing-room x s = left-room laws (sep ∷ show x) _ (fields_more show sep l more j x s) f.left

  pub printing-turn : (x : A) {next : S} → StandsAt l j x → length (show x) < most → next ≡ after now (sep ∷ show x) → PrintingFields takes after show sep l more most was whole next (j + 1)
  printing-turn x s b w = record {
    left = left_less laws (sep ∷ show x) _ (fields_more show sep l more j x s) f.left w;
    short = each_more (λ x. length (show x) < most) l j x s b f.short;
  }

  module _ (h : length l ≡ j) where
    pub printing-last : Left takes after was whole more now
    printing-last = subst (λ (r : Bytes). Left takes after was whole r now) (fields_none show sep l more j (omega arith)) f.left

    pub printing-short : Each (λ x. length (show x) < most) l
    printing-short = subst (Each (λ x. length (show x) < most)) (ap (λ k. take k l) (sym h) ∙ take-length l) f.short
