-- Two reversals that put the last of the elements before a place among the others.
--   part-reversed   what the reversal of a part leaves of a list
--   two-reversals   the reversals of the elements from place k on, and of those behind it
use mathlib.Core.Path.{◌≡◌, refl, sym, ap, ◌∙◌}
use mathlib.Core.List.{List, [], ◌∷◌, ◌++◌, reverse, append_assoc, reverse-append, reverse-reverse}
use Prim.Native.Nat.{ℕ, ◌+◌, ◌-◌, ◌<◌}
use native.Mathlib.Omega.{arith}
use lib.ListN.{length, take, drop, length-append, length-reverse, length-drop, take-append-drop}
use Rattle.std.proofs.lemmas.List.{length-take-le, take_at, drop_at}
use borrow.Rule.Slice.PartMut.{put_mid}
use Rattle.std.specs.Prelude.{insert}

module _ {A : Type 0} where
  pub part-reversed : (xs a mid rest r : List A) (k m : ℕ) → xs ≡ a ++ (mid ++ rest) → length a ≡ k → length mid ≡ m → r ≡ reverse (take m (drop k xs))
      → put_mid k m xs r ≡ a ++ (reverse mid ++ rest)
  part-reversed xs a mid rest r k m e h l i =
      let front : take k xs ≡ a = rw e (take_at a (mid ++ rest) k h) in
      let behind : drop k xs ≡ mid ++ rest = rw e (drop_at a (mid ++ rest) k h) in
      let part : r ≡ reverse mid = i ∙ rw behind (ap reverse (take_at mid rest m l)) in
      let left : drop m (drop k xs) ≡ rest = rw behind (drop_at mid rest m l) in
      rw (front, part, left) refl

  module _ (xs front rest r s : List A) (last : A) (k end : ℕ) (h : k < end) (e : xs ≡ front ++ (last ∷ rest)) (l : length front + 1 ≡ end) where
    abbrev a : List A
    a = take k front

    abbrev b : List A
    b = drop k front

    cut : length a ≡ k
    cut = length-take-le k front (omega (arith, h, l))

    left : length b ≡ length front - k
    left = length-drop k front

    pub two-reversals : r ≡ reverse (take (end - k) (drop k xs))
        → let ys = put_mid k (end - k) xs r in s ≡ reverse (take (end - (k + 1)) (drop (k + 1) ys)) → put_mid (k + 1) (end - (k + 1)) ys s ≡ insert front k last ++ rest
    two-reversals i j =
        part-reversed _ (a ++ (last ∷ [])) (reverse b) rest s (k + 1) (end - (k + 1)) once (length-append a (last ∷ []) ∙ ap (λ n. n + 1) cut)
        (length-reverse b ∙ omega (arith, left, h, l)) j
        ∙ rw (reverse-reverse b) (append_assoc a (last ∷ []) (b ++ rest) ∙ sym (append_assoc a (last ∷ b) rest))
      where
        whole : xs ≡ a ++ ((b ++ (last ∷ [])) ++ rest)
        whole = e ∙ ap (λ f. f ++ (last ∷ rest)) (sym (take-append-drop k front)) ∙ append_assoc a b (last ∷ rest) ∙ ap (λ r. a ++ r) (sym (append_assoc b (last ∷ []) rest))

        once : put_mid k (end - k) xs r ≡ (a ++ (last ∷ [])) ++ (reverse b ++ rest)
        once = part-reversed xs a (b ++ (last ∷ [])) rest r k (end - k) whole cut (length-append b (last ∷ []) ∙ omega (arith, left, h, l)) i
            ∙ rw (reverse-append b (last ∷ [])) (sym (append_assoc a (last ∷ []) (reverse b ++ rest)))
