-- A list that lies in its value: its places after one element more, and after its end is cut off.
--   put-splits       a list with an element put at a place, in three parts
--   blank-push       an element behind the others
--   blank-insert     an element at a place among them
--   items-insert     the elements then
--   blank-truncate   the first i elements alone
use mathlib.Core.Path.{◌≡◌, sym, ap, ◌∙◌}
use mathlib.Core.List.{List, [], ◌∷◌, ◌++◌}
use Prim.Native.Nat.{ℕ, suc, ◌+◌, ◌-◌, ◌<◌, ◌≤◌}
use native.Mathlib.Omega.{arith}
use lib.ListN.{length, take, drop, set, replicate, length-set, length-append, length-drop}
use lib.Seq.{length-take-le, drop-set-lt, drop-drop, take_at, drop_at, set_split}
use Rattle.std.specs.Prelude.{insert}
use borrow.Rule.Slice.PartMut.{mid_of, put_mid}
use Rattle.std.proofs.lemmas.List.{drop-replicate, drop_all, take_all, append-nil, length-replicate}
use Rattle.std.proofs.lemmas.List.Edits.{length-insert}
use Rattle.lines.specs.InlineLists.{BlankAfter}

pub put-splits : {A : Type 0} (k : ℕ) (l : List A) (x : A) → k < length l → set l k x ≡ take k l ++ (x ∷ drop (k + 1) l)
put-splits k l x lt =
    let next : suc k ≡ k + 1 = omega arith in
    set_split l k x lt ∙ ap (λ n. take k l ++ (x ∷ drop n l)) next

module _ {A : Type 0} (cap : ℕ) (b : A) where
  blank-less : (k : ℕ) (l : List A) → k < cap → BlankAfter cap b k l → drop (k + 1) l ≡ replicate (cap - (k + 1)) b
  blank-less k l lt h =
      let less : cap - k - 1 ≡ cap - (k + 1) = omega arith in
      sym (drop-drop 1 k l) ∙ ap (drop 1) h.rest ∙ drop-replicate 1 (cap - k) b ∙ ap (λ n. replicate n b) less

  pub blank-push : (k : ℕ) (l : List A) (x : A) → k < cap → BlankAfter cap b k l → BlankAfter cap b (k + 1) (set l k x)
  blank-push k l x lt h = record {
    fits = omega arith;
    whole = length-set l k x ∙ h.whole;
    rest = drop-set-lt (k + 1) l k x (omega arith) ∙ blank-less k l lt h;
  }

  module _ (k i : ℕ) (l after : List A) (x : A) (lt : k < cap) (le : i ≤ k) (h : BlankAfter cap b k l)
      (e : after ≡ insert (take k l) i x ++ drop (k + 1) l) where
    count : length (take k l) ≡ k
    count = length-take-le k l (omega (arith, h.fits, h.whole))

    one-more : length (insert (take k l) i x) ≡ k + 1
    one-more = length-insert (take k l) i x (omega (arith, le, count)) ∙ ap (λ n. n + 1) count

    pub blank-insert : BlankAfter cap b (k + 1) after
    blank-insert = record {
      fits = omega arith;
      whole = rw e (length-append (insert (take k l) i x) (drop (k + 1) l) ∙ omega (arith, one-more, length-drop (k + 1) l, h.whole, lt));
      rest = rw e (drop_at (insert (take k l) i x) (drop (k + 1) l) (k + 1) one-more ∙ blank-less k l lt h);
    }

    pub items-insert : take (k + 1) after ≡ insert (take k l) i x
    items-insert = rw e (take_at (insert (take k l) i x) (drop (k + 1) l) (k + 1) one-more)

  pub blank-truncate : (k i : ℕ) (l : List A) → i < k → BlankAfter cap b k l
      → BlankAfter cap b i (put_mid i (length l - i) l (mid_of i (length (replicate cap b) - i) (replicate cap b)))
  blank-truncate k i l lt h =
      let cut : length (take i l) ≡ i = length-take-le i l (omega (arith, h.fits, h.whole)) in
      let long = length-replicate cap b in
      let less = length-replicate (cap - i) b in
      let part : mid_of i (length (replicate cap b) - i) (replicate cap b) ≡ replicate (cap - i) b =
      rw (drop-replicate i cap b) (take_all _ (replicate (cap - i) b) (omega (arith, long, less))) in
      let none : drop (length l - i) (drop i l) ≡ [] = drop_all (length l - i) (drop i l) (omega (arith, length-drop i l)) in
      record {
        fits = omega (arith, h.fits);
        whole = rw (part, none, append-nil) (length-append (take i l) (replicate (cap - i) b) ∙ omega (arith, cut, less, h.fits));
        rest = rw (part, none, append-nil) (drop_at (take i l) (replicate (cap - i) b) i cut);
      }
