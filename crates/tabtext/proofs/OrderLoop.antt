-- The loop of `read_order`, over plain lists.
--   no-letter      no letter stands at the place
--   LettersInv     what holds at the loop's head: the letters so far, and what is left to read
--   start, turn    it holds where the loop begins, and again after a letter more
--   stop, full     the word ends where no letter stands, and after its eighth letter
use Prim.Native.Nat.{ℕ, zero, suc, ◌+◌, ◌-◌, ◌≤◌, ◌<◌}
use mathlib.Core.Path.{◌≡◌, refl, ◌∙◌}
use mathlib.Core.List.{[], ◌∷◌, ◌++◌}
use mathlib.Core.Bool.{true, false}
use native.Mathlib.Omega.{arith}
use native.Mathlib.Numerals.{sub-one}
use lib.ListN.{length, drop}
use lib.Seq.{drop-drop}
use Rattle.lists.specs.Lists.{Bytes}
use Rattle.tabtext.specs.Readers.{got, bad, first, letter, more_letters, read_order}
use Rattle.tabtext.specs.Answers.{Reading}
use Rattle.tabtext.proofs.Places.{letter-within}

pub no-letter : (s : Bytes) → letter s ≡ false → read_order s ≡ bad
unfolding read_order
no-letter s e = rw (read_order, e)

more-letter : (k : ℕ) (w s : Bytes) → 0 < k → letter s ≡ true → more_letters k w s ≡ more_letters (k - 1) (w ++ (first s ∷ [])) (drop 1 s)
unfolding more_letters
more-letter zero w s p e = absurd (omega arith)
more-letter (suc k) w s p e = rw (more_letters, e, sub-one)

more-end : (k : ℕ) (w s : Bytes) → letter s ≡ false → more_letters k w s ≡ got w s
unfolding more_letters
more-end zero w s e = refl
more-end (suc k) w s e = rw (more_letters, e)

more-full : (k : ℕ) (w s : Bytes) → k ≤ 0 → more_letters k w s ≡ got w s
unfolding more_letters
more-full zero w s h = refl
more-full (suc k) w s h = absurd (omega arith)

-- The letters from `at` up to i are read, and at most eight are.
pub record LettersInv (s : Bytes) (at i : ℕ) : Type 0 where
  pub word : Bytes
  pub rest : read_order (drop at s) ≡ more_letters (at + 8 - i) word (drop i s)
  pub after : at < i
  pub most : i ≤ at + 8
  pub inside : i ≤ length s

module _ (s : Bytes) (at : ℕ) where
  pub start : letter (drop at s) ≡ true → LettersInv s at (at + 1)
  unfolding read_order
  start e =
      let within : at < length s = letter-within s at e in
      let seven : at + 8 - (at + 1) ≡ 7 = omega arith in
      record {
        word = first (drop at s) ∷ [];
        rest = rw (seven, read_order, e, drop-drop 1 at s);
        after = omega arith;
        most = omega arith;
        inside = omega arith;
      }

  module _ (i : ℕ) (inv : LettersInv s at i) where
    pub turn : i < at + 8 → letter (drop i s) ≡ true → LettersInv s at (i + 1)
    turn p e =
        let within : i < length s = letter-within s i e in
        let less : at + 8 - i - 1 ≡ at + 8 - (i + 1) = omega arith in
        record {
          word = inv.word ++ (first (drop i s) ∷ []);
          rest = inv.rest ∙ more-letter (at + 8 - i) inv.word (drop i s) (omega arith) e ∙ rw (less, drop-drop 1 i s);
          after = omega (arith, inv.after);
          most = omega arith;
          inside = omega arith;
        }

    -- The letters so far are the word.
    ends : more_letters (at + 8 - i) inv.word (drop i s) ≡ got inv.word (drop i s) → (v : Bytes) × Reading read_order s at v i
    ends e = (inv.word, record { reads = inv.rest ∙ e; after = inv.after; inside = inv.inside })

    pub stop : letter (drop i s) ≡ false → (v : Bytes) × Reading read_order s at v i
    stop e = ends (more-end (at + 8 - i) inv.word (drop i s) e)

    pub full : at + 8 ≤ i → (v : Bytes) × Reading read_order s at v (at + 8)
    full h =
        let all : i ≡ at + 8 = omega (arith, inv.most) in
        rw all at (ends (more-full (at + 8 - i) inv.word (drop i s) (omega arith)))
