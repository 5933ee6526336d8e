-- Bytes, letters and digits at a place of a text.
--   first-at, first_past        the byte at a place
--   starts-at, starts-past      whether a byte stands at a place
--   false-true                  false is not true
--   starts-within               where a byte stands the place is within the text
--   byte-got, byte-bad          the reader of one byte, at a place
--   ahead-got, ahead-bad        a tab stands next, or does not
--   ahead-back                  a tab that was seen stands there, and was not read
--   letter-is, letter-not       which bytes are letters
--   letter-first                a letter is a byte from 97 to 122
--   letter-within               a letter's place is within the text
--   digit-is, digit-above, digit-below
--                               which bytes are digits
--   digit-past, digit-within    no digit stands past the end; a digit's place is within the text
--   place_after                 the place after what was read
--   byte-found, starts-found, letter-found, digit-found, digit-other
--                               what `get` finds at a place: the byte, whether it is a given byte, a letter, a digit
use Prim.Native.Nat.{ℕ, ◌+◌, ◌-◌, ◌≤◌, ◌<◌}
use mathlib.Core.Path.{◌≡◌, refl, ap, sym, subst, ◌∙◌}
use mathlib.Core.List.{◌++◌}
use mathlib.Core.Logic.{inl, inr}
use mathlib.Core.Bool.{Bool, true, false, ◌&&◌}
use native.Mathlib.Omega.{arith}
use native.Mathlib.Decide.{dec_lt}
use lib.Dec.{leb, eqb}
use lib.ListN.{length, drop, get_or, drop_of_length-le, length-append, length-drop}
use lib.Seq.{drop-cons, drop-drop}
use borrow.Author.Tests.{le-leb, lt-leb, leb-true}
use Rattle.lists.specs.Lists.{Bytes}
use Rattle.std.specs.Prelude.{Option, Some, None, MatchOption}
use Rattle.std.specs.Borrow.{Bor}
use Rattle.std.specs.Char.{is_ascii_lowercase, IsAsciiDigit, IsNotAsciiDigit}
use Rattle.std.specs.Slice.{IsItemAt}
use Rattle.tabtext.specs.Readers.{got, bad, first, starts_with, read_byte, tab_ahead, letter, digit}
use Rattle.tabtext.specs.Answers.{DigitSays}
use Rattle.tabtext.proofs.Steps.{got-rest, got-not-bad}

pub first-at : (s : Bytes) (i : ℕ) → i < length s → first (drop i s) ≡ get_or s i 0
unfolding first
first-at s i h = rw (drop-cons s i 0)

pub first_past : (s : Bytes) (i : ℕ) → length s ≤ i → first (drop i s) ≡ 0
unfolding first
first_past s i h = rw (drop_of_length-le s h)

-- Where the byte is not 0 the text goes on.
first-within : (s : Bytes) (i : ℕ) → 0 < first (drop i s) → i < length s
first-within s i h = elim (dec_lt i (length s)) [ yes p ↦ p | no p ↦ absurd (omega (arith, first_past s i (omega arith))) ]

pub starts-at : (b : ℕ) (s : Bytes) (i : ℕ) → i < length s → starts_with b (drop i s) ≡ eqb (get_or s i 0) b
unfolding starts_with
starts-at b s i h = rw (drop-cons s i 0)

pub starts-past : (b : ℕ) (s : Bytes) (i : ℕ) → length s ≤ i → starts_with b (drop i s) ≡ false
unfolding starts_with
starts-past b s i h = rw (drop_of_length-le s h)

pub false-true : false ≡ true → ⊥
false-true e = let z : ◌≡◌ {A = ℕ} 0 1 = cc in omega arith

pub starts-within : (b : ℕ) (s : Bytes) (i : ℕ) → starts_with b (drop i s) ≡ true → i < length s
starts-within b s i e = elim (dec_lt i (length s)) [ yes p ↦ p | no p ↦ absurd (false-true (sym (starts-past b s i (omega arith)) ∙ e)) ]

pub byte-got : (b : ℕ) (s : Bytes) (i : ℕ) → starts_with b (drop i s) ≡ true → read_byte b (drop i s) ≡ got tt (drop (i + 1) s)
unfolding read_byte
byte-got b s i e = rw (read_byte, e, drop-drop 1 i s)

pub byte-bad : (b : ℕ) (s : Bytes) → starts_with b s ≡ false → read_byte b s ≡ bad
unfolding read_byte
byte-bad b s e = rw (read_byte, e)

pub ahead-got : (s : Bytes) → starts_with 9 s ≡ true → tab_ahead s ≡ got tt s
unfolding tab_ahead
ahead-got s e = rw (tab_ahead, e)

pub ahead-bad : (s : Bytes) → starts_with 9 s ≡ false → tab_ahead s ≡ bad
unfolding tab_ahead
ahead-bad s e = rw (tab_ahead, e)

pub ahead-back : (s : Bytes) {v : Unit} {rest : Bytes} → tab_ahead s ≡ got v rest → (starts_with 9 s ≡ true) × (s ≡ rest)
ahead-back s {v} {rest} e = go (starts_with 9 s) refl
  where
    go : (b : Bool) → starts_with 9 s ≡ b → (starts_with 9 s ≡ true) × (s ≡ rest)
    go true q = (q, got-rest (sym (ahead-got s q) ∙ e))
    go false q = absurd (got-not-bad (sym e ∙ ahead-bad s q))

module _ (s : Bytes) (b : ℕ) (e : b ≡ first s) where
  pub letter-is : 97 ≤ b → letter s ≡ leb b 122
  unfolding letter
  letter-is p = rw (letter, ← e, le-leb 97 b p, ← e)

  pub letter-not : b < 97 → letter s ≡ false
  unfolding letter
  letter-not p = rw (letter, ← e, lt-leb 97 b p)

  pub digit-is : 48 ≤ b → b ≤ 57 → digit s ≡ b - 48
  unfolding digit
  digit-is p q = rw (digit, ← e, le-leb 48 b p, ← e, le-leb b 57 q, ← e)

  pub digit-above : 57 < b → digit s ≡ 10
  unfolding digit
  digit-above q = rw (digit, ← e, le-leb 48 b (omega arith), ← e, lt-leb b 57 q)

  pub digit-below : b < 48 → digit s ≡ 10
  unfolding digit
  digit-below p = rw (digit, ← e, lt-leb 48 b p)

-- A letter is a byte from 97 to 122.
pub letter-first : (s : Bytes) → letter s ≡ true → (97 ≤ first s) × (first s ≤ 122)
letter-first s e = elim (dec_lt (first s) 97) [
  | yes p ↦ absurd (false-true (sym (letter-not s _ refl p) ∙ e))
  | no p ↦ let l : 97 ≤ first s = omega arith in (l, leb-true (first s) 122 (sym (letter-is s _ refl l) ∙ e))
]

pub letter-within : (s : Bytes) (i : ℕ) → letter (drop i s) ≡ true → i < length s
letter-within s i e = let l = letter-first (drop i s) e in first-within s i (omega arith)

pub digit-past : (s : Bytes) (i : ℕ) → length s ≤ i → digit (drop i s) ≡ 10
digit-past s i h = digit-below (drop i s) 0 (sym (first_past s i h)) (omega arith)

pub digit-within : (s : Bytes) (i : ℕ) {d : ℕ} → d ≡ digit (drop i s) → d ≤ 9 → i < length s
digit-within s i e h = elim (dec_lt i (length s)) [ yes p ↦ p | no p ↦ absurd (omega (arith, digit-past s i (omega arith))) ]

pub place_after : (s w : Bytes) (i j : ℕ) → i ≤ length s → j ≤ length s → drop i s ≡ w ++ drop j s → j ≡ i + length w
place_after s w i j p q e = omega (arith, simp (length-append, length-drop) at (ap length e))

-- The byte that `get` finds.
pub byte-found : (s : Bytes) (i : ℕ) (b : Bor ℕ) → IsItemAt s i (Some b) → b.now ≡ first (drop i s)
byte-found s i b g = g.3.1 0 ∙ sym (first-at s i g.3.0)

both : (t u : Bool) → elim t [ true ↦ u | false ↦ false ] ≡ (t && u)
both true u = refl
both false u = refl

letter-of : (s : Bytes) (b : ℕ) → b ≡ first s → letter s ≡ is_ascii_lowercase b
unfolding letter
letter-of s b e = subst (λ x. elim (leb 97 x) [ true ↦ leb x 122 | false ↦ false ] ≡ is_ascii_lowercase b) e (both (leb 97 b) (leb b 122))

pub letter-found : (s : Bytes) (i : ℕ) (r : Option (Bor ℕ)) {t : Bool} → IsItemAt s i r → MatchOption r (t ≡ false) (λ b. t ≡ is_ascii_lowercase b.now) → t ≡ letter (drop i s)
letter-found s i (Some b) g e = e ∙ sym (letter-of _ _ (byte-found s i b g))
letter-found s i None g e = e ∙ sym (letter-not (drop i s) 0 (sym (first_past s i g.3)) (omega arith))

pub starts-found : (s : Bytes) (i b : ℕ) (r : Option (Bor ℕ)) {t : Bool} → IsItemAt s i r → MatchOption r (t ≡ false) (λ a. t ≡ eqb a.now b) → t ≡ starts_with b (drop i s)
starts-found s i b (Some a) g e = e ∙ ap (λ x. eqb x b) (g.3.1 0) ∙ sym (starts-at b s i g.3.0)
starts-found s i b None g e = e ∙ sym (starts-past b s i g.3)

pub digit-found : (s : Bytes) (i : ℕ) (b : Bor ℕ) → IsItemAt s i (Some b) → IsAsciiDigit b.now → DigitSays s i (Some (b.now - 48))
digit-found s i b g d = (sym (digit-is _ _ (byte-found s i b g) d.0 d.1), omega (arith, d.1))

pub digit-other : (s : Bytes) (i : ℕ) (b : Bor ℕ) → IsItemAt s i (Some b) → IsNotAsciiDigit b.now → DigitSays s i None
digit-other s i b g d = elim d [
  | inl below ↦ omega (arith, digit-below _ _ (byte-found s i b g) below)
  | inr above ↦ omega (arith, digit-above _ _ (byte-found s i b g) above)
]
