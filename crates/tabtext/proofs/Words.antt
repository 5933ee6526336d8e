-- Bytes, words and order words: printing and reading undo each other.
--   read-of-byte, byte-of-read     one byte
--   read-of-word, word-of-read     a word
--   word-said                      whether a word stands at a place: past the end none does but the empty one, which is at every place
--   Letter                         the letters a to z
--   read-of-order, order-of-read   an order word: 1 to 8 letters
use Prim.Native.Nat.{ℕ, zero, suc, ◌+◌, ◌-◌, ◌≤◌, min}
use mathlib.Core.Path.{◌≡◌, refl, ap, sym, ◌∙◌}
use mathlib.Core.List.{[], ◌∷◌, ◌++◌, append_assoc, append-nil}
use mathlib.Core.Bool.{Bool, true, false}
use mathlib.Core.Logic.{⊎_elim}
use native.Mathlib.Nat.{eq-zero-or-pos}
use native.Mathlib.Omega.{arith}
use lib.Dec.{eqb}
use lib.ListN.{length, take, drop, length-append, length-drop}
use lib.Seq.{drop-drop, take-length}
use borrow.Author.Tests.{eq-eqb, eqb-true, le-leb}
use Rattle.std.specs.List.{starts_with as begins_with}
use Rattle.std.proofs.lemmas.Bool.Decides.{Decides-eqb}
use Rattle.std.proofs.lemmas.List.{drop_min}
use Rattle.std.proofs.lemmas.Slice.Eq.{starts_is}
use Rattle.lists.specs.Lists.{Bytes, Each}
use Rattle.tabtext.specs.Answers.{WordAt, WordSays}
use Rattle.tabtext.specs.Readers.{Got, got, bad, pure, first, starts_with, read_byte, read_word, letter, more_letters, read_order}
use Rattle.tabtext.proofs.Steps.{got-value, got-rest, got-not-bad, after-got, after-back}
use Rattle.tabtext.proofs.Places.{false-true, letter-is, letter-first}

pub read-of-byte : (b : ℕ) (rest : Bytes) → read_byte b (b ∷ rest) ≡ got tt rest
unfolding read_byte starts_with
read-of-byte b rest = rw (read_byte, starts_with, eq-eqb b b refl)

pub byte-of-read : (b : ℕ) (s : Bytes) {v : Unit} {rest : Bytes} → read_byte b s ≡ got v rest → s ≡ b ∷ rest
unfolding read_byte starts_with
byte-of-read b [] e = absurd (got-not-bad (sym e))
byte-of-read b (a ∷ s) {v} {rest} e = go (eqb a b) refl
  where
    go : (t : Bool) → eqb a b ≡ t → a ∷ s ≡ b ∷ rest
    go true q = let r : got tt s ≡ got v rest = rw (read_byte, starts_with, q) at e in ap (λ x. x ∷ s) (eqb-true a b q) ∙ ap (λ x. b ∷ x) (got-rest r)
    go false q = let r : bad ≡ got v rest = rw (read_byte, starts_with, q) at e in absurd (got-not-bad (sym r))

pub read-of-word : (w rest : Bytes) → read_word w (w ++ rest) ≡ got tt rest
unfolding read_word pure
read-of-word [] rest = refl
read-of-word (b ∷ w) rest = after-got _ _ _ (read-of-byte b (w ++ rest)) ∙ read-of-word w rest

pub word-of-read : (w s : Bytes) {v : Unit} {rest : Bytes} → read_word w s ≡ got v rest → s ≡ w ++ rest
unfolding read_word pure
word-of-read [] s e = got-rest e
word-of-read (b ∷ w) s e =
    let r = after-back _ _ _ e in
    byte-of-read b s r.front ∙ ap (λ x. b ∷ x) (word-of-read w r.between r.back)

no-word : (w : Bytes) → length w ≡ 0 → w ≡ []
no-word [] z = refl
no-word (b ∷ w) z = absurd (omega (arith, z))

-- What `starts_with` says of the bytes from a place on.
module _ (w s : Bytes) (at : ℕ) where
  word-begins : (length w ≡ 0 → at ≤ length s) → drop at s ≡ w ++ drop (length w) (drop at s) → WordAt w s at
  word-begins h e =
      let long : length s - at ≡ length w + length (drop (length w) (drop at s)) = sym (length-drop at s) ∙ ap length e ∙ length-append w _ in
      record {
        reads = ap (read_word w) e ∙ read-of-word w _ ∙ ap (got tt) (drop-drop (length w) at s);
        inside = ⊎_elim (λ z. omega (arith, h z, z)) (λ q. omega (arith, long, q)) (eq-zero-or-pos (length w));
      }

  pub word-said : (b : Bool) {i : ℕ} → i ≡ min at (length s) → b ≡ begins_with eqb (take (length s - i) (drop i s)) w →
      ((length w ≡ 0 → at ≤ length s) → WordSays w s at b) × (length w ≡ 0 → b ≡ true)
  word-said b {i} m e =
      let rest : drop i s ≡ drop at s = rw m (drop_min at s) in
      let d = starts_is Decides-eqb (drop at s) w b (e ∙ rw (← length-drop i s, take-length (drop i s), rest)) in
      (λ h. go b h d, λ z. d.1 (drop at s) (ap (λ l. l ++ drop at s) (sym (no-word w z))))
    where
      go : (b : Bool) → (length w ≡ 0 → at ≤ length s) → (b ≡ true → drop at s ≡ w ++ drop (length w) (drop at s)) × ((rest : Bytes) → drop at s ≡ w ++ rest → b ≡ true)
          → WordSays w s at b
      go true h d = word-begins h (d.0 refl)
      go false h d = other (read_word w (drop at s)) refl
        where
          other : (g : Got Unit) → read_word w (drop at s) ≡ g → read_word w (drop at s) ≡ bad
          other (got v rest) q = absurd (false-true (d.1 rest (word-of-read w (drop at s) q)))
          other bad q = q

abbrev pub Letter : ℕ → Type 0
Letter b = (97 ≤ b) × (b ≤ 122)

-- A letter stands first.
letter-cons : (b : ℕ) (s : Bytes) → Letter b → letter (b ∷ s) ≡ true
unfolding first
letter-cons b s l = letter-is (b ∷ s) b refl l.0 ∙ le-leb b 122 l.1

cons-letter : (s : Bytes) → letter s ≡ true → (s ≡ first s ∷ drop 1 s) × Letter (first s)
unfolding letter first
cons-letter [] e = absurd (let l = letter-first [] e in omega arith)
cons-letter (b ∷ s) e = (refl, letter-first (b ∷ s) e)

read-of-letters : (k : ℕ) (w u rest : Bytes) → Each Letter u → length u ≤ k → letter rest ≡ false → more_letters k w (u ++ rest) ≡ got (w ++ u) rest
unfolding more_letters first
read-of-letters zero w [] rest l h e = rw append-nil
read-of-letters (suc k) w [] rest l h e = rw (append-nil, more_letters, e)
read-of-letters zero w (b ∷ u) rest l h e = absurd (omega arith)
read-of-letters (suc k) w (b ∷ u) rest l h e =
    rw (more_letters, letter-cons b (u ++ rest) l.0)
    (read-of-letters k (w ++ (b ∷ [])) u rest l.1 (omega arith) e ∙ rw append_assoc)

-- What the reader of letters has read: at most k letters.
record Letters (k : ℕ) (w s v rest : Bytes) : Type 0 where
  more : Bytes
  word : v ≡ w ++ more
  most : length more ≤ k
  each : Each Letter more
  text : s ≡ more ++ rest

letters-of-read : (k : ℕ) (w s : Bytes) {v rest : Bytes} → more_letters k w s ≡ got v rest → Letters k w s v rest
unfolding more_letters
letters-of-read zero w s e = record { more = []; word = sym (got-value e) ∙ rw append-nil; most = omega arith; each = tt; text = got-rest e }
letters-of-read (suc k) w s {v} {rest} e = go (letter s) refl (λ q. letters-of-read k (w ++ (first s ∷ [])) (drop 1 s) q)
  where
    go : (t : Bool) → letter s ≡ t →
        (more_letters k (w ++ (first s ∷ [])) (drop 1 s) ≡ got v rest → Letters k (w ++ (first s ∷ [])) (drop 1 s) v rest) →
        Letters (suc k) w s v rest
    go true q again =
        let r = again (rw (more_letters, q) at e) in
        let f = cons-letter s q in
        record {
          more = first s ∷ r.more;
          word = r.word ∙ rw append_assoc;
          most = omega (arith, r.most);
          each = (f.1, r.each);
          text = f.0 ∙ ap (λ x. first s ∷ x) r.text;
        }
    go false q again =
        let r : got w s ≡ got v rest = rw (more_letters, q) at e in
        record { more = []; word = sym (got-value r) ∙ rw append-nil; most = omega arith; each = tt; text = got-rest r }

pub read-of-order : (w rest : Bytes) → 1 ≤ length w → length w ≤ 8 → Each Letter w → letter rest ≡ false → read_order (w ++ rest) ≡ got w rest
unfolding read_order first
read-of-order [] rest p q l e = absurd (omega arith)
read-of-order (b ∷ w) rest p q l e = rw (read_order, letter-cons b (w ++ rest) l.0) (read-of-letters 7 (b ∷ []) w rest l.1 (omega arith) e)

pub order-of-read : (s : Bytes) {w rest : Bytes} → read_order s ≡ got w rest → (1 ≤ length w) × (length w ≤ 8) × Each Letter w × (s ≡ w ++ rest)
unfolding read_order
order-of-read s {w} {rest} e = go (letter s) refl
  where
    go : (t : Bool) → letter s ≡ t → (1 ≤ length w) × (length w ≤ 8) × Each Letter w × (s ≡ w ++ rest)
    go true q =
        let r = letters-of-read 7 (first s ∷ []) (drop 1 s) (rw (read_order, q) at e) in
        let f = cons-letter s q in
        rw r.word (omega arith, omega (arith, r.most), (f.1, r.each), f.0 ∙ ap (λ x. first s ∷ x) r.text)
    go false q = let r : bad ≡ got w rest = rw (read_order, q) at e in absurd (got-not-bad (sym r))
