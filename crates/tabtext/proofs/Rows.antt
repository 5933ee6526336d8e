-- Exponents, rows and terms: printing and reading undo each other.
--   no-digit-below                 a byte below 48 is no digit
--   no-digit-above                 a byte above 57 is no digit
--   read-of-field, field-of-read   a separator and a number
--   read-of-row, row-of-read       a separator and n exponents
--   read-of-term, term-of-read     a coefficient and n exponents
use Prim.Native.Nat.{ℕ, zero, suc, ◌<◌}
use mathlib.Core.Path.{◌≡◌, refl, ap, sym, ◌∙◌}
use mathlib.Core.List.{List, [], ◌∷◌, ◌++◌, append_assoc, append-nil, map}
use native.Mathlib.Omega.{arith}
use lib.ListN.{length, length-append}
use Rattle.lists.specs.Lists.{Bytes, Each}
use Rattle.lines.specs.Terms.{Term}
use Rattle.tabtext.specs.Text.{decimal, part, dotted, term, Number, Exponents}
use Rattle.tabtext.specs.Readers.{got, pure, first, read_field, read_exponent, more_exponents, read_row, read_term}
use Rattle.tabtext.proofs.Steps.{got-value, got-rest, then-got, then-back, pure-back, after-got, after-back}
use Rattle.tabtext.proofs.Places.{digit-above, digit-below}
use Rattle.tabtext.proofs.Words.{read-of-byte, byte-of-read}
use Rattle.tabtext.proofs.Numbers.{NoDigit, read-of-number, number-of-read}
use Rattle.tabtext.proofs.Parted.{each_after, part-after}

pub no-digit-below : (b : ℕ) (s : Bytes) → b < 48 → NoDigit (b ∷ s)
unfolding first
no-digit-below b s h = omega (arith, digit-below (b ∷ s) b refl h)

pub no-digit-above : (b : ℕ) (s : Bytes) → 57 < b → NoDigit (b ∷ s)
unfolding first
no-digit-above b s h = omega (arith, digit-above (b ∷ s) b refl h)

pub read-of-field : (sep v : ℕ) (rest : Bytes) → Number v → NoDigit rest → read_field sep (sep ∷ (decimal v ++ rest)) ≡ got v rest
unfolding read_field
read-of-field sep v rest h e = after-got _ _ _ (read-of-byte sep (decimal v ++ rest)) ∙ read-of-number v rest h e

pub field-of-read : (sep : ℕ) (s : Bytes) {v : ℕ} {rest : Bytes} → read_field sep s ≡ got v rest → Number v × (s ≡ sep ∷ (decimal v ++ rest))
unfolding read_field
field-of-read sep s e =
    let r = after-back _ _ _ e in
    let n = number-of-read r.between r.back in
    (n.0, byte-of-read sep s r.front ∙ ap (λ x. sep ∷ x) n.1)

-- An exponent that stands after j others, and exponents that do.
unfoldable exponent_after : ℕ → ℕ → Bytes
exponent_after zero v = decimal v
exponent_after (suc j) v = 46 ∷ decimal v

unfoldable exponents_after : ℕ → List ℕ → Bytes
exponents_after j [] = []
exponents_after j (v ∷ e) = exponent_after j v ++ exponents_after (suc j) e

later-exponents : (j : ℕ) (e : List ℕ) → exponents_after (suc j) e ≡ each_after 46 (map decimal e)
unfolding exponents_after exponent_after each_after
later-exponents j [] = refl
later-exponents j (v ∷ e) = ap (λ x. 46 ∷ (decimal v ++ x)) (later-exponents (suc j) e)

all_exponents : (e : List ℕ) → dotted e ≡ exponents_after 0 e
unfolding dotted part exponents_after exponent_after
all_exponents [] = refl
all_exponents (v ∷ e) = part-after 46 (decimal v) (map decimal e) ∙ ap (λ x. decimal v ++ x) (sym (later-exponents 0 e))

no-digit-later : (j : ℕ) (e : List ℕ) (rest : Bytes) → NoDigit rest → NoDigit (exponents_after (suc j) e ++ rest)
unfolding exponents_after exponent_after
no-digit-later j [] rest h = h
no-digit-later j (v ∷ e) rest h = no-digit-below 46 _ (omega arith)

read-of-exponent : (j v : ℕ) (rest : Bytes) → Number v → NoDigit rest → read_exponent j (exponent_after j v ++ rest) ≡ got v rest
unfolding read_exponent exponent_after
read-of-exponent zero v rest h e = read-of-number v rest h e
read-of-exponent (suc j) v rest h e = read-of-field 46 v rest h e

exponent-of-read : (j : ℕ) (s : Bytes) {v : ℕ} {rest : Bytes} → read_exponent j s ≡ got v rest → Number v × (s ≡ exponent_after j v ++ rest)
unfolding read_exponent exponent_after
exponent-of-read zero s e = number-of-read s e
exponent-of-read (suc j) s e = field-of-read 46 s e

-- One exponent more.
length-snoc : (e : List ℕ) (v : ℕ) → length (e ++ (v ∷ [])) ≡ suc (length e)
length-snoc e v = omega (arith, length-append e (v ∷ []))

read-of-exponents : (e row : List ℕ) (rest : Bytes) → Each Number e → NoDigit rest →
    more_exponents (length e) row (exponents_after (length row) e ++ rest) ≡ got (row ++ e) rest
unfolding more_exponents exponents_after pure
read-of-exponents [] row rest h d = rw append-nil
read-of-exponents (v ∷ e) row rest h d =
    let later = exponents_after (suc (length row)) e ++ rest in
    let again = read-of-exponents e (row ++ (v ∷ [])) rest h.1 d in
    rw append_assoc
    (then-got _ _ _ (read-of-exponent (length row) v later h.0 (no-digit-later (length row) e rest d)) ∙ rw (length-snoc, append_assoc) at again)

-- What the reader of exponents has read: n exponents.
record Read (n : ℕ) (row : List ℕ) (s : Bytes) (e : List ℕ) (rest : Bytes) : Type 0 where
  more : List ℕ
  row_is : e ≡ row ++ more
  form : Exponents n more
  text : s ≡ exponents_after (length row) more ++ rest

exponents-of-read : (n : ℕ) (row : List ℕ) (s : Bytes) {e : List ℕ} {rest : Bytes} → more_exponents n row s ≡ got e rest → Read n row s e rest
unfolding more_exponents exponents_after pure
exponents-of-read zero row s e = record { more = []; row_is = sym (got-value e) ∙ rw append-nil; form = (refl, tt); text = got-rest e }
exponents-of-read (suc n) row s {e = _} {rest} e =
    let r = then-back _ _ _ e in
    let v = r.value in
    let f = exponent-of-read (length row) s r.front in
    let m = exponents-of-read n (row ++ (v ∷ [])) r.between r.back in
    record {
      more = v ∷ m.more;
      row_is = m.row_is ∙ rw append_assoc;
      form = (ap suc m.form.0, (f.0, m.form.1));
      text = f.1 ∙ ap (λ x. exponent_after (length row) v ++ x) (rw length-snoc at m.text) ∙ sym (append_assoc (exponent_after (length row) v) _ rest);
    }

pub read-of-row : (n sep : ℕ) (e : List ℕ) (rest : Bytes) → Exponents n e → NoDigit rest → read_row n sep (sep ∷ (dotted e ++ rest)) ≡ got e rest
unfolding read_row
read-of-row n sep e rest h d =
    let r = read-of-exponents e [] rest h.1 d in
    after-got _ _ _ (read-of-byte sep (dotted e ++ rest)) ∙ rw (all_exponents e) (rw h.0 at r)

pub row-of-read : (n sep : ℕ) (s : Bytes) {e : List ℕ} {rest : Bytes} → read_row n sep s ≡ got e rest → Exponents n e × (s ≡ sep ∷ (dotted e ++ rest))
unfolding read_row
row-of-read n sep s {e} {rest} q =
    let r = after-back _ _ _ q in
    let m = exponents-of-read n [] r.between r.back in
    rw m.row_is (m.form, byte-of-read sep s r.front ∙ ap (λ x. sep ∷ x) (rw (← (all_exponents m.more)) at m.text))

pub read-of-term : (n : ℕ) (t : Term) (rest : Bytes) → Number t.0 → Exponents n t.1 → NoDigit rest → read_term n (term t ++ rest) ≡ got t rest
unfolding read_term term pure
read-of-term n t rest c h d =
    rw append_assoc
    (then-got _ _ _ (read-of-number t.0 _ c (no-digit-above 58 _ (omega arith))) ∙ then-got _ _ _ (read-of-row n 58 t.1 rest h d))

pub term-of-read : (n : ℕ) (s : Bytes) {t : Term} {rest : Bytes} → read_term n s ≡ got t rest → Number t.0 × Exponents n t.1 × (s ≡ term t ++ rest)
unfolding read_term term
term-of-read n s {t} {rest} e =
    let c = then-back _ _ _ e in
    let r = pure-back (read_row n 58) (λ e. (c.value, e)) c.between c.back in
    let v = number-of-read s c.front in
    let m = row-of-read n 58 c.between r.1 in
    rw r.2 (v.0, m.0, v.1 ∙ ap (λ x. decimal c.value ++ x) m.1 ∙ sym (append_assoc (decimal c.value) _ rest))
