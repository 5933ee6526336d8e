-- Fields up to LF: printing and reading undo each other, for every kind of field.
--   OfPrint, OfRead     what is asked of the reader of one field
--   read-of-fields      printed fields are read
--   fields-of-read      fields that are read were printed
use Prim.Native.Nat.{ℕ, zero, suc, ◌≤◌, ◌<◌}
use mathlib.Core.Path.{◌≡◌, refl, ap, sym, ◌∙◌}
use mathlib.Core.List.{List, [], ◌∷◌, ◌++◌, append_assoc, append-nil, map}
use mathlib.Core.Bool.{Bool, true, false}
use native.Mathlib.Omega.{arith}
use lib.ListN.{length, length-append, length-map}
use Rattle.lists.specs.Lists.{Bytes, Each}
use Rattle.tabtext.specs.Readers.{got, Reader, pure, starts_with, more_fields, read_fields}
use Rattle.tabtext.proofs.Steps.{got-value, got-rest, got-not-bad, then-back, after-got, after-back}
use Rattle.tabtext.proofs.Words.{read-of-byte, byte-of-read}
use Rattle.tabtext.proofs.Numbers.{NoDigit}
use Rattle.tabtext.proofs.Parted.{each_after, length-after}
use Rattle.tabtext.proofs.Rows.{no-digit-below}
use Rattle.tabtext.proofs.FieldLoop.{fields-more, fields-end}

-- A field that is printed after a tab is read, if no digit follows it.
abbrev pub OfPrint : {A : Type 0} → Reader A → (A → Bytes) → (A → Type 0) → Type 0
OfPrint {A} one show P = (a : A) (rest : Bytes) → P a → NoDigit rest → one (9 ∷ (show a ++ rest)) ≡ got a rest

-- A field that is read was printed after a tab.
abbrev pub OfRead : {A : Type 0} → Reader A → (A → Bytes) → (A → Type 0) → Type 0
OfRead {A} one show P = (s : Bytes) (a : A) (rest : Bytes) → one s ≡ got a rest → P a × (s ≡ 9 ∷ (show a ++ rest))

module _ {A : Type 0} (one : Reader A) (show : A → Bytes) (P : A → Type 0) where
  -- What follows a field is a tab or LF.
  no-digit-fields : (l : List A) (rest : Bytes) → NoDigit (each_after 9 (map show l) ++ (10 ∷ rest))
  unfolding each_after
  no-digit-fields [] rest = no-digit-below 10 rest (omega arith)
  no-digit-fields (a ∷ l) rest = no-digit-below 9 _ (omega arith)

  read_more : OfPrint one show P → (f : ℕ) (l m : List A) (rest : Bytes) → Each P m → length m < f →
      more_fields f one l (each_after 9 (map show m) ++ (10 ∷ rest)) ≡ got (l ++ m) rest
  unfolding each_after starts_with pure
  read_more print zero l m rest h b = absurd (omega arith)
  read_more print (suc f) l [] rest h b = fields-end one f l (10 ∷ rest) refl ∙ after-got _ _ _ (read-of-byte 10 rest) ∙ rw append-nil
  read_more print (suc f) l (a ∷ m) rest h b =
      let e : one (9 ∷ (show a ++ each_after 9 (map show m) ++ (10 ∷ rest))) ≡ got a (each_after 9 (map show m) ++ (10 ∷ rest)) =
      rw append_assoc (print a _ h.0 (no-digit-fields m rest)) in
      fields-more one f l _ refl e ∙ rw append_assoc at (read_more print f (l ++ (a ∷ [])) m rest h.1 (omega arith))

  pub read-of-fields : OfPrint one show P → (l : List A) (rest : Bytes) → Each P l → read_fields one (each_after 9 (map show l) ++ (10 ∷ rest)) ≡ got l rest
  unfolding read_fields
  read-of-fields print l rest h =
      let text = each_after 9 (map show l) in
      let long : length l ≤ length text = rw length-map at (length-after 9 (map show l)) in
      read_more print (suc (length (text ++ (10 ∷ rest)))) [] l rest h (omega (arith, length-append text (10 ∷ rest)))

  -- What the reader of fields has read.
  record Read (l : List A) (s : Bytes) (m : List A) (rest : Bytes) : Type 0 where
    more : List A
    all : m ≡ l ++ more
    each : Each P more
    text : s ≡ each_after 9 (map show more) ++ (10 ∷ rest)

  more-of-read : OfRead one show P → (f : ℕ) (l : List A) (s : Bytes) {m : List A} {rest : Bytes} → more_fields f one l s ≡ got m rest → Read l s m rest
  unfolding more_fields each_after pure
  more-of-read back zero l s e = absurd (got-not-bad (sym e))
  more-of-read back (suc f) l s {m} {rest} e = go (starts_with 9 s) refl (λ a t. more-of-read back f (l ++ (a ∷ [])) t)
    where
      go : (b : Bool) → starts_with 9 s ≡ b →
          ((a : A) (t : Bytes) → more_fields f one (l ++ (a ∷ [])) t ≡ got m rest → Read (l ++ (a ∷ [])) t m rest) → Read l s m rest
      go true q again =
          let r = then-back _ _ _ (rw (more_fields, q) at e) in
          let a = r.value in
          let f = back s a r.between r.front in
          let t = again a r.between r.back in
          record {
            more = a ∷ t.more;
            all = t.all ∙ rw append_assoc;
            each = (f.0, t.each);
            text = f.1 ∙ ap (λ x. 9 ∷ (show a ++ x)) t.text ∙ ap (λ x. 9 ∷ x) (sym (append_assoc (show a) _ _));
          }
      go false q again =
          let r = after-back _ _ _ (rw (more_fields, q) at e) in
          record {
            more = [];
            all = sym (got-value r.back) ∙ rw append-nil;
            each = tt;
            text = byte-of-read 10 s r.front ∙ ap (λ x. 10 ∷ x) (got-rest r.back);
          }

  pub fields-of-read : OfRead one show P → (s : Bytes) {l : List A} {rest : Bytes} → read_fields one s ≡ got l rest →
      Each P l × (s ≡ each_after 9 (map show l) ++ (10 ∷ rest))
  unfolding read_fields
  fields-of-read back s e = let r = more-of-read back (suc (length s)) [] s e in rw r.all (r.each, r.text)
