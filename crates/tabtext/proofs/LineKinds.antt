-- The five kinds of line: printing and reading undo each other.
--   OfTerm n t                             the form of a term
--   read-of-terms, terms-of-read           terms up to LF
--   read-of-rows, rows-of-read             rows of exponents up to LF
--   read-of-header, header-of-read         a basis line
--   read-of-generator, generator-of-read   a poly line
--   read-of-standard, standard-of-read     a stairs line
--   read-of-points, points-of-read         a runs line
--   read-of-end, end-of-read               an end line
use Prim.Native.Nat.{ℕ, ◌≤◌}
use mathlib.Core.Path.{◌≡◌, refl, ap, sym, ◌∙◌}
use mathlib.Core.List.{List, [], ◌∷◌, ◌++◌, map}
use mathlib.Core.Bool.{true}
use native.Mathlib.Omega.{arith}
use lib.ListN.{length}
use Rattle.lists.specs.Lists.{Bytes, Each}
use Rattle.lines.specs.Terms.{Term}
use Rattle.tabtext.specs.Text.{bytes, TextLine, header, generator, standard, points, end, decimal, dotted, term, line, Number, Exponents, Form}
use Rattle.tabtext.specs.Readers.{got, pure, ◌>>◌, first, starts_with, read_byte, read_term, read_terms, read_rows, read_last}
use Rattle.tabtext.specs.Readers.{read_header, read_generator, read_standard, read_points, read_end}
use Rattle.tabtext.proofs.Steps.{got-value, got-rest, then-got, then-back, pure-back, after-got, after-back}
use Rattle.tabtext.proofs.Places.{letter-not, ahead-got, ahead-back, false-true}
use Rattle.tabtext.proofs.Words.{read-of-byte, byte-of-read, read-of-word, word-of-read, read-of-order, order-of-read}
use Rattle.tabtext.proofs.Parted.{each_after}
use Rattle.tabtext.proofs.Rows.{no-digit-below, read-of-field, field-of-read, read-of-row, row-of-read, read-of-term, term-of-read}
use Rattle.tabtext.proofs.Fields.{OfPrint, OfRead, read-of-fields, fields-of-read}
use Rattle.tabtext.proofs.LineTexts.{header-text, generator-text, standard-text, points-text, end-text}

-- The last field of a line.
read-of-last : (v : ℕ) (rest : Bytes) → Number v → read_last (9 ∷ (decimal v ++ (10 ∷ rest))) ≡ got v rest
unfolding read_last pure
read-of-last v rest h = then-got _ _ _ (read-of-field 9 v (10 ∷ rest) h (no-digit-below 10 rest (omega arith))) ∙ after-got _ _ _ (read-of-byte 10 rest)

last-of-read : (s : Bytes) {v : ℕ} {rest : Bytes} → read_last s ≡ got v rest → Number v × (s ≡ 9 ∷ (decimal v ++ (10 ∷ rest)))
unfolding read_last pure
last-of-read s e =
    let r = then-back _ _ _ e in
    let l = after-back _ _ _ r.back in
    let f = field-of-read 9 s r.front in
    let b = byte-of-read 10 r.between l.front in
    rw (← (got-value l.back)) (f.0, f.1 ∙ ap (λ x. 9 ∷ (decimal r.value ++ x)) (b ∙ ap (λ x. 10 ∷ x) (got-rest l.back)))

pub read-of-points : (v : ℕ) (rest : Bytes) → Number v → read_points (line (points v) ++ (10 ∷ rest)) ≡ got (points v) rest
unfolding read_points pure
read-of-points v rest h = rw (points-text rest v) (after-got _ _ _ (read-of-word (bytes "runs") _) ∙ then-got _ _ _ (read-of-last v rest h))

pub read-of-end : (v : ℕ) (rest : Bytes) → Number v → read_end (line (end v) ++ (10 ∷ rest)) ≡ got (end v) rest
unfolding read_end pure
read-of-end v rest h = rw (end-text rest v) (after-got _ _ _ (read-of-word (bytes "end") _) ∙ then-got _ _ _ (read-of-last v rest h))

module _ (n : ℕ) where
  -- Terms and rows up to LF.
  abbrev pub OfTerm : Term → Type 0
  OfTerm t = Number t.0 × Exponents n t.1

  print-term : OfPrint (read_byte 9 >> read_term n) term OfTerm
  print-term t rest h d = after-got _ _ _ (read-of-byte 9 _) ∙ read-of-term n t rest h.0 h.1 d

  read-term : OfRead (read_byte 9 >> read_term n) term OfTerm
  read-term s t rest e =
      let r = after-back _ _ _ e in
      let b = term-of-read n r.between r.back in
      ((b.0, b.1), byte-of-read 9 s r.front ∙ ap (λ x. 9 ∷ x) b.2)

  pub read-of-terms : (terms : List Term) (rest : Bytes) → Each OfTerm terms → read_terms n (each_after 9 (map term terms) ++ (10 ∷ rest)) ≡ got terms rest
  unfolding read_terms
  read-of-terms terms rest h = read-of-fields _ term OfTerm print-term terms rest h

  pub terms-of-read : (s : Bytes) {terms : List Term} {rest : Bytes} → read_terms n s ≡ got terms rest →
      Each OfTerm terms × (s ≡ each_after 9 (map term terms) ++ (10 ∷ rest))
  unfolding read_terms
  terms-of-read s e = fields-of-read _ term OfTerm read-term s e

  pub read-of-rows : (rows : List (List ℕ)) (rest : Bytes) → Each (Exponents n) rows →
      read_rows n (each_after 9 (map dotted rows) ++ (10 ∷ rest)) ≡ got rows rest
  unfolding read_rows
  read-of-rows rows rest h = read-of-fields _ dotted (Exponents n) (read-of-row n 9) rows rest h

  pub rows-of-read : (s : Bytes) {rows : List (List ℕ)} {rest : Bytes} → read_rows n s ≡ got rows rest →
      Each (Exponents n) rows × (s ≡ each_after 9 (map dotted rows) ++ (10 ∷ rest))
  unfolding read_rows
  rows-of-read s e = fields-of-read _ dotted (Exponents n) (λ t e rest q. row-of-read n 9 t q) s e

  pub points-of-read : (s : Bytes) {l : TextLine} {rest : Bytes} → read_points s ≡ got l rest → Form n l × (s ≡ line l ++ (10 ∷ rest))
  unfolding read_points
  points-of-read s {l} {rest} e =
      let w = after-back _ _ _ e in
      let r = pure-back read_last points w.between w.back in
      let word = word-of-read (bytes "runs") s w.front in
      let last = last-of-read w.between r.1 in
      rw r.2 (last.0, word ∙ ap (λ x. bytes "runs" ++ x) last.1 ∙ sym (points-text rest r.0))

  pub end-of-read : (s : Bytes) {l : TextLine} {rest : Bytes} → read_end s ≡ got l rest → Form n l × (s ≡ line l ++ (10 ∷ rest))
  unfolding read_end
  end-of-read s {l} {rest} e =
      let w = after-back _ _ _ e in
      let r = pure-back read_last end w.between w.back in
      let word = word-of-read (bytes "end") s w.front in
      let last = last-of-read w.between r.1 in
      rw r.2 (last.0, word ∙ ap (λ x. bytes "end" ++ x) last.1 ∙ sym (end-text rest r.0))

  pub read-of-header : (order : Bytes) (p m : ℕ) (rest : Bytes) → Form n (header order p m) →
      read_header (line (header order p m) ++ (10 ∷ rest)) ≡ got (header order p m) rest
  unfolding read_header pure first
  read-of-header order p m rest h =
      rw (header-text rest order p m)
      (after-got _ _ _ (read-of-word (bytes "basis\t") _)
      ∙ then-got _ _ _ (read-of-order order _ h.0 h.1 h.2 (letter-not (9 ∷ _) 9 refl (omega arith)))
      ∙ then-got _ _ _ (read-of-field 9 p _ h.3 (no-digit-below 9 _ (omega arith)))
      ∙ then-got _ _ _ (read-of-last m rest h.4))

  pub header-of-read : (s : Bytes) {l : TextLine} {rest : Bytes} → read_header s ≡ got l rest → Form n l × (s ≡ line l ++ (10 ∷ rest))
  unfolding read_header
  header-of-read s {l} {rest} e =
      let w = after-back _ _ _ e in
      let o = then-back _ _ _ w.back in
      let p = then-back _ _ _ o.back in
      let r = pure-back read_last (header o.value p.value) p.between p.back in
      let word = word-of-read (bytes "basis\t") s w.front in
      let order = order-of-read w.between o.front in
      let field = field-of-read 9 o.between p.front in
      let last = last-of-read p.between r.1 in
      rw r.2 (
        (order.0, order.1, order.2, field.0, last.0),
        word
            ∙ ap (λ x. bytes "basis\t" ++ x) (order.3 ∙ ap (λ x. o.value ++ x) (field.1 ∙ ap (λ x. 9 ∷ (decimal p.value ++ x)) last.1))
            ∙ sym (header-text rest o.value p.value r.0),
      )

  pub read-of-generator : (terms : List Term) (rest : Bytes) → Form n (generator terms) →
      read_generator n (line (generator terms) ++ (10 ∷ rest)) ≡ got (generator terms) rest
  unfolding read_generator pure each_after starts_with
  read-of-generator [] rest h = absurd (omega (arith, h.0))
  read-of-generator (t ∷ ts) rest h =
      rw (generator-text rest (t ∷ ts))
      (after-got _ _ _ (read-of-word (bytes "poly") _)
      ∙ after-got _ _ _ (ahead-got _ refl)
      ∙ then-got _ _ _ (read-of-terms (t ∷ ts) rest h.1))

  -- A tab before the fields: there is one.
  one_field : (terms : List Term) (rest : Bytes) → starts_with 9 (each_after 9 (map term terms) ++ (10 ∷ rest)) ≡ true → 1 ≤ length terms
  unfolding each_after starts_with
  one_field [] rest e = absurd (false-true e)
  one_field (t ∷ ts) rest e = omega arith

  pub generator-of-read : (s : Bytes) {l : TextLine} {rest : Bytes} → read_generator n s ≡ got l rest → Form n l × (s ≡ line l ++ (10 ∷ rest))
  unfolding read_generator
  generator-of-read s {l} {rest} e =
      let w = after-back _ _ _ e in
      let a = after-back _ _ _ w.back in
      let r = pure-back (read_terms n) generator a.between a.back in
      let word = word-of-read (bytes "poly") s w.front in
      let tab = ahead-back w.between a.front in
      let fs = terms-of-read a.between r.1 in
      let one = one_field r.0 rest (ap (starts_with 9) (sym fs.1 ∙ sym tab.1) ∙ tab.0) in
      rw r.2 ((one, fs.0), word ∙ ap (λ x. bytes "poly" ++ x) (tab.1 ∙ fs.1) ∙ sym (generator-text rest r.0))

  pub read-of-standard : (monomials : List (List ℕ)) (rest : Bytes) → Form n (standard monomials) →
      read_standard n (line (standard monomials) ++ (10 ∷ rest)) ≡ got (standard monomials) rest
  unfolding read_standard pure
  read-of-standard monomials rest h =
      rw (standard-text rest monomials)
      (after-got _ _ _ (read-of-word (bytes "stairs") _)
      ∙ then-got _ _ _ (read-of-rows monomials rest h))

  pub standard-of-read : (s : Bytes) {l : TextLine} {rest : Bytes} → read_standard n s ≡ got l rest → Form n l × (s ≡ line l ++ (10 ∷ rest))
  unfolding read_standard
  standard-of-read s {l} {rest} e =
      let w = after-back _ _ _ e in
      let r = pure-back (read_rows n) standard w.between w.back in
      let word = word-of-read (bytes "stairs") s w.front in
      let fs = rows-of-read w.between r.1 in
      rw r.2 (fs.0, word ∙ ap (λ x. bytes "stairs" ++ x) fs.1 ∙ sym (standard-text rest r.0))
