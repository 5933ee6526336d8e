-- What the answer of `read_record` says of the text.
--   RecordLine      a line found at a place: its bytes, its number, its kind, and the place after it
--   record-found    a found record is that of a line of the form
--   record-none     where there is no record no line is read
--   terms-of-line   the terms of a poly line, from the place where its span starts
use Prim.Native.Nat.{ℕ, ◌+◌, ◌-◌, ◌≤◌, ◌<◌}
use mathlib.Core.Path.{◌≡◌, refl, ap, sym, ◌∙◌}
use mathlib.Core.List.{List, [], ◌∷◌, ◌++◌, append_assoc}
use native.Mathlib.Omega.{arith}
use lib.ListN.{length, drop, length-append, length-drop}
use lib.Seq.{drop-drop, drop-append_seam}
use Rattle.std.specs.Prelude.{Option, Some, None}
use Rattle.lists.specs.Lists.{Bytes}
use Rattle.lines.specs.Terms.{Term}
use Rattle.tabtext.specs.Text.{bytes, TextLine, generator, line, Form}
use Rattle.tabtext.specs.Readers.{Got, got, bad, read_terms, read_line}
use Rattle.tabtext.specs.Answers.{kind_of, read_of, read_at}
use Rattle.tabtext.specs.declared.record.Record.{Record}
use Rattle.tabtext.proofs.LineTexts.{generator-text}
use Rattle.tabtext.proofs.LineKinds.{read-of-terms}
use Rattle.tabtext.proofs.Lines.{print-of-read}

pub record RecordLine (n k : ℕ) (s : Bytes) (at : ℕ) (r : Record) (i : ℕ) : Type 0 where
  pub text : TextLine
  pub form : Form n text
  pub reads : read_line n (drop at s) ≡ got text (drop i s)
  pub printed : drop at s ≡ line text ++ (10 ∷ drop i s)
  pub number : r.line ≡ k
  pub kind : r.kind ≡ kind_of at i text
  pub after : at < i
  pub inside : i ≤ length s

-- What stands after u, which stands at a place.
drop-after : (s u rest : Bytes) (at : ℕ) → drop at s ≡ u ++ rest → drop (at + length u) s ≡ rest
drop-after s u rest at e = sym (drop-drop (length u) at s) ∙ ap (drop (length u)) e ∙ drop-append_seam u rest

found : {x y : Record × ℕ} → Some x ≡ Some y → x ≡ y
found e = cc

none-not-found : {r : Record} {i : ℕ} → ◌≡◌ {A = Option (Record × ℕ)} None (Some (r, i)) → ⊥
none-not-found e = let z : ◌≡◌ {A = ℕ} 0 1 = cc in omega arith

module _ (n k : ℕ) (s : Bytes) (at : ℕ) where
  pub record-found : (r : Record) (i : ℕ) → read_at n k s at ≡ Some (r, i) → RecordLine n k s at r i
  record-found r i e = go (read_line n (drop at s)) refl e
    where
      go : (g : Got TextLine) → read_line n (drop at s) ≡ g → read_of k s at g ≡ Some (r, i) → RecordLine n k s at r i
      go (got l rest) q f =
          let p = print-of-read n (drop at s) q in
          let same = found f in
          let here : length s - length rest ≡ i = ap (λ x. x.1) same in
          let long : length s ≡ at + (length (line l) + (1 + length rest)) =
          omega (arith, length-drop at s, ap length p.1, length-append (line l) (10 ∷ rest)) in
          let u = line l ++ (10 ∷ []) in
          let place : i ≡ at + length u = omega (arith, length-append (line l) (10 ∷ [])) in
          let rests : drop i s ≡ rest = ap (λ x. drop x s) place ∙ drop-after s u rest at (p.1 ∙ sym (append_assoc (line l) (10 ∷ []) rest)) in
          record {
            text = l;
            form = p.0;
            reads = rw rests q;
            printed = rw rests p.1;
            number = ap (λ x. x.0.line) (sym same);
            kind = ap (λ x. x.0.kind) (sym same) ∙ rw here;
            after = omega arith;
            inside = omega arith;
          }
      go bad q f = absurd (none-not-found f)

  pub record-none : read_at n k s at ≡ None → read_line n (drop at s) ≡ bad
  record-none e = go (read_line n (drop at s)) refl e
    where
      go : (g : Got TextLine) → read_line n (drop at s) ≡ g → read_of k s at g ≡ None → read_line n (drop at s) ≡ bad
      go (got l rest) q f = absurd (none-not-found (sym f))
      go bad q f = q

  -- The fields of a line stand after its word.
  pub terms-of-line : {rest : Bytes} {terms : List Term} → read_line n (drop at s) ≡ got (generator terms) rest → read_terms n (drop (at + 4) s) ≡ got terms rest
  unfolding bytes
  terms-of-line {rest} {terms} e =
      let p = print-of-read n (drop at s) e in
      rw (drop-after s (bytes "poly") _ at (p.1 ∙ generator-text rest terms)) (read-of-terms n terms rest p.0.1)
