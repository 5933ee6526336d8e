-- Lines: printing and reading undo each other, for every number of variables.
--   read-of-print    a printed line of the form is read
--   print-of-read    a line that is read is of the form, and was printed
--   Stands n s       a line of the form stands at the front of s
--   line-form        the reader is bad exactly where no line of the form stands
--   line-exactly     all bytes are one line exactly where they are a printed line of the form and its LF
--   line-unique      two lines of the form that start one text are the same line
use Prim.Native.Nat.{ℕ}
use mathlib.Core.Path.{◌≡◌, refl, ap, sym, ◌∙◌}
use mathlib.Core.List.{[], ◌∷◌, ◌++◌}
use mathlib.Core.Logic.{◌↔◌}
use Rattle.lists.specs.Lists.{Bytes}
use Rattle.tabtext.specs.Text.{TextLine, header, generator, standard, points, end, line, Form}
use Rattle.tabtext.specs.Readers.{Got, got, bad, read_line}
use Rattle.tabtext.proofs.Steps.{got-value, got-rest, got-not-bad, or-back}
use Rattle.tabtext.proofs.FirstWord.{kinds, header-line, generator-line, standard-line, points-line, end_line}
use Rattle.tabtext.proofs.LineTexts.{header-text, generator-text, standard-text, points-text, end-text}
use Rattle.tabtext.proofs.LineKinds.{read-of-header, read-of-generator, read-of-standard, read-of-points, read-of-end}
use Rattle.tabtext.proofs.LineKinds.{header-of-read, generator-of-read, standard-of-read, points-of-read, end-of-read}

module _ (n : ℕ) where
  pub read-of-print : (l : TextLine) (rest : Bytes) → Form n l → read_line n (line l ++ (10 ∷ rest)) ≡ got l rest
  read-of-print (header order p m) rest h = rw (header-text rest order p m) (header-line n _) ∙ read-of-header n order p m rest h
  read-of-print (generator terms) rest h = rw (generator-text rest terms) (generator-line n _) ∙ read-of-generator n terms rest h
  read-of-print (standard monomials) rest h = rw (standard-text rest monomials) (standard-line n _) ∙ read-of-standard n monomials rest h
  read-of-print (points v) rest h = rw (points-text rest v) (points-line n _) ∙ read-of-points v rest h
  read-of-print (end v) rest h = rw (end-text rest v) (end_line n _) ∙ read-of-end v rest h

  pub print-of-read : (s : Bytes) {l : TextLine} {rest : Bytes} → read_line n s ≡ got l rest → Form n l × (s ≡ line l ++ (10 ∷ rest))
  print-of-read s {l} {rest} e =
      or-back _ _ s
      (or-back _ _ s
      (or-back _ _ s (or-back _ _ s (λ q. header-of-read n s q) (λ q. generator-of-read n s q)) (λ q. standard-of-read n s q))
      (λ q. points-of-read n s q))
      (λ q. end-of-read n s q)
      (rw (kinds n) at e)

  abbrev pub Stands : Bytes → Type 0
  Stands s = (l : TextLine) × (rest : Bytes) × Form n l × (s ≡ line l ++ (10 ∷ rest))

  pub line-form : (s : Bytes) → (read_line n s ≡ bad) ↔ ¬ Stands s
  line-form s = (λ e h. got-not-bad (sym (read-of-print h.0 h.1 h.2) ∙ ap (read_line n) (sym h.3) ∙ e), λ h. go (read_line n s) refl h)
    where
      go : (g : Got TextLine) → read_line n s ≡ g → ¬ Stands s → read_line n s ≡ bad
      go (got l rest) e h = let p = print-of-read s e in absurd (h (l, rest, p.0, p.1))
      go bad e h = e

  pub line-exactly : (s : Bytes) (l : TextLine) → (read_line n s ≡ got l []) ↔ (Form n l × (s ≡ line l ++ (10 ∷ [])))
  line-exactly s l = (λ e. print-of-read s e, λ h. rw h.1 (read-of-print l [] h.0))

  pub line-unique : (l l' : TextLine) (rest rest' : Bytes) → Form n l → Form n l' →
      line l ++ (10 ∷ rest) ≡ line l' ++ (10 ∷ rest') → (l ≡ l') × (rest ≡ rest')
  line-unique l l' rest rest' f f' e =
      let q = sym (read-of-print l rest f) ∙ ap (read_line n) e ∙ read-of-print l' rest' f' in
      (got-value q, got-rest q)
