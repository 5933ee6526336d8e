-- The kind of the line at a place where the word of its kind stands, and its record.
--   line-missing      what stands after the word is not of the form
--   line-found        a line of the kind stands there
--   header-kind       the kind of a basis line, by the places of its order word
--   by_word           the answer for the kind is the answer of the line reader
--   record-of-kind    the record is the kind, with the line's number
use Prim.Native.Nat.{ℕ, ◌+◌, ◌-◌, ◌≤◌}
use mathlib.Core.Path.{◌≡◌, ◌∙◌}
use mathlib.Core.List.{◌++◌}
use native.Mathlib.Omega.{arith}
use lib.ListN.{length, drop, length-drop}
use Rattle.std.specs.Prelude.{Option, Some, None, option_map}
use Rattle.lists.specs.Lists.{Bytes}
use Rattle.tabtext.specs.Text.{TextLine, header}
use Rattle.tabtext.specs.Readers.{Got, got, bad, Reader, ◌>>◌, read_word, read_order, read_line}
use Rattle.tabtext.specs.Answers.{Reading, WordAt, kind_of, kind_read, read_of}
use Rattle.tabtext.specs.declared.record.Kind.{Kind}
use Rattle.tabtext.specs.declared.record.Kind.TheVariants as kind-variants
use Rattle.tabtext.proofs.Steps.{after-got}
use Rattle.tabtext.proofs.Places.{place_after}
use Rattle.tabtext.proofs.Words.{word-of-read, order-of-read}

module _ {w s : Bytes} {at : ℕ} (word : WordAt w s at) (fields : Reader TextLine) where
  pub line-missing : fields (drop (at + length w) s) ≡ bad → None ≡ kind_read s at (◌>>◌ (read_word w) fields (drop at s))
  line-missing e = rw (after-got (read_word w) fields (drop at s) word.reads ∙ e)

  pub line-found : {l : TextLine} {i : ℕ} {kind : Kind} → fields (drop (at + length w) s) ≡ got l (drop i s) → i ≤ length s → kind_of at i l ≡ kind →
      Some (kind, i) ≡ kind_read s at (◌>>◌ (read_word w) fields (drop at s))
  line-found {l} {i} {kind} e h q =
      let back : length s - length (drop i s) ≡ i = rw (length-drop i s) (omega arith) in
      rw (after-got (read_word w) fields (drop at s) word.reads ∙ e, back, q)

-- The kind of a basis line: its order word stands from at + 6 up to end.
pub header-kind : (s order : Bytes) (at i p n : ℕ) {end : ℕ} → at + 6 ≤ length s → Reading read_order s (at + 6) order end →
    kind_of at i (header order p n) ≡ kind-variants.Header (record { order = record { start = at + 6; end = end }; p = p; n = n })
header-kind s order at i p n {end} h r = rw (place_after s order (at + 6) end h r.inside (order-of-read (drop (at + 6) s) r.reads).3)

-- The line reader gives what the reader of the kind does.
pub by_word : (n : ℕ) {w s : Bytes} {at : ℕ} {answer : Option (Kind × ℕ)} (reads : Reader TextLine) →
    WordAt w s at → ((rest : Bytes) → read_line n (w ++ rest) ≡ reads (w ++ rest)) →
    answer ≡ kind_read s at (reads (drop at s)) → answer ≡ kind_read s at (read_line n (drop at s))
by_word n {w} {s} {at} reads word same e =
    let text = word-of-read w (drop at s) word.reads in
    let line : read_line n (drop at s) ≡ reads (drop at s) = rw text (same _) in
    rw line e

-- Line k is its kind, with its number.
pub record-of-kind : (k : ℕ) (s : Bytes) (at : ℕ) (g : Got TextLine) {r : Option (Kind × ℕ)} →
    r ≡ kind_read s at g → option_map (λ x. (record { line = k; kind = x.0 }, x.1)) r ≡ read_of k s at g
record-of-kind k s at (got l rest) e = rw e
record-of-kind k s at bad e = rw e
