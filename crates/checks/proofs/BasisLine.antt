-- The basis line of a text, and the verdict on it.
--   BasisLine         a basis line that was found: its order word, from the place where its span starts
--   basis-of-found    a record of a header is that of a basis line
--   no-basis-line     no line of the form stands first
--   other-line        a line of another kind stands first
--   basis-refused     the basis line is refused
--   lines-decide      it passes, and the lines after it decide
use Prim.Native.Nat.{ℕ, ◌+◌, ◌-◌, ◌≤◌}
use mathlib.Core.Path.{◌≡◌, refl, ap, ap₂, sym, subst, ◌∙◌}
use mathlib.Core.List.{◌∷◌, ◌++◌}
use mathlib.Core.Option.{none, some}
use native.Mathlib.Omega.{arith}
use lib.ListN.{length, take, drop, length-append}
use lib.Seq.{take-append_seam}
use Rattle.arrayvec.specs.ArrayVec.{ArrayVec}
use Rattle.lists.specs.Lists.{Bytes}
use Rattle.answer.specs.Outcomes as outcomes
use Rattle.answer.specs.declared.Refused.{Refused}
use Rattle.lines.specs.declared.line.LineTerm.{LineTerm}
use Rattle.tabtext.specs.Text.{bytes, TextLine, header, generator, standard, points, end, line}
use Rattle.tabtext.specs.Readers.{got, bad, read_line}
use Rattle.tabtext.specs.Answers.{kind_of}
use Rattle.tabtext.specs.declared.record.Record.{Record}
use Rattle.tabtext.specs.declared.record.Header.{Header}
use Rattle.tabtext.specs.declared.record.Kind.TheVariants as kinds
use Rattle.tabtext.proofs.LineTexts.{header-text}
use Rattle.tabtext.proofs.Records.{RecordLine}
use Rattle.checks.specs.Checks.{Front, check_header, Checked, malformed_header, header_refused, header_passed}
use Rattle.checks.specs.Answers.{LinesSays, BasisSays}
use Rattle.checks.proofs.Fronts.{front-of-read, no_front, front_same}
use Rattle.std.specs.Prelude.{Result, Ok, Err, ⊤}

-- The form of a basis line does not depend on the number of variables.
other-n : {order : Bytes} {p k n m : ℕ} {s rest : Bytes} → Front n s (header order p k) rest → Front m s (header order p k) rest
other-n f = record { form = f.form; stands = f.stands }

pub record BasisLine (s : Bytes) (h : Header) (i : ℕ) : Type 0 where
  pub order : Bytes
  pub front : Front h.n s (header order h.p h.n) (drop i s)
  pub word : take (h.order.end - h.order.start) (drop h.order.start s) ≡ order
  pub begins : h.order.start ≤ h.order.end
  pub ends : h.order.end ≤ length s

-- The order word and its places.
record Word (l : TextLine) (h : Header) : Type 0 where
  order : Bytes
  line : l ≡ header order h.p h.n
  start : h.order.start ≡ 6
  end : h.order.end ≡ 6 + length order

header-kind : (i : ℕ) (l : TextLine) {h : Header} → kind_of 0 i l ≡ kinds.Header h → Word l h
header-kind i (header order p n) {h} e =
    let q : record { order = record { start = 6; end = 6 + length order }; p = p; n = n } ≡ h = cc in
    record {
      order = order;
      line = ap (λ x. header order x.p x.n) q;
      start = sym (ap (λ x. x.order.start) q);
      end = sym (ap (λ x. x.order.end) q);
    }
header-kind i (generator terms) e = let z : ◌≡◌ {A = ℕ} 0 1 = cc in absurd (omega arith)
header-kind i (standard monomials) e = let z : ◌≡◌ {A = ℕ} 0 1 = cc in absurd (omega arith)
header-kind i (points count) e = let z : ◌≡◌ {A = ℕ} 0 1 = cc in absurd (omega arith)
header-kind i (end count) e = let z : ◌≡◌ {A = ℕ} 0 1 = cc in absurd (omega arith)

-- The order word stands after the first word.
order-stands : (s order tail : Bytes) → s ≡ bytes "basis\t" ++ (order ++ tail) → (take (length order) (drop 6 s) ≡ order) × (6 + length order ≤ length s)
unfolding bytes
order-stands s order tail e = (
  ap (λ x. take (length order) (drop 6 x)) e ∙ take-append_seam order tail,
  omega (arith, simp length-append at (ap length e)),
)

pub basis-of-found : (s : Bytes) (r : Record) (i : ℕ) {h : Header} → RecordLine 0 1 s 0 r i → r.kind ≡ kinds.Header h → BasisLine s h i
basis-of-found s r i {h} f e =
    let w = header-kind i f.text (sym f.kind ∙ e) in
    let text = f.printed ∙ ap (λ l. line l ++ (10 ∷ drop i s)) w.line ∙ header-text (drop i s) w.order h.p h.n in
    let stands = order-stands s w.order _ text in
    let long : h.order.end - h.order.start ≡ length w.order = omega (arith, w.start, w.end) in
    record {
      order = w.order;
      front = other-n (subst (λ l. Front 0 s l (drop i s)) w.line (front-of-read 0 s f.reads));
      word = ap₂ (λ x y. take x (drop y s)) long w.start ∙ stands.0;
      begins = omega (arith, w.start, w.end);
      ends = omega (arith, w.end, stands.1);
    }

pub no-basis-line : (s : Bytes) → read_line 0 s ≡ bad → Checked s (outcomes.refused 2 1)
no-basis-line s e = malformed_header (λ order p n rest f. no_front 0 s e (other-n f)) refl

pub other-line : (s : Bytes) (i : ℕ) {l : TextLine} {rest : Bytes} → read_line 0 s ≡ got l rest → ((h : Header) → ¬ (kind_of 0 i l ≡ kinds.Header h)) →
    Checked s (outcomes.refused 2 1)
other-line s i e o = malformed_header (λ order p n rest f. o _ (ap (kind_of 0 i) (sym (front_same 0 s e (other-n f))))) refl

pub basis-refused : (s : Bytes) (h : Header) (i : ℕ) (k : ℕ) (b : BasisLine s h i) → check_header b.order h.p h.n (some k) → Checked s (outcomes.refused k 1)
basis-refused s h i k b c = header_refused k b.front c refl

pub lines-decide : (s : Bytes) (h : Header) (i : ℕ) (r : Result ⊤ Refused) (ls : ArrayVec (ArrayVec LineTerm)) (b : BasisLine s h i) → check_header b.order h.p h.n none →
    LinesSays h.p h.n (drop i s) r ls → BasisSays s r (record { p = h.p; n = h.n; lines = ls })
lines-decide s h i (Ok _) ls b c l = (header_passed b.front c l.0, l.1)
lines-decide s h i (Err e) ls b c l = header_passed b.front c l
