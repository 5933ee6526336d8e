-- The line that a found record is of, by its kind.
--   GeneratorKind   a poly line that was found: its terms, from the place where its span starts
--   poly-of-found   a record of terms is that of a poly line
--   poly-passed     the answer to a poly line that passes
--   end-of-found    a record of an end line is that of an end line
--   other-kind      a record of neither kind is that of no line that may come after the basis line
use Prim.Native.Nat.{ℕ, ◌+◌, ◌-◌, ◌≤◌, ◌<◌}
use mathlib.Core.Path.{◌≡◌, refl, ap, sym, subst, ◌∙◌}
use mathlib.Core.List.{List}
use native.Mathlib.Numerals.{add-one}
use native.Mathlib.Omega.{arith}
use lib.ListN.{length, drop}
use Rattle.arrayvec.specs.ArrayVec.{ArrayVec}
use Rattle.lists.specs.Lists.{Bytes}
use Rattle.lines.specs.Terms.{Term}
use Rattle.lines.specs.declared.line.LineTerm.{LineTerm}
use Rattle.tabtext.specs.Text.{TextLine, header, generator, standard, points, end, Form}
use Rattle.tabtext.specs.Readers.{got, read_line}
use Rattle.tabtext.specs.Answers.{kind_of}
use Rattle.tabtext.specs.declared.record.Record.{Record}
use Rattle.tabtext.specs.declared.record.Span.{Span}
use Rattle.tabtext.specs.declared.record.Kind.TheVariants as kinds
use Rattle.tabtext.proofs.Places.{starts-within}
use Rattle.tabtext.proofs.Records.{RecordLine, terms-of-line}
use Rattle.checks.specs.Checks.{Front, Later}
use Rattle.checks.specs.Answers.{Ahead, GeneratorSays, PassedLine}
use Rattle.checks.proofs.Fronts.{front-of-read}
use Rattle.checks.proofs.TermsAhead.{ahead-of-terms}
use Rattle.checks.proofs.FirstTerm.{tab}
use Rattle.std.specs.Prelude.{Ok}

module _ (at i : ℕ) where
  terms-kind : (l : TextLine) {span : Span} → kind_of at i l ≡ kinds.Generator span → (terms : List Term) × (l ≡ generator terms) × (span.start ≡ at + 4)
  terms-kind (header order p n) e = let z : ◌≡◌ {A = ℕ} 0 1 = cc in absurd (omega arith)
  terms-kind (generator terms) {span} e = let q : record { start = at + 4; end = i - 1 } ≡ span = cc in (terms, refl, sym (ap (λ x. x.start) q))
  terms-kind (standard monomials) e = let z : ◌≡◌ {A = ℕ} 0 1 = cc in absurd (omega arith)
  terms-kind (points count) e = let z : ◌≡◌ {A = ℕ} 0 1 = cc in absurd (omega arith)
  terms-kind (end count) e = let z : ◌≡◌ {A = ℕ} 0 1 = cc in absurd (omega arith)

  end-kind : (l : TextLine) {count : ℕ} → kind_of at i l ≡ kinds.End count → l ≡ end count
  end-kind (header order p n) e = let z : ◌≡◌ {A = ℕ} 0 1 = cc in absurd (omega arith)
  end-kind (generator terms) e = let z : ◌≡◌ {A = ℕ} 0 1 = cc in absurd (omega arith)
  end-kind (standard monomials) e = let z : ◌≡◌ {A = ℕ} 0 1 = cc in absurd (omega arith)
  end-kind (points count) e = let z : ◌≡◌ {A = ℕ} 0 1 = cc in absurd (omega arith)
  end-kind (end count) e = ap end (cc)

  pub other-kind : (l : TextLine) → ((span : Span) → ¬ (kind_of at i l ≡ kinds.Generator span)) → ((count : ℕ) → ¬ (kind_of at i l ≡ kinds.End count)) → ¬ Later l
  other-kind (header order p n) f g a = a
  other-kind (generator terms) f g a = f _ refl
  other-kind (standard monomials) f g a = a
  other-kind (points count) f g a = a
  other-kind (end count) f g a = g count refl

pub record GeneratorKind (n : ℕ) (s : Bytes) (at start i : ℕ) : Type 0 where
  pub terms : List Term
  pub reads : read_line n (drop at s) ≡ got (generator terms) (drop i s)
  pub ahead : Ahead n (drop start s) terms
  pub some : 1 ≤ length terms
  pub begins : start ≤ length s
  pub after : at < i
  pub inside : i ≤ length s

module _ (n k : ℕ) (s : Bytes) (at : ℕ) (r : Record) (i : ℕ) (f : RecordLine n k s at r i) where
  pub poly-of-found : {span : Span} → r.kind ≡ kinds.Generator span → GeneratorKind n s at span.start i
  poly-of-found {span} e =
      let q = terms-kind at i f.text (sym f.kind ∙ e) in
      let reads : read_line n (drop at s) ≡ got (generator q.0) (drop i s) = f.reads ∙ ap (λ l. got l (drop i s)) q.1 in
      let ahead : Ahead n (drop span.start s) q.0 =
      subst (λ x. Ahead n (drop x s) q.0) (sym q.2) (ahead-of-terms n (drop (at + 4) s) (terms-of-line n k s at reads)) in
      let form : Form n (generator q.0) = subst (Form n) q.1 f.form in
      let within : span.start < length s = starts-within 9 s span.start (tab n (drop span.start s) q.0 ahead form.0) in
      record { terms = q.0; reads = reads; ahead = ahead; some = form.0; begins = omega arith; after = f.after; inside = f.inside }

  pub end-of-found : {count : ℕ} → r.kind ≡ kinds.End count → Front n (drop at s) (end count) (drop i s)
  end-of-found e =
      front-of-read n (drop at s) (f.reads ∙ ap (λ l. got l (drop i s)) (end-kind at i f.text (sym f.kind ∙ e)))

pub poly-passed : (p n k : ℕ) (s : Bytes) (at start i : ℕ) (g : ArrayVec LineTerm) (poly : GeneratorKind n s at start i) → GeneratorSays p n (k + 1) poly.terms (Ok g) →
    PassedLine p n k s at i g.items
poly-passed p n k s at start i g poly h =
    record {
      front = rw h.1 (front-of-read n (drop at s) poly.reads);
      passes = rw h.1 (rw add-one at h.0);
      padded = h.2;
      after = poly.after;
      inside = poly.inside;
    }
