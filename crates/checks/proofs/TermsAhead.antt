-- The terms of a poly line, as they are read.
--   ahead-of-terms   the terms that are read up to LF stand ahead
use Prim.Native.Nat.{ℕ, zero, suc}
use mathlib.Core.Path.{◌≡◌, refl, sym, ◌∙◌}
use mathlib.Core.List.{List, [], ◌∷◌, ◌++◌, append_assoc, append-nil}
use mathlib.Core.Bool.{Bool, true, false}
use lib.ListN.{length, drop}
use Rattle.lists.specs.Lists.{Bytes}
use Rattle.lines.specs.Terms.{Term}
use Rattle.tabtext.specs.Readers.{Reader, got, pure, ◌>>◌, starts_with, read_byte, read_term, more_fields, read_fields, read_terms}
use Rattle.tabtext.proofs.Steps.{got-value, got-not-bad, then-back, after-back}
use Rattle.tabtext.proofs.Words.{byte-of-read}
use Rattle.checks.specs.Answers.{Ahead}

-- A term and the tab before it.
abbrev field : ℕ → Reader Term
field n = read_byte 9 >> read_term n

field_back : (n : ℕ) (s : Bytes) {t : Term} {rest : Bytes} → field n s ≡ got t rest → read_term n (drop 1 s) ≡ got t rest
field_back n s e = let r = after-back _ _ _ e in rw (byte-of-read 9 s r.front) r.back

-- The terms `all` were read: those of `done`, and others that stand ahead.
record More (n : ℕ) (s : Bytes) (done all : List Term) : Type 0 where
  left : List Term
  terms : all ≡ done ++ left
  ahead : Ahead n s left

more-terms : (n f : ℕ) (done : List Term) (s : Bytes) {all : List Term} {rest : Bytes} → more_fields f (field n) done s ≡ got all rest → More n s done all
unfolding more_fields pure
more-terms n zero done s e = absurd (got-not-bad (sym e))
more-terms n (suc f) done s {all} {rest} e = go (starts_with 9 s) refl (λ t mid q. more-terms n f (done ++ (t ∷ [])) mid q)
  where
    go : (b : Bool) → starts_with 9 s ≡ b →
        ((t : Term) (mid : Bytes) → more_fields f (field n) (done ++ (t ∷ [])) mid ≡ got all rest → More n mid (done ++ (t ∷ [])) all) → More n s done all
    go true q again =
        let r = then-back _ _ _ (rw (more_fields, q) at e) in
        let m = again r.value r.between r.back in
        record { left = r.value ∷ m.left; terms = m.terms ∙ rw append_assoc; ahead = (r.between, q, field_back n s r.front, m.ahead) }
    go false q again =
        let r = after-back _ _ _ (rw (more_fields, q) at e) in
        record { left = []; terms = sym (got-value r.back) ∙ rw append-nil; ahead = q }

pub ahead-of-terms : (n : ℕ) (s : Bytes) {terms : List Term} {rest : Bytes} → read_terms n s ≡ got terms rest → Ahead n s terms
unfolding read_terms read_fields
ahead-of-terms n s e = let m = more-terms n (suc (length s)) [] s e in rw m.terms m.ahead
