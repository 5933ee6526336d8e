-- Fields up to LF: what the closure of `read_fields` says of each, over plain lists.
--   tab-got, tab-reading, tab-said        what stands after a tab
--   fields-more, fields-end               one turn of the reader of fields
--   fields-said                           where each field is what its reader reads, the reader of fields reads all
use Prim.Native.Nat.{ℕ, zero, suc, ◌+◌, ◌≤◌}
use mathlib.Core.Path.{◌≡◌, refl, ◌∙◌}
use mathlib.Core.List.{List, [], ◌∷◌, ◌++◌}
use mathlib.Core.Bool.{true, false}
use native.Mathlib.Omega.{arith}
use lib.ListN.{length, drop, length-drop}
use Rattle.std.specs.Prelude.{Option, Some, None}
use Rattle.lists.specs.Lists.{Bytes}
use Rattle.tabtext.specs.Readers.{got, bad, Reader, pure, ◌>>◌, starts_with, read_byte, more_fields, read_fields}
use Rattle.tabtext.specs.Answers.{Reading, NextSays, FieldsSay}
use Rattle.tabtext.specs.Answers.FieldsSay.{stops, fails, goes-on}
use Rattle.tabtext.proofs.Steps.{then-got, then-bad, after-got, after-bad}
use Rattle.tabtext.proofs.Places.{byte-got}

-- What stands after a tab.
pub tab-got : {A : Type 0} (r : Reader A) (s : Bytes) (i : ℕ) → starts_with 9 (drop i s) ≡ true → ◌>>◌ (read_byte 9) r (drop i s) ≡ r (drop (i + 1) s)
tab-got r s i e = after-got _ _ _ (byte-got 9 s i e)

pub tab-reading : {A : Type 0} (r : Reader A) (s : Bytes) (i : ℕ) {a : A} {k : ℕ} → starts_with 9 (drop i s) ≡ true → Reading r s (i + 1) a k →
    Reading (read_byte 9 >> r) s i a k
tab-reading r s i e h = record { reads = tab-got r s i e ∙ h.reads; after = omega (arith, h.after); inside = h.inside }

pub tab-said : {A : Type 0} (r : Reader A) (s : Bytes) (i : ℕ) (x : Option ℕ) → starts_with 9 (drop i s) ≡ true → NextSays r s (i + 1) x →
    NextSays (read_byte 9 >> r) s i x
tab-said r s i (Some k) e h = (h.0, tab-reading r s i e h.1)
tab-said r s i None e h = tab-got r s i e ∙ h

module _ {A : Type 0} (one : Reader A) where
  pub fields-more : (f : ℕ) (l : List A) (s : Bytes) {a : A} {rest : Bytes} → starts_with 9 s ≡ true → one s ≡ got a rest →
      more_fields (suc f) one l s ≡ more_fields f one (l ++ (a ∷ [])) rest
  unfolding more_fields
  fields-more f l s e q = rw (more_fields, e) (then-got _ _ _ q)

  fields-bad : (f : ℕ) (l : List A) (s : Bytes) → starts_with 9 s ≡ true → one s ≡ bad → more_fields f one l s ≡ bad
  unfolding more_fields
  fields-bad zero l s e q = refl
  fields-bad (suc f) l s e q = rw (more_fields, e) (then-bad _ _ _ q)

  pub fields-end : (f : ℕ) (l : List A) (s : Bytes) → starts_with 9 s ≡ false → more_fields (suc f) one l s ≡ ◌>>◌ (read_byte 10) (pure l) s
  unfolding more_fields
  fields-end f l s e = rw (more_fields, e)

  module _ (s : Bytes) {field : ℕ → Option ℕ → Type 0}
      (says : (i : ℕ) (r : Option ℕ) → starts_with 9 (drop i s) ≡ true → field i r → NextSays one s i r) where
    -- A field and those after it.
    one-more : (f : ℕ) (l : List A) (i j : ℕ) {a : A} (r : Option ℕ) → starts_with 9 (drop i s) ≡ true → Reading one s i a j →
        NextSays (more_fields f one (l ++ (a ∷ []))) s j r → NextSays (more_fields (suc f) one l) s i r
    one-more f l i j (Some k) e q h = (
      h.0,
      record {
        reads = fields-more f l (drop i s) e q.reads ∙ h.1.reads;
        after = omega (arith, q.after, h.1.after);
        inside = h.1.inside;
      },
    )
    one-more f l i j None e q h = fields-more f l (drop i s) e q.reads ∙ h

    no-more : (f : ℕ) (l : List A) (i : ℕ) (r : Option ℕ) → starts_with 9 (drop i s) ≡ false → NextSays (read_byte 10) s i r →
        NextSays (more_fields (suc f) one l) s i r
    unfolding pure
    no-more f l i (Some k) e h = (
      l,
      record { reads = fields-end f l (drop i s) e ∙ after-got _ _ _ h.1.reads; after = h.1.after; inside = h.1.inside },
    )
    no-more f l i None e h = fields-end f l (drop i s) e ∙ after-bad _ _ _ h

    fields-from : (f : ℕ) (l : List A) (i : ℕ) → length s ≤ f + i → (r : Option ℕ) → FieldsSay field s i r → NextSays (more_fields (suc f) one l) s i r
    fields-from f l i m r (stops e h) = no-more f l i r e h
    fields-from f l i m r (fails e h) = fields-bad (suc f) l (drop i s) e (says i None e h)
    fields-from zero l i m r (goes-on e h w) = let q = (says i _ e h).1 in absurd (omega (arith, q.after, q.inside))
    fields-from (suc f) l i m r (goes-on e h w) =
        let q = (says i _ e h).1 in
        one-more (suc f) l i _ r e q (fields-from f (l ++ ((says i _ e h).0 ∷ [])) _ (omega (arith, q.after)) r w)

    pub fields-said : (at : ℕ) (r : Option ℕ) → FieldsSay field s at r → NextSays (read_fields one) s at r
    unfolding read_fields
    fields-said at r w = all r (fields-from (length (drop at s)) [] at (omega (arith, length-drop at s)) r w)
      where
        all : (r : Option ℕ) → NextSays (more_fields (suc (length (drop at s))) one []) s at r → NextSays (read_fields one) s at r
        all (Some k) h = (h.0, record { reads = h.1.reads; after = h.1.after; inside = h.1.inside })
        all None h = h
