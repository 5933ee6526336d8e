-- The first word of a line decides its kind.
--   kinds                                               the line reader tries the five kinds in turn
--   no_header, no-generator, no-standard,
--   no-points, no_end                                   a kind is bad where its word does not stand
--   no_line                                             no line stands where none of the words does
--   header-line, generator-line, standard-line,
--   points-line, end_line                               where the word of a kind stands, the line is of that kind
use Prim.Native.Nat.{ℕ}
use mathlib.Core.Path.{◌≡◌, refl, ◌∙◌}
use mathlib.Core.List.{◌++◌}
use Rattle.lists.specs.Lists.{Bytes}
use Rattle.tabtext.specs.Text.{bytes}
use Rattle.tabtext.specs.Readers.{bad, ◌>>=◌, ◌>>◌, ◌or◌, starts_with, read_byte, read_word}
use Rattle.tabtext.specs.Readers.{read_header, read_generator, read_standard, read_points, read_end, read_line}
use Rattle.tabtext.proofs.Steps.{after-bad, or-bad, or-none}

pub kinds : (n : ℕ) → read_line n ≡ (read_header or read_generator n or read_standard n or read_points or read_end)
unfolding read_line
kinds n = refl

module _ (s : Bytes) where
  no_header : read_word (bytes "basis\t") s ≡ bad → read_header s ≡ bad
  unfolding read_header
  no_header e = after-bad _ _ s e

  no-generator : (n : ℕ) → read_word (bytes "poly") s ≡ bad → read_generator n s ≡ bad
  unfolding read_generator
  no-generator n e = after-bad _ _ s e

  no-standard : (n : ℕ) → read_word (bytes "stairs") s ≡ bad → read_standard n s ≡ bad
  unfolding read_standard
  no-standard n e = after-bad _ _ s e

  no-points : read_word (bytes "runs") s ≡ bad → read_points s ≡ bad
  unfolding read_points
  no-points e = after-bad _ _ s e

  no_end : read_word (bytes "end") s ≡ bad → read_end s ≡ bad
  unfolding read_end
  no_end e = after-bad _ _ s e

module _ (n : ℕ) where
  pub no_line : (s : Bytes) → read_word (bytes "basis\t") s ≡ bad → read_word (bytes "poly") s ≡ bad → read_word (bytes "stairs") s ≡ bad →
      read_word (bytes "runs") s ≡ bad → read_word (bytes "end") s ≡ bad → read_line n s ≡ bad
  no_line s h g t p e =
      rw (kinds n)
      (or-none _ _ s (no_end s e) ∙ or-none _ _ s (no-points s p) ∙ or-none _ _ s (no-standard s n t) ∙ or-none _ _ s (no-generator s n g) ∙ no_header s h)

  -- No other word stands there, so that the other kinds are bad.
  module _ (rest : Bytes) where
    pub header-line : let s = bytes "basis\t" ++ rest in read_line n s ≡ read_header s
    unfolding bytes read_word ◌>>◌ ◌>>=◌ read_byte starts_with
    header-line =
        rw (kinds n)
        (or-none _ _ _ (no_end _ refl) ∙ or-none _ _ _ (no-points _ refl) ∙ or-none _ _ _ (no-standard _ n refl) ∙ or-none _ _ _ (no-generator _ n refl))

    pub generator-line : let s = bytes "poly" ++ rest in read_line n s ≡ read_generator n s
    unfolding bytes read_word ◌>>◌ ◌>>=◌ read_byte starts_with
    generator-line =
        rw (kinds n)
        (or-none _ _ _ (no_end _ refl) ∙ or-none _ _ _ (no-points _ refl) ∙ or-none _ _ _ (no-standard _ n refl) ∙ or-bad _ _ _ (no_header _ refl))

    pub standard-line : let s = bytes "stairs" ++ rest in read_line n s ≡ read_standard n s
    unfolding bytes read_word ◌>>◌ ◌>>=◌ read_byte starts_with
    standard-line =
        rw (kinds n)
        (or-none _ _ _ (no_end _ refl) ∙ or-none _ _ _ (no-points _ refl) ∙ or-bad _ _ _ (or-none _ _ _ (no-generator _ n refl) ∙ no_header _ refl))

    pub points-line : let s = bytes "runs" ++ rest in read_line n s ≡ read_points s
    unfolding bytes read_word ◌>>◌ ◌>>=◌ read_byte starts_with
    points-line =
        rw (kinds n)
        (or-none _ _ _ (no_end _ refl)
        ∙ or-bad _ _ _ (or-none _ _ _ (no-standard _ n refl) ∙ or-none _ _ _ (no-generator _ n refl) ∙ no_header _ refl))

    pub end_line : let s = bytes "end" ++ rest in read_line n s ≡ read_end s
    unfolding bytes read_word ◌>>◌ ◌>>=◌ read_byte starts_with
    end_line =
        rw (kinds n)
        (or-bad _ _ _
        (or-none _ _ _ (no-points _ refl) ∙ or-none _ _ _ (no-standard _ n refl) ∙ or-none _ _ _ (no-generator _ n refl) ∙ no_header _ refl))
