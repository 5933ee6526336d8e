-- Believed. The output for a lex basis and its standard monomials (document 01, "The tab text").
--   exponents n m          the exponents of a monomial
--   as_generator p h n g   a line of the basis, as a line of the text
--   written p h n H B      the whole text
use Rattle.std.specs.Prelude.{ℕ, zero, suc, ◌<◌, length}
use mathlib.Core.List.{List, [], ◌∷◌, ◌++◌, map}
use Rattle.lists.specs.Lists.{Bytes}
use Rattle.residue.specs.Field.{ZMod, modulo}
use Rattle.monomial.specs.Rows.{Row}
use Rattle.groebner.specs.Lines.{Line, polynomial}
use Rattle.tabtext.specs.Text.{bytes, header, generator, standard, points, end, text, TextLine}

-- The exponents of a monomial.
unfoldable pub exponents : (n : ℕ) → Row n → List ℕ
exponents zero m = []
exponents (suc n) m = m.0 ∷ exponents n m.1

module _ (p : ℕ) (h : 1 < p) (n : ℕ) where
  -- A line of the basis: coefficient and exponents of each term, greatest first.
  unfoldable pub as_generator : Line (ZMod p) (Row n) → TextLine
  unfolding polynomial exponents modulo
  as_generator g = generator (map (λ t. (t.0.0, exponents n t.1)) (polynomial (modulo p h) g))

  -- The lex basis H and its standard monomials B.
  unfoldable pub written : List (Line (ZMod p) (Row n)) → List (Row n) → Bytes
  unfolding text bytes as_generator exponents
  written H B = text ((header (bytes "lex") p n ∷ map as_generator H) ++ (standard (map (exponents n) B) ∷ points (length B) ∷ end (length H) ∷ []))
