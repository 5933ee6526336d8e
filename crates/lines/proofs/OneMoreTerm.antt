-- A line with one term more.
--   terms-take     the first terms, as numbers, are those of the first terms of the line
--   terms-append   the terms of a line with one term more
--   held-longer    its monomials are 0 from place n on if those of the line and that of the term are
use mathlib.Core.Path.{◌≡◌}
use mathlib.Core.List.{List, [], ◌∷◌, ◌++◌, map-append}
use Prim.Native.Nat.{ℕ, ◌<◌}
use native.Mathlib.Omega.{arith}
use lib.ListN.{length, take, length-append}
use Rattle.std.specs.List.{take-map}
use Rattle.lists.proofs.EachElement.{each_last}
use Rattle.lines.specs.Sizes.{most_terms}
use Rattle.lines.specs.LineTerms.{term_of, terms_in}
use Rattle.lines.specs.Bases.{Padded, PaddedLine}
use Rattle.lines.specs.declared.line.LineTerm.{LineTerm}

module _ (n : ℕ) (g : List LineTerm) where
  pub terms-take : (k : ℕ) → take k (terms_in n g) ≡ terms_in n (take k g)
  unfolding terms_in
  terms-take k = take-map (term_of n) k g

  pub terms-append : (t : LineTerm) → terms_in n (g ++ (t ∷ [])) ≡ terms_in n g ++ (term_of n t ∷ [])
  unfolding terms_in
  terms-append t = map-append (term_of n) g (t ∷ [])

  pub held-longer : (t : LineTerm) → length g < most_terms → PaddedLine n g → Padded n t.monomial → PaddedLine n (g ++ (t ∷ []))
  held-longer t room held k = (omega (arith, room, length-append g (t ∷ [])), each_last (λ (x : LineTerm). Padded n x.monomial) g held.1 k)
