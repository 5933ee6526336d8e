-- The bytes of a line with its LF, by its kind.
--   fields-text                                                         a word and fields after it
--   header-text, generator-text, standard-text, points-text, end-text   the five kinds
use Prim.Native.Nat.{ℕ}
use mathlib.Core.Path.{◌≡◌, ap, ◌∙◌}
use mathlib.Core.List.{List, [], ◌∷◌, ◌++◌, append_assoc, map}
use Rattle.lists.specs.Lists.{Bytes}
use Rattle.lines.specs.Terms.{Term}
use Rattle.tabtext.specs.Text.{bytes, header, generator, standard, points, end, decimal, part, dotted, term, fields, line}
use Rattle.tabtext.proofs.Parted.{each_after, part-after}

-- A word and fields after it.
pub fields-text : (w : Bytes) (fs : List Bytes) (rest : Bytes) → part 9 (w ∷ fs) ++ (10 ∷ rest) ≡ w ++ (each_after 9 fs ++ (10 ∷ rest))
fields-text w fs rest = ap (λ x. x ++ (10 ∷ rest)) (part-after 9 w fs) ∙ append_assoc w (each_after 9 fs) (10 ∷ rest)

-- A word and a number.
count-text : (w : Bytes) (v : ℕ) (rest : Bytes) → part 9 (w ∷ decimal v ∷ []) ++ (10 ∷ rest) ≡ w ++ (9 ∷ (decimal v ++ (10 ∷ rest)))
unfolding part
count-text w v rest = append_assoc w (9 ∷ decimal v) (10 ∷ rest)

module _ (rest : Bytes) where
  pub header-text : (order : Bytes) (p n : ℕ) →
      line (header order p n) ++ (10 ∷ rest) ≡ bytes "basis\t" ++ (order ++ (9 ∷ (decimal p ++ (9 ∷ (decimal n ++ (10 ∷ rest))))))
  unfolding line fields part bytes
  header-text order p n = rw (append_assoc order, append_assoc (decimal p))

  pub generator-text : (terms : List Term) → line (generator terms) ++ (10 ∷ rest) ≡ bytes "poly" ++ (each_after 9 (map term terms) ++ (10 ∷ rest))
  unfolding line fields
  generator-text terms = fields-text (bytes "poly") (map term terms) rest

  pub standard-text : (monomials : List (List ℕ)) →
      line (standard monomials) ++ (10 ∷ rest) ≡ bytes "stairs" ++ (each_after 9 (map dotted monomials) ++ (10 ∷ rest))
  unfolding line fields
  standard-text monomials = fields-text (bytes "stairs") (map dotted monomials) rest

  pub points-text : (v : ℕ) → line (points v) ++ (10 ∷ rest) ≡ bytes "runs" ++ (9 ∷ (decimal v ++ (10 ∷ rest)))
  unfolding line fields
  points-text v = count-text (bytes "runs") v rest

  pub end-text : (v : ℕ) → line (end v) ++ (10 ∷ rest) ≡ bytes "end" ++ (9 ∷ (decimal v ++ (10 ∷ rest)))
  unfolding line fields
  end-text v = count-text (bytes "end") v rest
