-- A line that is stored: no other line is touched, and no column of a line is shifted.
--   held-length     as many lines of terms as lines
--   lines-pushed    the terms of a line that is pushed stand behind those of the others
--   terms-put       those of a line that is put at a place stand there, and the others are as they were
--   lines-put       a line that is put at a place stands whole there, and every other place holds what it held
--   line-appended   at the place behind the others, the lines are the others and it
--   lines-set       a line that is set at a place of the list stands whole there, and every other place holds what it held
use mathlib.Core.Path.{◌≡◌, refl, ap, ◌∙◌}
use mathlib.Core.List.{List, [], ◌∷◌, ◌++◌, map-append}
use Prim.Native.Nat.{ℕ, zero, suc, ◌<◌}
use native.Mathlib.Omega.{arith}
use lib.ListN.{length, get_or, set, length-map, length-set}
use Rattle.std.proofs.lemmas.List.{get_or-set_same, get_or-set_other}
use Rattle.arrayvec.specs.ArrayVec.{ArrayVec}
use Rattle.lines.specs.LineTerms.{terms_in, terms_of_lines}
use Rattle.lines.specs.Stored.{put_at, LinePut}
use Rattle.lines.specs.declared.line.LineTerm.{LineTerm}
use Rattle.lines.proofs.Places.{put-own, put-other, put-count, put-map, put-behind}

module _ (n : ℕ) (ls : List (ArrayVec LineTerm)) where
  pub held-length : length (terms_of_lines n ls) ≡ length ls
  unfolding terms_of_lines
  held-length = length-map ls (λ g. terms_in n g.items)

  pub lines-pushed : (g : ArrayVec LineTerm) → terms_of_lines n (ls ++ (g ∷ [])) ≡ terms_of_lines n ls ++ (terms_in n g.items ∷ [])
  unfolding terms_of_lines
  lines-pushed g = map-append (λ l. terms_in n l.items) ls (g ∷ [])

pub terms-put : (n : ℕ) (ls : List (ArrayVec LineTerm)) (k : ℕ) (g : ArrayVec LineTerm) → terms_of_lines n (set ls k g) ≡ set (terms_of_lines n ls) k (terms_in n g.items)
unfolding terms_of_lines
terms-put n [] k g = refl
terms-put n (l ∷ ls) zero g = refl
terms-put n (l ∷ ls) (suc k) g = ap (λ r. terms_in n l.items ∷ r) (terms-put n ls k g)

module _ (ls : List (ArrayVec LineTerm)) (g : ArrayVec LineTerm) (ls' : List (ArrayVec LineTerm)) where
  pub lines-put : (k : ℕ) → ls' ≡ put_at ls k g → LinePut ls k g ls'
  unfolding terms_of_lines
  lines-put k e = rw e (record {
    whole = refl;
    count = put-count ls k g;
    own = λ le d. put-own ls k g d le;
    others = λ le j d n. put-other ls k g j d le n;
    terms = λ n. put-map (λ l. terms_in n l.items) ls k g;
  })

  pub line-appended : LinePut ls (length ls) g ls' → ls' ≡ ls ++ (g ∷ [])
  line-appended put = put.whole ∙ put-behind ls (length ls) g (omega arith)

pub lines-set : (ls : List (ArrayVec LineTerm)) (k : ℕ) (g : ArrayVec LineTerm) → k < length ls → (length (set ls k g) ≡ length ls)
    × ((d : ArrayVec LineTerm) → get_or (set ls k g) k d ≡ g)
    × ((j : ℕ) (d : ArrayVec LineTerm) → ¬ (j ≡ k) → get_or (set ls k g) j d ≡ get_or ls j d)
lines-set ls k g lt = (length-set ls k g, λ d. get_or-set_same ls k g d lt, λ j d n. get_or-set_other ls k j g d n)
