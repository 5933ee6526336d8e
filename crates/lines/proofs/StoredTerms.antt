-- The loop of `put_line`, over plain lists.
--   Storing          line k has the first j terms of g, and blanks for the others
--   storing-start    before the first turn line k is blanks
--   storing-turn     a turn stores the coefficient and the monomial of term j
--   storing-stop     after all turns g stands at place k
use mathlib.Core.Path.{◌≡◌, ap, sym, subst, ◌∙◌}
use mathlib.Core.List.{List, [], ◌∷◌, ◌++◌, append_assoc}
use Prim.Native.Nat.{ℕ, suc, min, ◌+◌, ◌-◌, ◌≤◌, ◌<◌}
use native.Mathlib.Omega.{arith}
use lib.ListN.{length, take, get_or, set, replicate}
use lib.Seq.{length-take-le, take-suc, set-append_seam, get_or-append_seam}
use Rattle.std.proofs.lemmas.List.{take_all, append-nil}
use Rattle.arrayvec.specs.ArrayVec.{ArrayVec}
use Rattle.lines.specs.LineTerms.{no_term}
use Rattle.lines.specs.Stored.{put_at, stored_line, stored_term, put_term, LinePut}
use Rattle.lines.specs.declared.line.LineTerm.{LineTerm}
use Rattle.lines.proofs.Places.{put-least, put-own, put-again}
use Rattle.lines.proofs.Stored.{lines-put}

pub record Storing (ls : List (ArrayVec LineTerm)) (k : ℕ) (g : List LineTerm) (j : ℕ) (ls' : List (ArrayVec LineTerm)) : Type 0 where
  pub is : ls' ≡ put_at ls k (record { items = take j g ++ replicate (length g - j) no_term })

module _ (ls : List (ArrayVec LineTerm)) (k : ℕ) (g : List LineTerm) where
  pub storing-start : (blanks : ArrayVec LineTerm) (n i : ℕ) (ls' : List (ArrayVec LineTerm)) → blanks.items ≡ replicate n no_term → ls' ≡ put_at ls i blanks
      → n ≡ length g → i ≡ k → Storing ls k g 0 ls'
  storing-start blanks n i ls' b e many here =
      let all : n ≡ length g - 0 = omega (arith, many) in
      record { is = e ∙ ap (λ h. put_at ls h blanks) here ∙ ap (λ l. put_at ls k (record { items = l })) (b ∙ ap (λ i. replicate i no_term) all) }

  module _ (le : k ≤ length ls) where
    module _ (j : ℕ) (lt : j < length g) where
      -- The first j terms, and then x and blanks; and the lines with these at place k.
      abbrev filled : LineTerm → List LineTerm
      filled x = take j g ++ (x ∷ replicate (length g - (j + 1)) no_term)

      abbrev held : LineTerm → List (ArrayVec LineTerm)
      held x = put_at ls k (record { items = filled x })

      place : length (take j g) ≡ j
      place = length-take-le j g (omega arith)

      line-held : (x : LineTerm) → stored_line (held x) k ≡ filled x
      line-held x = ap (λ (v : ArrayVec LineTerm). v.items) (put-own ls k _ _ le)

      term-held : (x : LineTerm) → stored_term (held x) k j ≡ x
      term-held x = rw (line-held x) (subst (λ i. get_or (filled x) i no_term ≡ x) place (get_or-append_seam (take j g) x _ no_term))

      held-again : (x y : LineTerm) → put_term (held x) k j y ≡ held y
      held-again x y =
          let more : set (stored_line (held x) k) j y ≡ filled y =
          rw (line-held x) (subst (λ i. set (filled x) i y ≡ filled y) place (set-append_seam (take j g) x _ y)) in
          ap (λ l. set (held x) k (record { items = l })) more ∙ put-again ls k _ _ le

      filled-more : (t d : LineTerm) → t ≡ get_or g j d → filled t ≡ take (j + 1) g ++ replicate (length g - (j + 1)) no_term
      filled-more t d here =
          let blanks = replicate (length g - (j + 1)) no_term in
          let next : suc j ≡ j + 1 = omega arith in
          sym (append_assoc (take j g) (t ∷ []) blanks) ∙ ap (λ r. (take j g ++ (r ∷ [])) ++ blanks) here
          ∙ ap (λ r. r ++ blanks) (sym (take-suc g j d lt)) ∙ ap (λ i. take i g ++ blanks) next

      stored : (l m n : List (ArrayVec LineTerm)) (t d : LineTerm) → t ≡ get_or g j d → Storing ls k g j l
          → m ≡ put_term l k j (record { coefficient = t.coefficient; monomial = (stored_term l k j).monomial })
          → n ≡ put_term m k j (record { coefficient = (stored_term m k j).coefficient; monomial = t.monomial }) → Storing ls k g (j + 1) n
      stored l m n t d here inv first second =
          let more : length g - j ≡ suc (length g - (j + 1)) = omega arith in
          let was : l ≡ held no_term = inv.is ∙ ap (λ i. put_at ls k (record { items = take j g ++ replicate i no_term })) more in
          let x : LineTerm = record { coefficient = t.coefficient; monomial = (stored_term l k j).monomial } in
          let one : m ≡ held x = first ∙ ap (λ h. put_term h k j x) was ∙ held-again no_term x in
          let kept : (stored_term m k j).coefficient ≡ t.coefficient =
          ap (λ h. (stored_term h k j).coefficient) one ∙ ap (λ (y : LineTerm). y.coefficient) (term-held x) in
          let two : n ≡ held t =
          second ∙ ap (λ c. put_term m k j (record { coefficient = c; monomial = t.monomial })) kept ∙ ap (λ h. put_term h k j t) one ∙ held-again x t in
          record { is = two ∙ ap (λ r. put_at ls k (record { items = r })) (filled-more t d here) }

      -- The places that are told are k.
      pub storing-turn : (i h : ℕ) (l m n : List (ArrayVec LineTerm)) (t d : LineTerm) → t ≡ get_or g j d → Storing ls k g j l
          → m ≡ put_term l i j (record { coefficient = t.coefficient; monomial = (stored_term l i j).monomial })
          → n ≡ put_term m h j (record { coefficient = (stored_term m h j).coefficient; monomial = t.monomial }) → i ≡ k → h ≡ k → Storing ls k g (j + 1) n
      storing-turn i h l m n t d here inv first second a b = stored l m n t d here inv (rw a at first) (rw b at second)

    pub storing-stop : (j : ℕ) (ls' : List (ArrayVec LineTerm)) → length g ≤ j → Storing ls k g j ls' → (told : ℕ) → k ≡ min told (length ls)
        → LinePut ls told (record { items = g }) ls'
    storing-stop j ls' end inv told e =
        let none : length g - j ≡ 0 = omega arith in
        let all : take j g ++ replicate (length g - j) no_term ≡ g = ap (λ i. take j g ++ replicate i no_term) none ∙ append-nil (take j g) ∙ take_all j g end in
        lines-put ls _ ls' told (inv.is ∙ ap (λ r. put_at ls k (record { items = r })) all ∙ put-least ls k told _ e)
