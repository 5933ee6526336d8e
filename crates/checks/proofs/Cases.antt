-- Texts and their outcomes (document 01, "Edges of the form" and the order of "Refused texts"): one list, with one claim.
--   CheckCase           a text and its outcome
--   powers k            x^k + .. + x + 1, the terms of a poly line
--   modulo2 polys       the text in one variable modulo 2 with these poly lines
--   passing p n polys   passed with these poly lines
--   check_cases         the list
--   cases-checked       each of the texts has its outcome
use Prim.Native.Nat.{ℕ, zero, suc}
use mathlib.Core.List.{List, [], ◌∷◌, ◌++◌, map}
use mathlib.Core.Path.{◌≡◌, refl}
use lib.ListN.{length, replicate}
use Rattle.lists.specs.Lists.{Bytes, Each}
use Rattle.answer.specs.Outcomes.{Judged, refused, passed}
use Rattle.lines.specs.Terms.{Term}
use Rattle.tabtext.specs.Text.{bytes, header, generator, end, text}
use Rattle.tabtext.specs.Readers.{read_line}
use Rattle.checks.specs.Checks.{Basis, Checked}
use Rattle.checks.proofs.Model.{judge}
use Rattle.checks.proofs.TextChecks.{checked-iff}

abbrev pub CheckCase : Type 0
CheckCase = Bytes × Judged Basis

unfoldable pub powers : ℕ → List Term
powers zero = (1, 0 ∷ []) ∷ []
powers (suc k) = (1, suc k ∷ []) ∷ powers k

unfoldable pub modulo2 : List (List Term) → Bytes
unfolding text
modulo2 polys = text (header (bytes "grevlex") 2 1 ∷ map generator polys ++ (end (length polys) ∷ []))

abbrev pub passing : (p n : ℕ) → List (List Term) → Judged Basis
passing p n polys = passed (record { p = p; n = n; generators = polys })

unfoldable pub check_cases : List CheckCase
unfolding bytes powers modulo2
check_cases =
    -- Document 01's example.
    (
      bytes "basis\tgrevlex\t3\t2\npoly\t1:0.2\t2:1.0\npoly\t1:1.1\t2:0.1\npoly\t1:2.0\t2:1.0\nend\t3\n",
      passing 3 2 (((1, 0 ∷ 2 ∷ []) ∷ (2, 1 ∷ 0 ∷ []) ∷ []) ∷ ((1, 1 ∷ 1 ∷ []) ∷ (2, 0 ∷ 1 ∷ []) ∷ []) ∷ ((1, 2 ∷ 0 ∷ []) ∷ (2, 1 ∷ 0 ∷ []) ∷ []) ∷ []),
    )
    -- 2: the empty text; no line after the basis line; a poly line without its LF; no end line; a line of another kind.
    ∷ (bytes "", refused 2 1)
    ∷ (bytes "basis\tgrevlex\t2\t1\n", refused 2 2)
    ∷ (bytes "basis\tgrevlex\t2\t1\npoly\t1:1", refused 2 2)
    ∷ (bytes "basis\tgrevlex\t2\t1\npoly\t1:1\n", refused 2 3)
    ∷ (bytes "basis\tgrevlex\t2\t1\nstairs\t0\nend\t0\n", refused 2 2)
    -- 2 or 3: the order word.
    ∷ (bytes "basis\tGrevlex\t2\t1\nend\t0\n", refused 2 1)
    ∷ (bytes "basis\tlex\t2\t1\nend\t0\n", refused 3 1)
    -- 4: p 1, 253 and a large prime; 251 passes.
    ∷ (bytes "basis\tgrevlex\t1\t1\npoly\t1:1\nend\t1\n", refused 4 1)
    ∷ (bytes "basis\tgrevlex\t253\t1\npoly\t1:1\nend\t1\n", refused 4 1)
    ∷ (bytes "basis\tgrevlex\t99991\t1\npoly\t1:1\nend\t1\n", refused 4 1)
    ∷ (bytes "basis\tgrevlex\t251\t1\npoly\t1:1\nend\t1\n", passing 251 1 (((1, 1 ∷ []) ∷ []) ∷ []))
    -- 5: n 0 and 5; 4 passes.
    ∷ (bytes "basis\tgrevlex\t2\t0\nend\t0\n", refused 5 1)
    ∷ (bytes "basis\tgrevlex\t2\t5\npoly\t1:0.0.0.0.0\nend\t1\n", refused 5 1)
    ∷ (bytes "basis\tgrevlex\t2\t4\npoly\t1:0.0.0.0\nend\t1\n", passing 2 4 (((1, 0 ∷ 0 ∷ 0 ∷ 0 ∷ []) ∷ []) ∷ []))
    -- 6: at p 3, coefficient 0 and 3.
    ∷ (bytes "basis\tgrevlex\t3\t1\npoly\t1:1\t0:0\nend\t1\n", refused 6 2)
    ∷ (bytes "basis\tgrevlex\t3\t1\npoly\t1:1\t3:0\nend\t1\n", refused 6 2)
    -- 7: exponent 33; 32 passes.
    ∷ (bytes "basis\tgrevlex\t2\t1\npoly\t1:33\nend\t1\n", refused 7 2)
    ∷ (bytes "basis\tgrevlex\t2\t1\npoly\t1:32\nend\t1\n", passing 2 1 (((1, 32 ∷ []) ∷ []) ∷ []))
    -- 8: the same monomial; x2^2 after x1·x3; the reverse passes.
    ∷ (bytes "basis\tgrevlex\t2\t1\npoly\t1:1\t1:1\nend\t1\n", refused 8 2)
    ∷ (bytes "basis\tgrevlex\t2\t3\npoly\t1:1.0.1\t1:0.2.0\nend\t1\n", refused 8 2)
    ∷ (bytes "basis\tgrevlex\t2\t3\npoly\t1:0.2.0\t1:1.0.1\nend\t1\n", passing 2 3 (((1, 0 ∷ 2 ∷ 0 ∷ []) ∷ (1, 1 ∷ 0 ∷ 1 ∷ []) ∷ []) ∷ []))
    -- 9
    ∷ (bytes "basis\tgrevlex\t3\t1\npoly\t2:1\nend\t1\n", refused 9 2)
    -- 10: a 34th term, which may be bad itself, and a 98th poly line; 33 terms pass.
    ∷ (modulo2 ((powers 32 ++ (1, 0 ∷ []) ∷ []) ∷ []), refused 10 2)
    ∷ (modulo2 ((powers 32 ++ (3, 99 ∷ []) ∷ []) ∷ []), refused 10 2)
    ∷ (modulo2 (powers 32 ∷ []), passing 2 1 (powers 32 ∷ []))
    ∷ (modulo2 (replicate 98 (powers 0)), refused 10 99)
    -- 11: before anything after the end line; an end line without its LF is 2.
    ∷ (bytes "basis\tgrevlex\t2\t1\npoly\t1:1\nend\t2\n", refused 11 3)
    ∷ (bytes "basis\tgrevlex\t2\t1\npoly\t1:1\nend\t2\n\n", refused 11 3)
    ∷ (bytes "basis\tgrevlex\t2\t1\npoly\t1:1\nend\t1\n\n", refused 2 4)
    ∷ (bytes "basis\tgrevlex\t2\t1\npoly\t1:1\nend\t2", refused 2 3)
    -- The form of the whole line comes first, before 6 and before 10.
    ∷ (bytes "basis\tgrevlex\t2\t1\npoly\t0:1\t01:0\nend\t1\n", refused 2 2)
    ∷ (modulo2 (replicate 97 (powers 0) ++ [] ∷ []), refused 2 99)
    -- Lines in turn: 6 on line 3, 2 on line 4.
    ∷ (bytes "basis\tgrevlex\t2\t1\npoly\t1:1\npoly\t0:1\npoly\nend\t3\n", refused 6 3)
    -- Within the first term 6, 7, 9; a fault in an earlier term comes before the 34th.
    ∷ (bytes "basis\tgrevlex\t3\t1\npoly\t0:33\nend\t1\n", refused 6 2)
    ∷ (bytes "basis\tgrevlex\t3\t1\npoly\t2:33\nend\t1\n", refused 7 2)
    ∷ (modulo2 ((powers 33 ++ (1, 0 ∷ []) ∷ []) ∷ []), refused 7 2)
    ∷ []

checked-by : (cs : List CheckCase) → map (λ c. judge c.0) cs ≡ map (λ c. c.1) cs → Each (λ c. Checked c.0 c.1) cs
checked-by [] e = tt
checked-by (c ∷ cs) e = ((checked-iff c.0 c.1).1 cc, checked-by cs cc)

pub cases-checked : Each (λ (c : CheckCase). Checked c.0 c.1) check_cases
unfolding check_cases judge read_line
cases-checked = checked-by check_cases refl
