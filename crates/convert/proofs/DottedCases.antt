-- The cases of document 01 that its list marks with a dot ("Edges of the form"), as one list with one claim.
--   TextCase        a text, the room for its output, and the outcome
--   program t o     a case of the conversion program: its room is most_bytes
--   Follow cs       the outcome of each case follows from the definitions
--   follows         it does where it is the outcome that is computed
--   dotted_cases    the cases with a dot
--   dotted-follow   they follow from the definitions
--   papers          the example of document 002 at p 7, in our lex order; papers-follow
use mathlib.Core.Path.{◌≡◌, refl, subst}
use mathlib.Core.List.{List, [], ◌∷◌, ◌++◌, map}
use Prim.Native.Nat.{ℕ}
use Rattle.lists.specs.Lists.{Bytes, Each}
use Rattle.answer.specs.Outcomes.{Judged, refused, passed}
use Rattle.tabtext.specs.Sizes.{most_bytes}
use Rattle.tabtext.specs.Text.{bytes}
use Rattle.convert.specs.Outcome.{Outcome}
use Rattle.convert.proofs.OutcomeExists.{outcome_exists}

-- A text, the room for its output, and the outcome.
pub record TextCase : Type 0 where
  pub text : Bytes
  pub room : ℕ
  pub outcome : Judged Bytes

-- A case of the conversion program: its room is most_bytes.
abbrev pub program : Bytes → Judged Bytes → TextCase
program t o = record { text = t; room = most_bytes; outcome = o }

-- The outcome of each case follows from the definitions.
abbrev pub Follow : List TextCase → Type 0
Follow cs = Each (λ (c : TextCase). Outcome c.text c.room c.outcome) cs

pub follows : (cs : List TextCase) → map (λ c. (outcome_exists c.text c.room).0) cs ≡ map (λ c. c.outcome) cs → Follow cs
follows [] e = tt
follows (c ∷ cs) e = (subst (Outcome c.text c.room) (cc) (outcome_exists c.text c.room).1, follows cs (cc))

-- The cases with a dot, as they stand there.
unfoldable pub dotted_cases : List TextCase
unfolding bytes
dotted_cases =
    -- The text that document 01 prints.
    program (bytes "basis\tgrevlex\t3\t2\npoly\t1:0.2\t2:1.0\npoly\t1:1.1\t2:0.1\npoly\t1:2.0\t2:1.0\nend\t3\n")
    (passed (bytes "basis\tlex\t3\t2\npoly\t1:0.3\t2:0.1\npoly\t1:1.0\t2:0.2\nstairs\t0.0\t0.1\t0.2\nruns\t3\nend\t2\n"))
    -- p 2, n 1: only line 1:0, and only line 1:1; p 3, only line 1:2.
    ∷ program (bytes "basis\tgrevlex\t2\t1\npoly\t1:0\nend\t1\n") (passed (bytes "basis\tlex\t2\t1\npoly\t1:0\nstairs\nruns\t0\nend\t1\n"))
    ∷ program (bytes "basis\tgrevlex\t2\t1\npoly\t1:1\nend\t1\n") (passed (bytes "basis\tlex\t2\t1\npoly\t1:1\nstairs\t0\nruns\t1\nend\t1\n"))
    ∷ program (bytes "basis\tgrevlex\t3\t1\npoly\t1:2\nend\t1\n") (passed (bytes "basis\tlex\t3\t1\npoly\t1:2\nstairs\t0\t1\nruns\t2\nend\t1\n"))
    -- 13: no poly line, for each allowed n.
    ∷ program (bytes "basis\tgrevlex\t5\t1\nend\t0\n") (refused 13 0)
    ∷ program (bytes "basis\tgrevlex\t5\t2\nend\t0\n") (refused 13 0)
    ∷ program (bytes "basis\tgrevlex\t5\t3\nend\t0\n") (refused 13 0)
    ∷ program (bytes "basis\tgrevlex\t5\t4\nend\t0\n") (refused 13 0)
    -- 4: p 1 and 253; 251 passes.
    ∷ program (bytes "basis\tgrevlex\t1\t1\npoly\t1:1\nend\t1\n") (refused 4 1)
    ∷ program (bytes "basis\tgrevlex\t253\t1\npoly\t1:1\nend\t1\n") (refused 4 1)
    ∷ program (bytes "basis\tgrevlex\t251\t1\npoly\t1:1\nend\t1\n") (passed (bytes "basis\tlex\t251\t1\npoly\t1:1\nstairs\t0\nruns\t1\nend\t1\n"))
    -- 5: n 0 and 5; 4 passes that check.
    ∷ program (bytes "basis\tgrevlex\t2\t0\nend\t0\n") (refused 5 1)
    ∷ program (bytes "basis\tgrevlex\t2\t5\nend\t0\n") (refused 5 1)
    ∷ program (bytes "basis\tgrevlex\t2\t4\nend\t0\n") (refused 13 0)
    -- 6: at p 3, coefficient 0 and 3.
    ∷ program (bytes "basis\tgrevlex\t3\t1\npoly\t1:1\t0:0\nend\t1\n") (refused 6 2)
    ∷ program (bytes "basis\tgrevlex\t3\t1\npoly\t1:1\t3:0\nend\t1\n") (refused 6 2)
    -- Exponent 32: 32 standard monomials; 7: exponent 33.
    ∷ program (bytes "basis\tgrevlex\t2\t1\npoly\t1:32\nend\t1\n")
    (passed (bytes "basis\tlex\t2\t1\npoly\t1:32\n" ++
    bytes "stairs\t0\t1\t2\t3\t4\t5\t6\t7\t8\t9\t10\t11\t12\t13\t14\t15\t16\t17\t18\t19\t20\t21\t22\t23\t24\t25\t26\t27\t28\t29\t30\t31\nruns\t32\n" ++
    bytes "end\t1\n"))
    ∷ program (bytes "basis\tgrevlex\t2\t1\npoly\t1:33\nend\t1\n") (refused 7 2)
    -- 32 standard monomials in two variables; 14: 33 of them.
    ∷ program (bytes "basis\tgrevlex\t2\t2\npoly\t1:4.0\npoly\t1:0.8\nend\t2\n")
    (passed (bytes "basis\tlex\t2\t2\npoly\t1:0.8\npoly\t1:4.0\n" ++
    bytes "stairs\t0.0\t0.1\t0.2\t0.3\t0.4\t0.5\t0.6\t0.7\t1.0\t1.1\t1.2\t1.3\t1.4\t1.5\t1.6" ++
    bytes "\t1.7\t2.0\t2.1\t2.2\t2.3\t2.4\t2.5\t2.6\t2.7\t3.0\t3.1\t3.2\t3.3\t3.4\t3.5\t3.6\t3.7\nruns\t32\nend\t2\n"))
    ∷ program (bytes "basis\tgrevlex\t2\t2\npoly\t1:3.0\npoly\t1:0.11\nend\t2\n") (refused 14 0)
    -- 15: x2^2, x1·x2 - 1, x1^2.
    ∷ program (bytes "basis\tgrevlex\t3\t2\npoly\t1:0.2\npoly\t1:1.1\t2:0.0\npoly\t1:2.0\nend\t3\n") (refused 15 3)
    -- 12: the only poly line, twice.
    ∷ program (bytes "basis\tgrevlex\t2\t1\npoly\t1:1\npoly\t1:1\nend\t2\n") (refused 12 2)
    ∷ []

pub dotted-follow : Follow dotted_cases
unfolding dotted_cases outcome_exists
dotted-follow = follows dotted_cases refl

-- The example of document 002 at p 7: leading monomials z^5, yz, y^2, x.
unfoldable pub papers : List TextCase
unfolding bytes
papers =
    program (bytes "basis\tgrevlex\t7\t3\npoly\t1:0.0.4\t4:0.0.3\t3:0.1.1\t2:0.0.2\t6:0.1.0\t2:0.0.1\t5:0.0.0\npoly\t1:0.1.2\t2:0.1.1\t5:0.0.2\t1:0.0.0\n" ++
    bytes "poly\t1:0.2.0\t5:0.1.1\t1:0.0.2\t6:0.0.1\npoly\t1:1.0.0\t1:0.1.0\t6:0.0.1\nend\t4\n")
    (passed (bytes "basis\tlex\t7\t3\npoly\t1:0.0.5\t4:0.0.4\t2:0.0.3\t1:0.0.2\t5:0.0.1\t4:0.0.0\n" ++
    bytes "poly\t1:0.1.1\t2:0.1.0\t5:0.0.4\t6:0.0.3\t3:0.0.2\t3:0.0.1\t4:0.0.0\npoly\t1:0.2.0\t4:0.1.0\t3:0.0.4\t5:0.0.3\t5:0.0.1\t1:0.0.0\n" ++
    bytes "poly\t1:1.0.0\t1:0.1.0\t6:0.0.1\nstairs\t0.0.0\t0.0.1\t0.0.2\t0.0.3\t0.0.4\t0.1.0\nruns\t6\nend\t4\n"))
    ∷ []

pub papers-follow : Follow papers
unfolding papers outcome_exists
papers-follow = follows papers refl
