-- The wrong converters of document 01 ("Contract strength", 2) that no edit shows do not meet the contract.
--   example, example_output, one_alone, one_alone_output
--                        two of the dotted cases and their outputs: the text that document 01 prints; the only line 1
--   example-follows, one-alone-follows
--                        these are their outcomes
--   Wrong input front    no answer that leaves bytes which start so meets it, with the room that the program gives
--   wrong-at             so it is where the right output has another byte
--   prints-the-example   of one that prints the example for every text
--   relabels             of one that relabels the input as lex, relabelled
--   copies               of one that finds the line in xn truly and copies the other lines from the input: going_on, with any of them
use Prim.Native.Nat.{ℕ, ◌<◌}
use mathlib.Core.Path.{◌≡◌, refl, sym, ◌∙◌, ap, subst}
use mathlib.Core.List.{[], ◌∷◌, ◌++◌}
use native.Mathlib.Omega.{arith}
use lib.ListN.{length, drop, get_or, get_or-append}
use Rattle.lists.specs.Lists.{Bytes, Each}
use Rattle.answer.specs.Outcomes.{passed}
use Rattle.answer.specs.Answers.{after}
use Rattle.answer.specs.declared.Refused.{Refused}
use Rattle.std.specs.Prelude.{Result, Ok}
use Rattle.tabtext.specs.Sizes.{most_bytes}
use Rattle.tabtext.specs.Text.{bytes}
use Rattle.convert.specs.Outcome.{Outcome}
use Rattle.convert.specs.Contract.{Meets}
use Rattle.convert.proofs.Meets.{meets-of}
use Rattle.convert.proofs.Functional.{functional}
use Rattle.convert.proofs.DottedCases.{dotted_cases, dotted-follow}

-- The text that document 01 prints, and its output.
unfoldable pub example : Bytes
unfolding bytes
example = bytes "basis\tgrevlex\t3\t2\npoly\t1:0.2\t2:1.0\npoly\t1:1.1\t2:0.1\npoly\t1:2.0\t2:1.0\nend\t3\n"

unfoldable pub example_output : Bytes
unfolding bytes
example_output = bytes "basis\tlex\t3\t2\npoly\t1:0.3\t2:0.1\npoly\t1:1.0\t2:0.2\nstairs\t0.0\t0.1\t0.2\nruns\t3\nend\t2\n"

-- The only line 1:0, at p 2 in one variable, and its output.
unfoldable pub one_alone : Bytes
unfolding bytes
one_alone = bytes "basis\tgrevlex\t2\t1\npoly\t1:0\nend\t1\n"

unfoldable pub one_alone_output : Bytes
unfolding bytes
one_alone_output = bytes "basis\tlex\t2\t1\npoly\t1:0\nstairs\nruns\t0\nend\t1\n"

pub example-follows : Outcome example most_bytes (passed example_output)
unfolding dotted_cases example example_output bytes
example-follows = dotted-follow.0

pub one-alone-follows : Outcome one_alone most_bytes (passed one_alone_output)
unfolding dotted_cases one_alone one_alone_output bytes
one-alone-follows = dotted-follow.1.0

-- Whatever the answer, and whatever follows these bytes.
abbrev pub Wrong : Bytes → Bytes → Type 0
Wrong input front = (was rest : Bytes) (a : Result ℕ Refused) → most_bytes ≡ length was → ¬ Meets input was (front ++ rest) a

pub wrong-at : (input out front : Bytes) (i : ℕ) → Outcome input most_bytes (passed out) → i < length front → i < length out → ¬ (get_or front i 0 ≡ get_or out i 0) → Wrong input front
wrong-at input out front i right in-front in-out differ was rest a size m =
    let other = meets-of input was (after (passed out) was) (Ok (length out)) (passed out, subst (λ room. Outcome input room (passed out)) size right, refl, refl) in
    let (_, same) = functional input was (front ++ rest) (after (passed out) was) a (Ok (length out)) m other in
    differ (sym (get_or-append front rest 0 i in-front) ∙ ap (λ s. get_or s i 0) same ∙ get_or-append out (drop (length out) was) 0 i in-out)

pub prints-the-example : Wrong one_alone example_output
unfolding bytes one_alone_output example_output
prints-the-example = wrong-at one_alone one_alone_output example_output 10 one-alone-follows (omega arith) (omega arith) (λ e. omega (arith, e))

-- The poly lines of the example under a basis line with the word lex.
unfoldable pub relabelled : Bytes
unfolding bytes
relabelled = bytes "basis\tlex\t3\t2\npoly\t1:0.2\t2:1.0\npoly\t1:1.1\t2:0.1\npoly\t1:2.0\t2:1.0\n"

pub relabels : Wrong example relabelled
unfolding bytes relabelled example_output
relabels = wrong-at example example_output relabelled 23 example-follows (omega arith) (omega arith) (λ e. omega (arith, e))

-- The line in x2 as it has to be, and then a line with these terms.
unfoldable pub going_on : Bytes → Bytes
unfolding bytes
going_on terms = bytes "basis\tlex\t3\t2\npoly\t1:0.3\t2:0.1\npoly\t" ++ terms

goes-on : (terms : Bytes) (i : ℕ) → i < length (going_on terms) → i < length example_output → ¬ (get_or (going_on terms) i 0 ≡ get_or example_output i 0) → Wrong example (going_on terms)
goes-on terms i = wrong-at example example_output (going_on terms) i example-follows

pub copies : Each (λ (terms : Bytes). Wrong example (going_on terms)) (bytes "1:0.2\t2:1.0\n" ∷ bytes "1:1.1\t2:0.1\n" ∷ bytes "1:2.0\t2:1.0\n" ∷ [])
unfolding bytes going_on example_output
copies = (
  goes-on (bytes "1:0.2\t2:1.0\n") 38 (omega arith) (omega arith) (λ e. omega (arith, e)),
  (
    goes-on (bytes "1:1.1\t2:0.1\n") 40 (omega arith) (omega arith) (λ e. omega (arith, e)),
    (goes-on (bytes "1:2.0\t2:1.0\n") 38 (omega arith) (omega arith) (λ e. omega (arith, e)), tt),
  ),
)
