-- What it means that a text passes checks 2 to 11.
--   GoodText s b    s is the text of the basis b, with an allowed p and n and at most 97 poly lines, all of them good
--   good-text-iff   a text passes with the basis b exactly if this holds
use Prim.Native.Nat.{ℕ, suc, ◌≤◌}
use mathlib.Core.List.{List, [], ◌∷◌, ◌++◌, map, append_assoc, append-nil}
use mathlib.Core.Logic.{◌↔◌}
use mathlib.Core.Path.{◌≡◌, refl, sym, ◌∙◌, ap, ap₂}
use native.Mathlib.Omega.{arith}
use lib.ListN.{length, length-append}
use Rattle.lists.specs.Lists.{Bytes, Each}
use Rattle.residue.specs.Prime.{Modulus, largest_modulus}
use Rattle.monomial.specs.Sizes.{most_variables, VariableCount}
use Rattle.answer.specs.Outcomes.{Judged, refused, passed}
use Rattle.lines.specs.Sizes.{most_lines}
use Rattle.lines.specs.Terms.{Term}
use Rattle.tabtext.specs.Text.{bytes, TextLine, header, generator, end, line, text, Form}
use Rattle.tabtext.specs.Printed.{printed}
use Rattle.checks.specs.Checks.{Basis, Remaining, malformed, generator_refused, generator_passed, end_refused, after_end, complete, Checked, malformed_header, header_refused, header_passed}
use Rattle.checks.proofs.Tests.{eq-decides}
use Rattle.checks.proofs.GoodLines.{GoodLine, required, met, passes-header, passes-good, good-passes}

pub record GoodText (s : Bytes) (b : Basis) : Type 0 where
  pub modulus : Modulus b.p
  pub variables : VariableCount b.n
  pub size : length b.generators ≤ most_lines
  pub good : Each (GoodLine b.p b.n) b.generators
  pub stands : s ≡ text (header (bytes "grevlex") b.p b.n ∷ map generator b.generators ++ (end (length b.generators) ∷ []))

-- The poly lines `more`, and the end line with the number k.
abbrev rest_of : ℕ → List (List Term) → Bytes
rest_of k more = text (map generator more ++ (end k ∷ []))

text-cons : (l : TextLine) (ls : List TextLine) → text (l ∷ ls) ≡ printed l ++ text ls
unfolding text printed
text-cons l ls = sym (append_assoc (line l) (10 ∷ []) (text ls))

text-one : (l : TextLine) → text (l ∷ []) ≡ printed l ++ []
unfolding text
text-one l = text-cons l []

not-passed : {b : Basis} {number k : ℕ} → ¬ (◌≡◌ {A = Judged Basis} (passed b) (refused number k))
not-passed e = let z : ◌≡◌ {A = ℕ} 0 1 = cc in omega arith

header-form : {p n : ℕ} → p ≤ largest_modulus → n ≤ most_variables → Form n (header (bytes "grevlex") p n)
unfolding bytes
header-form h k = omega arith

module _ (p n : ℕ) where
  -- After the poly lines `found` stand `more` good ones and the end line.
  record Ends (b : Basis) (found : List (List Term)) (s : Bytes) : Type 0 where
    all : List (List Term)
    more : List (List Term)
    is : b ≡ record { p = p; n = n; generators = all }
    parts : all ≡ found ++ more
    size : length all ≤ most_lines
    good : Each (GoodLine p n) more
    stands : s ≡ rest_of (length all) more

  passes-ends : {b : Basis} {found : List (List Term)} {s : Bytes} → length found ≤ most_lines → Remaining p n (passed b) found s → Ends b found s
  passes-ends h (malformed m e) = absurd (not-passed e)
  passes-ends h (generator_refused number f c e) = absurd (not-passed e)
  passes-ends h (generator_passed {got = found} {terms} f c r) =
      let x = passes-good p n (suc (length found)) terms f.form c in
      let y = passes-ends (rw length-append (omega (arith, x.0))) r in
      record {
        all = y.all;
        more = terms ∷ y.more;
        is = y.is;
        parts = y.parts ∙ append_assoc found (terms ∷ []) y.more;
        size = y.size;
        good = (x.1, y.good);
        stands = f.stands ∙ ap (printed (generator terms) ++◌) y.stands ∙ sym (text-cons (generator terms) _);
      }
  passes-ends h (end_refused number f c e) = absurd (not-passed e)
  passes-ends h (after_end f c m e) = absurd (not-passed e)
  passes-ends h (complete {got = found} {count} f c e) =
      let x = required (eq-decides count (length found)) c in
      record {
        all = found;
        more = [];
        is = cc;
        parts = sym (append-nil found);
        size = h;
        good = tt;
        stands = rw (← x.0) (f.stands ∙ sym (text-one (end count)));
      }

  ends-pass : (all found more : List (List Term)) → all ≡ found ++ more → length all ≤ most_lines → Each (GoodLine p n) more
      → Remaining p n (passed (record { p = p; n = n; generators = all })) found (rest_of (length all) more)
  ends-pass all found [] e h g =
      let same : all ≡ found = e ∙ append-nil found in
      complete {got = found} {count = length all} (record { form = omega arith; stands = text-one (end (length all)) }) (met (ap length same) refl) (cc)
  ends-pass all found (ts ∷ more) e h g =
      generator_passed (record { form = g.0.form; stands = text-cons (generator ts) _ })
      (good-passes p n (suc (length found)) ts (omega (arith, ap length e, length-append found (ts ∷ more))) g.0)
      (ends-pass all (found ++ (ts ∷ [])) more (e ∙ sym (append_assoc found (ts ∷ []) more)) h g.1)

passes-to : (s : Bytes) (b : Basis) → Checked s (passed b) → GoodText s b
passes-to s b (malformed_header m e) = absurd (not-passed e)
passes-to s b (header_refused number f c e) = absurd (not-passed e)
passes-to s b (header_passed {order} {p} {n} f c r) =
    let x = passes-header order p n c in
    let w = passes-ends p n (omega arith) r in
    rw w.is (record {
      modulus = x.modulus;
      variables = x.variables;
      size = w.size;
      good = rw w.parts w.good;
      stands =
          f.stands
          ∙ ap₂ (λ (o t : Bytes). printed (header o p n) ++ t) x.word (w.stands ∙ ap (rest_of (length w.all)) (sym w.parts))
          ∙ sym (text-cons (header (bytes "grevlex") p n) _);
    })

passes-from : (s : Bytes) (b : Basis) → GoodText s b → Checked s (passed b)
passes-from s b h =
    header_passed (record { form = header-form h.modulus.size h.variables.most; stands = h.stands ∙ text-cons (header (bytes "grevlex") b.p b.n) _ })
    (met refl (met h.modulus (met h.variables refl)))
    (ends-pass b.p b.n b.generators [] b.generators refl h.size h.good)

pub good-text-iff : (s : Bytes) (b : Basis) → Checked s (passed b) ↔ GoodText s b
good-text-iff s b = (passes-to s b, passes-from s b)
