-- A text that passes checks 2 to 11 has at most 65,536 bytes.
--   widest           bytes of the widest line
--   text-width       lines of at most k bytes each
--   passes-width     a text that passes
use Prim.Native.Nat.{ℕ, ◌+◌, ◌*◌, ◌≤◌}
use mathlib.Core.Path.{ap}
use mathlib.Core.List.{List, [], ◌∷◌, ◌++◌, map}
use native.Mathlib.Nat.{mul-suc}
use native.Mathlib.Omega.{arith}
use lib.ListN.{length, length-append, length-map}
use Rattle.lists.specs.Lists.{◌∈◌, Bytes, Each}
use Rattle.lists.proofs.EachElement.{each_at, each_of}
use Rattle.residue.specs.Prime.{largest_modulus}
use Rattle.monomial.specs.Sizes.{most_variables}
use Rattle.lines.specs.Sizes.{most_terms, most_lines}
use Rattle.lines.specs.Terms.{Term}
use Rattle.tabtext.specs.Sizes.{most_bytes}
use Rattle.tabtext.specs.Text.{bytes, TextLine, header, generator, end, line, text, Number, Exponents}
use Rattle.tabtext.specs.Printed.{printed}
use Rattle.tabtext.proofs.Separators.{end-counted}
use Rattle.tabtext.proofs.Widths.{SmallTerm, number-width-3, header-width, counted-width, generator-width-most}
use Rattle.checks.specs.Checks.{Basis}
use Rattle.checks.proofs.GoodLines.{GoodTerm, GoodLine}
use Rattle.checks.proofs.Passes.{GoodText}

pub text-width : (k : ℕ) (ls : List TextLine) → Each (λ l. length (printed l) ≤ k) ls → length (text ls) ≤ k * length ls
unfolding text printed
text-width k [] h = omega arith
text-width k (l ∷ ls) h =
    rw (mul-suc k (length ls))
    (omega (arith, h.0, text-width k ls h.1, length-append (line l) (10 ∷ text ls), length-append (line l) (10 ∷ [])))

-- The widest line: 33 terms of 16 bytes.
abbrev pub widest : ℕ
widest = 5 + 16 * most_terms

generator-short : (p n : ℕ) (ts : List Term) → p ≤ largest_modulus → n ≤ most_variables → GoodLine p n ts → length (printed (generator ts)) ≤ widest
generator-short p n ts a b g = generator-width-most ts g.size (each_of SmallTerm ts small)
  where
    small : (t : Term) → t ∈ ts → SmallTerm t
    small t i =
        let x = each_at (GoodTerm p) ts g.terms i in
        let y = each_at (λ (t : Term). Number t.0 × Exponents n t.1) ts g.form.1 i in
        (omega (arith, x.1), (omega (arith, y.1.0), x.2))

generators-short : (p n k : ℕ) (ls : List (List Term)) → p ≤ largest_modulus → n ≤ most_variables → k ≤ most_lines → Each (GoodLine p n) ls
    → Each (λ l. length (printed l) ≤ widest) (map generator ls ++ (end k ∷ []))
unfolding bytes
generators-short p n k [] a b c g = (omega (arith, ap length (end-counted k), counted-width (bytes "end") k, number-width-3 k (omega arith)), tt)
generators-short p n k (ts ∷ ls) a b c g = (generator-short p n ts a b g.0, generators-short p n k ls a b c g.1)

pub passes-width : (s : Bytes) (b : Basis) → GoodText s b → length s ≤ most_bytes
unfolding bytes
passes-width s b h =
    let ls : List TextLine = map generator b.generators ++ (end (length b.generators) ∷ []) in
    let front : length (printed (header (bytes "grevlex") b.p b.n)) ≤ widest =
    let a = h.modulus.size in
    let c = h.variables.most in
    omega (arith, header-width (bytes "grevlex") b.p b.n, number-width-3 b.p (omega arith), number-width-3 b.n (omega arith)) in
    omega (
      arith,
      ap length h.stands,
      text-width widest (header (bytes "grevlex") b.p b.n ∷ ls) (front, generators-short b.p b.n (length b.generators) b.generators h.modulus.size h.variables.most h.size h.good),
      length-append (map generator b.generators) (end (length b.generators) ∷ []),
      length-map b.generators generator,
      h.size,
    )
