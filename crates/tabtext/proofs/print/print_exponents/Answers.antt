-- `print::print_exponents` meets its contract. The loop's invariant: the exponents from place j on are left, each with a dot before it.
use Prim.Native.Nat.{ℕ, ◌<◌}
use mathlib.Core.Path.{◌≡◌, refl, sym, ap}
use mathlib.Core.List.{[], ◌++◌}
use borrow.Author.Rules.{rules}
use native.Mathlib.Omega.{arith}
use lib.ListN.{length}
use Rattle.lists.proofs.Elements.{length-mapped}
use Rattle.monomial.specs.Sizes.{most_variables}
use Rattle.monomial.specs.declared.Monomial.{Monomial}
use Rattle.lines.specs.LineTerms.{exponents_of}
use Rattle.tabtext.specs.Text.{decimal, dotted}
use Rattle.tabtext.proofs.FieldPrinting.{each_more, printing-room, printing-turn, printing-last, printing-short}
use Rattle.tabtext.proofs.Separators.{StandsAt, fields_from, exponents-after}
use Rattle.tabtext.proofs.Values.{exponents-length-of, exponent-stands}
use Rattle.tabtext.proofs.Widths.{number-width-5, row-width-5}
use Rattle.tabtext.proofs.Writing.{left-all, left_less, left-none, left-room}
use Rattle.tabtext.proofs.print.print_exponents.Goals.{After-exponent_at, After-exponent_at-in-loop-j, Start}
use Rattle.tabtext.proofs.print.print_exponents.Goals as goal

-- In no variables there is nothing to print.
none : (n : ℕ) (m : Monomial) → n ≡ 0 → dotted (exponents_of n m) ≡ []
unfolding dotted exponents_of
none n m e = rw e refl

pub returns-then-count-eq0-clause-printed : goal.returns-then-count-eq0-clause-printed
returns-then-count-eq0-clause-printed g c = rw (none c.args.n c.args.m (omega arith)) (sym (g.met.S.Sink.laws.nothing c.args.sink.now))

pub returns-then-count-eq0-clause-short : goal.returns-then-count-eq0-clause-short
returns-then-count-eq0-clause-short g c = omega (arith, ap length (none c.args.n c.args.m (omega arith)))

-- The row's length, from the type of the monomial.
long : (g : _) (c : Start g) → length (exponents_of c.args.n c.args.m) ≡ c.args.n
long g c =
    let k : length c.args.m.e ≡ most_variables = search (length-mapped, rules) in
    exponents-length-of c.args.n c.args.m (omega arith)

-- There is one.
some : (g : _) (c : After-exponent_at g) → 0 < c.args.n
some g c = omega arith

-- The first exponent.
first : (g : _) (c : After-exponent_at g) → StandsAt (exponents_of c.args.n c.args.m) 0 c.exponent_at.result
first g c =
    exponent-stands c.args.n 0 _ _ (long g (goal.at.After-exponent_at g c).Start) (some g c) (c.exponent_at.ensures.0 _ (some g c))

-- The row is it and the later ones.
parted : (g : _) (c : After-exponent_at g) →
    let e = exponents_of c.args.n c.args.m in
    dotted e ≡ decimal c.exponent_at.result ++ fields_from decimal 46 e [] 1
parted g c = exponents-after _ _ (first g c)

pub put_number-requires : goal.put_number-requires
put_number-requires g c =
    let laws = g.met.S.Sink.laws in
    left-room laws (decimal c.exponent_at.result) _ (parted g c) (left-all laws refl c.requires)

pub loop-j-init : goal.loop-j-init
loop-j-init g c =
    let laws = g.met.S.Sink.laws in
    let s = (goal.at.loop-j-init g c).After-exponent_at in
    record {
      left = left_less laws _ _ (parted g s) (left-all laws refl c.requires) c.put_number.ensures;
      short = each_more (λ v. length (decimal v) < 6) _ 0 _ (first g s) (omega (arith, number-width-5 _ c.exponent_at.ensures.1)) tt;
    }

-- The exponent that is printed stands at place j.
here : (g : _) (c : After-exponent_at-in-loop-j g) → StandsAt (exponents_of c.args.n c.args.m) c.loop-j.j c.exponent_at-in-loop-j.result
here g c =
    let h : c.loop-j.j < c.args.n = omega arith in
    exponent-stands _ _ _ _ (long g (goal.at.After-exponent_at-in-loop-j g c).Start) h (c.exponent_at-in-loop-j.ensures.0 _ h)

pub print_after-requires : goal.print_after-requires
print_after-requires g c = printing-room g.met.S.Sink.laws c.loop-j.invariant _ (here g c)

pub loop-j-preserved : goal.loop-j-preserved
loop-j-preserved g c =
    let s = (goal.at.loop-j-preserved g c).After-exponent_at-in-loop-j in
    printing-turn g.met.S.Sink.laws c.loop-j.invariant _ (here g s) (omega (arith, number-width-5 _ c.exponent_at-in-loop-j.ensures.1)) c.print_after.ensures

pub returns-clause-printed : goal.returns-clause-printed
returns-clause-printed g c =
    let laws = g.met.S.Sink.laws in
    left-none laws refl (printing-last laws c.loop-j.invariant (omega (arith, long g (goal.at.returns-clause-printed g c).Start)))

pub returns-clause-short : goal.returns-clause-short
returns-clause-short g c =
    let k = long g (goal.at.returns-clause-short g c).Start in
    row-width-5 _ _ k (omega arith) (printing-short g.met.S.Sink.laws c.loop-j.invariant (omega (arith, k)))
