-- `monomial_of` meets its contract. The loop's invariant: the first i exponents of the row are stored.
use Prim.Native.Nat.{◌<◌, ◌≤◌}
use mathlib.Core.Path.{sym, ◌∙◌, ap}
use native.Mathlib.Omega.{arith}
use borrow.Author.Rules.{rules}
use Rattle.lists.proofs.EachElement.{each_take}
use Rattle.monomial.specs.Sizes.{most_exponent}
use Rattle.monomial.proofs.Filling.{filled_none, filled_more, filled-all}
use Rattle.lines.proofs.AsRow.{exponent-take}
use Rattle.checks.proofs.term.monomial_of.Goals as goal

pub loop-i-init : goal.loop-i-init
loop-i-init c = (search rules, ap (λ m. m.e) c.one-m.ensures ∙ filled_none _ _)

pub overflow_cast-m : goal.overflow_cast-m
overflow_cast-m c =
    let h : c.loop-i.i < c.args.n = omega arith in
    omega (arith, (each_take (λ e. e ≤ most_exponent) 0 _ _ c.loop-i.invariant.0).0 c.requires c.loop-i.i h)

pub loop-i-preserved : goal.loop-i-preserved
loop-i-preserved c =
    let n = c.args.n in
    let h : c.loop-i.i < n = omega arith in
    (c.loop-i.invariant.0, filled_more n c.loop-i.i _ _ h (omega arith) c.loop-i.invariant.1 (sym (exponent-take n c.loop-i.i _ h)))

pub returns : goal.returns
returns c = filled-all _ c.loop-i.i _ (omega arith) (omega arith) c.loop-i.invariant.1
