-- `counted` meets its contract. The loop's invariant: b is at most the reciprocal of a, and the multiple is the product of a and b.
use mathlib.Core.Path.{◌≡◌, sym, ◌∙◌, subst}
use Prim.Native.Nat.{◌<◌}
use native.Mathlib.Omega.{arith}
use borrow.Author.Tests.{eqb-true, eqb-false}
use Rattle.residue.specs.Modular.{product_mod}
use Rattle.residue.proofs.Counting.{counting-start, counting-below, counting-turn, counting-stop, counting-last}
use Rattle.residue.proofs.reciprocals.counted.Goals as goal

pub mul-multiple-requires : goal.mul-multiple-requires
mul-multiple-requires c =
    let (_, k, _) = c.requires in
    (k, k, c.args.field.prime.size)

pub loop-b-init : goal.loop-b-init
loop-b-init c =
    let (h, k, n) = c.requires in
    rw c.mul-multiple.ensures.0 (counting-start _ _ c.args.field.prime.prime h k n)

pub add-multiple-requires : goal.add-multiple-requires
add-multiple-requires c =
    let (_, k, _) = c.requires in
    (counting-below _ _ _ _ c.loop-b.invariant, k, c.args.field.prime.size)

pub returns-then-eq : goal.returns-then-eq
returns-then-eq c =
    let s = counting-stop _ _ _ _ c.loop-b.invariant (eqb-true _ _ (sym c.eq.ensures ∙ c.if-eq.true)) in
    subst (λ r. (product_mod c.args.field.p c.args.a.0 r ≡ 1) × (r < c.args.field.p)) (omega arith) (s.inverse, s.below)

pub loop-b-preserved : goal.loop-b-preserved
loop-b-preserved c =
    rw c.add-multiple.ensures.0 (counting-turn _ _ _ _ c.loop-b.invariant (eqb-false _ _ (sym c.eq.ensures ∙ c.if-eq.false)))

pub returns : goal.returns
returns c =
    let s = counting-last _ _ _ _ c.loop-b.invariant c.loop-b-test.false in
    (s.inverse, s.below)
