-- `line_of` meets its contract. The loop's invariant: the line has m, and the terms of the standard monomials from place k on.
use mathlib.Core.Path.{refl, sym, ◌∙◌}
use native.Mathlib.Omega.{arith}
use borrow.Author.Rules.{rules}
use borrow.Author.Tests.{eqb-true, eqb-false}
use Rattle.lists.proofs.Elements.{length-mapped}
use Rattle.coordinates.specs.Vectors.{FullLength}
use Rattle.fglm.proofs.LineTerms.{writing-start, writing-more, writing-skip, writing-stop}
use Rattle.fglm.proofs.line.line_of.Goals.{Start}
use Rattle.fglm.proofs.line.line_of.Goals as goal

whole : (c : Start) → FullLength c.args.combination
whole c = search (length-mapped, rules)

pub loop-k-init : goal.loop-k-init
loop-k-init c = rw (c.push.ensures.items, c.new-g.ensures) (writing-start c.requires)

pub loop-k-preserved-then-not-is_zero : goal.loop-k-preserved-then-not-is_zero
loop-k-preserved-then-not-is_zero c =
    rw c.push-then-not-is_zero.ensures.items
    (writing-more c.requires (whole (goal.at.loop-k-preserved-then-not-is_zero c).Start) c.loop-k.invariant (omega arith)
    (eqb-false _ _ (sym c.is_zero.ensures ∙ c.if-not-is_zero.true)) c.neg.ensures.0 refl)

pub loop-k-preserved : goal.loop-k-preserved
loop-k-preserved c = writing-skip c.requires (whole (goal.at.loop-k-preserved c).Start) c.loop-k.invariant (omega arith) (eqb-true _ _ (sym c.is_zero.ensures ∙ c.if-not-is_zero.false))

pub returns : goal.returns
returns c = writing-stop c.requires (whole (goal.at.returns c).Start) (omega arith) c.loop-k.invariant
