-- `next` meets its contract. The loop's invariant: the variables of the ranking from place i on are cleared, and give no next monomial.
use mathlib.Core.Path.{◌≡◌, sym, subst}
use native.Mathlib.Omega.{arith}
use borrow.Author.Rules.{rules}
use lib.ListN.{length}
use Rattle.monomial.specs.Sizes.{most_variables}
use Rattle.staircase.proofs.Carries.{Cleared, clear-nothing, variable-within, variable-exponent, cleared-found, cleared_more, cleared-all}
use Rattle.staircase.proofs.next.next.Goals as goal

pub loop-i-init : goal.loop-i-init
loop-i-init c =
    let l : length c.args.ranking.variables ≡ most_variables = search rules in
    subst (Cleared _ _ _ _ _) (sym c.count-i.ensures.value) (clear-nothing c.args.m (omega arith) c.requires.0 c.requires.1)

-- The variable is one of the n, as `variable-within` says.
pub bounds-r-v : goal.bounds-r-v
bounds-r-v c = omega (arith, variable-within c.loop-i.invariant (omega arith))

pub overflow_add-r : goal.overflow_add-r
overflow_add-r c =
    omega (arith, variable-exponent c.loop-i.invariant (omega arith), c.requires.2 _ (variable-within c.loop-i.invariant (omega arith)))

pub bounds-r-v-in-loop-i : goal.bounds-r-v-in-loop-i
bounds-r-v-in-loop-i c = omega (arith, variable-within c.loop-i.invariant (omega arith))

pub returns-then-not-multiple : goal.returns-then-not-multiple
returns-then-not-multiple c = cleared-found c.loop-i.invariant (omega arith) c.multiple.ensures c.if-not-multiple.true

pub bounds-r-v-in-loop-i-2 : goal.bounds-r-v-in-loop-i-2
bounds-r-v-in-loop-i-2 c = omega (arith, variable-within c.loop-i.invariant (omega arith))

pub loop-i-preserved : goal.loop-i-preserved
loop-i-preserved c = cleared_more c.loop-i.invariant (omega arith) c.multiple.ensures c.if-not-multiple.false

pub returns : goal.returns
returns c = cleared-all c.loop-i.invariant (omega arith)
