-- `ranks_of` meets its contract. The loop's invariant: the ranks of the first monomials are listed.
use Prim.Native.Nat.{ℕ}
use mathlib.Core.Path.{subst}
use native.Mathlib.Omega.{arith}
use lib.ListN.{get_or}
use Rattle.lists.proofs.Pushing.{pushed-none, pushed-more}
use Rattle.monomial.specs.Represented.{row}
use Rattle.staircase.proofs.ArrayRows.{no_monomial}
use Rattle.staircase.proofs.RankedLists.{IsRank, list-ranked}
use Rattle.staircase.proofs.ranks.ranks_of.Goals as goal

pub loop-m-init : goal.loop-m-init
loop-m-init g c = rw c.new-ranks.ensures (pushed-none _ _)

pub loop-m-preserved : goal.loop-m-preserved
loop-m-preserved g c =
    let ranked : ℕ → Type 0 = λ n. IsRank n (row n (get_or c.args.list.now c.loop-m.m-index no_monomial)) c.rank.result in
    rw c.push.ensures.items (pushed-more _ _ _ c.loop-m.invariant (subst ranked (omega arith) c.rank.ensures))

pub returns : goal.returns
returns g c = list-ranked _ _ c.loop-m.invariant (omega arith)
