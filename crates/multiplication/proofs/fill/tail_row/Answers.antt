-- `tail_row` meets its contract. The loop's invariant: the terms from k on are subtracted.
use native.Mathlib.Omega.{arith}
use Rattle.multiplication.proofs.ListPlaces.{list-place}
use Rattle.multiplication.proofs.TailRows.{gathered_none, gathered-small, gathered-more, gathered-all}
use Rattle.multiplication.proofs.fill.tail_row.Goals.{After-rank_place-at}
use Rattle.multiplication.proofs.fill.tail_row.Goals as goal

pub loop-k-init : goal.loop-k-init
loop-k-init c =
    let (line, _) = c.requires in
    gathered_none (omega (arith, (line.coefficients 0 line.some).1)) line c.zero-r.ensures

pub subtract_at-r-requires : goal.subtract_at-r-requires
subtract_at-r-requires c =
    let inv = c.loop-k.invariant in
    let (_, l) = c.requires in
    (inv.below, gathered-small inv (omega arith) _, λ k e. omega (arith, (c.rank_place-at.ensures.some k e).within, l))

pub loop-k-preserved : goal.loop-k-preserved
loop-k-preserved c =
    gathered-more c.loop-k.invariant (omega arith) _ (λ l d. list-place _ l d.size d.ranks c.rank.ensures _ c.rank_place-at.ensures) c.subtract_at-r.ensures

pub returns : goal.returns
returns c = gathered-all c.loop-k.invariant (omega arith)
