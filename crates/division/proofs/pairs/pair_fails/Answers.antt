-- `pair_fails` meets its contract.
use Rattle.division.proofs.PairDivision.{pair_of, pair-dividend, pair-says}
use Rattle.division.proofs.pairs.pair_fails.Goals as goal

pub sweep-requires : goal.sweep-requires
sweep-requires c =
    let (ready, left, right) = c.requires in
    pair-dividend (pair_of ready left right c.lead_lcm-top.ensures) ready.zero c.load_pair.ensures

pub returns : goal.returns
returns c =
    let (ready, left, right) = c.requires in
    pair-says _ ready.pairs.sound _ _ left right _ _ ready.zero c.load_pair.ensures _ c.sweep.ensures
