-- `load_pair` meets its contract.
use Rattle.division.proofs.AddedTerms.{work-held, adds-held}
use Rattle.division.proofs.PairDivision.{divides-left, divides-right, pair-loaded}
use Rattle.division.proofs.pairs.load_pair.Goals as goal

pub add_line-requires : goal.add_line-requires
add_line-requires c =
    let pair = c.requires in
    rw (c.generator_at-f.ensures, pair.common) (
      pair.sound.lines _ pair.left,
      record { work = work-held pair.work; residue = pair.work.modulus.prime.above_one; low = rw pair.common at pair.low },
      divides-left c.args.basis.now c.args.i c.args.j,
    )

pub add_line-requires-2 : goal.add_line-requires-2
add_line-requires-2 c =
    let pair = c.requires in
    rw (c.generator_at-g.ensures, pair.common) (
      pair.sound.lines _ pair.right,
      record { work = adds-held _ _ (work-held pair.work) c.add_line.ensures; residue = c.neg.ensures.1; low = rw pair.common at pair.low },
      divides-right c.args.basis.now c.args.i c.args.j,
    )

pub returns : goal.returns
returns c =
    let b = c.args.basis.now in
    pair-loaded b c.args.i c.args.j _ _ c.requires.common c.neg.ensures.0
    (rw c.generator_at-f.ensures at c.add_line.ensures) (rw c.generator_at-g.ensures at c.add_line-2.ensures)
