-- `last_to` meets its contract: the second reversal gives the elements behind the index their order back.
use Rattle.lines.proofs.Reversals.{two-reversals}
use Rattle.lines.proofs.inline_list.last_to.Goals as goal

pub returns : goal.returns
returns g c front last rest e l = two-reversals _ front rest _ _ last c.args.index c.args.end c.requires.0 e l c.reverse.ensures.after c.reverse-2.ensures.after
