-- `print::print_after` meets its contract.
use mathlib.Core.Path.{refl}
use mathlib.Core.List.{[], ◌∷◌}
use Rattle.tabtext.specs.Text.{decimal}
use Rattle.tabtext.proofs.Writing.{left-all, left-room}
use Rattle.tabtext.proofs.print.print_after.Goals as goal

pub put-requires : goal.put-requires
put-requires g c =
    let laws = g.met.S.Sink.laws in
    left-room laws (c.args.separator ∷ []) (decimal c.args.v) refl (left-all laws refl c.requires)
