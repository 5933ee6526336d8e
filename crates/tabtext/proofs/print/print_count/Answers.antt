-- `print::print_count` meets its contract.
use mathlib.Core.Path.{refl}
use mathlib.Core.List.{[], ◌∷◌, ◌++◌}
use native.Mathlib.Omega.{arith}
use Rattle.lists.specs.Lists.{Bytes}
use Rattle.tabtext.specs.Text.{decimal}
use Rattle.tabtext.specs.Printed.{count_line}
use Rattle.tabtext.proofs.Separators.{counted-parts}
use Rattle.tabtext.proofs.Widths.{counted-width, number-width-5}
use Rattle.tabtext.proofs.Writing.{Left, left-all, left_less, left-none, left-room}
use Rattle.tabtext.proofs.print.print_count.Goals.{After-put_bytes, After-print_after, Start}
use Rattle.tabtext.proofs.print.print_count.Goals as goal

pub put_bytes-requires : goal.put_bytes-requires
put_bytes-requires g c =
    let laws = g.met.S.Sink.laws in
    left-room laws c.args.word.now _ (counted-parts _ c.args.v) (left-all laws refl c.requires)

-- What is left of the line.
abbrev Rest : (g : _) → Start g → Bytes → g.row.S.Denot → Type 0
Rest g s rest now = Left g.S.Sink.takes g.S.Sink.after s.args.sink.now (count_line s.args.word.now s.args.v) rest now

after-word : (g : _) (c : After-put_bytes g) → Rest g (goal.at.After-put_bytes g c).Start (9 ∷ decimal c.args.v ++ (10 ∷ [])) c.put_bytes.new.self
after-word g c =
    let laws = g.met.S.Sink.laws in
    left_less laws _ _ (counted-parts _ _) (left-all laws refl c.requires) c.put_bytes.ensures

pub print_after-requires : goal.print_after-requires
print_after-requires g c = left-room g.met.S.Sink.laws (9 ∷ decimal c.args.v) _ refl (after-word g (goal.at.print_after-requires g c).After-put_bytes)

after-number : (g : _) (c : After-print_after g) → Rest g (goal.at.After-print_after g c).Start (10 ∷ []) c.print_after.new.sink
after-number g c = left_less g.met.S.Sink.laws _ _ refl (after-word g (goal.at.After-print_after g c).After-put_bytes) c.print_after.ensures

pub put-requires : goal.put-requires
put-requires g c = (after-number g (goal.at.put-requires g c).After-print_after).room

pub returns-clause-printed : goal.returns-clause-printed
returns-clause-printed g c =
    let laws = g.met.S.Sink.laws in
    left-none laws refl (left_less laws _ [] refl (after-number g (goal.at.returns-clause-printed g c).After-print_after) c.put.ensures)

pub returns-clause-short : goal.returns-clause-short
returns-clause-short g c v = omega (arith, counted-width c.args.word.now c.args.v, number-width-5 c.args.v v)
