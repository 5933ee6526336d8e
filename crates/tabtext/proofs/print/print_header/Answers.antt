-- `print::print_header` meets its contract.
use mathlib.Core.Path.{refl, ap, sym}
use mathlib.Core.List.{[], ◌∷◌, ◌++◌}
use native.Mathlib.Omega.{arith}
use Rattle.lists.specs.Lists.{Bytes}
use Rattle.tabtext.specs.Text.{bytes, header, decimal}
use Rattle.tabtext.specs.Printed.{printed}
use Rattle.tabtext.proofs.Separators.{header-after}
use Rattle.tabtext.proofs.Widths.{header-width, number-width-5}
use Rattle.tabtext.proofs.Writing.{Left, left-all, left_less, left-none, left-room}
use Rattle.tabtext.proofs.print.print_header.Goals.{After-put_bytes, After-put_bytes-2, After-print_after, After-print_after-2, Start}
use Rattle.tabtext.proofs.print.print_header.Goals as goal

-- What stands after the order word.
abbrev counts : (g : _) → Start g → Bytes
counts g s = 9 ∷ decimal s.args.p ++ (9 ∷ decimal s.args.n ++ (10 ∷ []))

-- What is left of the line.
abbrev Rest : (g : _) → Start g → Bytes → g.row.S.Denot → Type 0
Rest g s rest now = Left g.S.Sink.takes g.S.Sink.after s.args.sink.now (printed (header s.args.word.now s.args.p s.args.n)) rest now

pub put_bytes-requires : goal.put_bytes-requires
unfolding bytes
put_bytes-requires g c =
    let laws = g.met.S.Sink.laws in
    left-room laws (bytes "basis\t") _ (header-after c.args.word.now c.args.p c.args.n) (left-all laws refl c.requires)

after-basis : (g : _) (c : After-put_bytes g) →
    let s = (goal.at.After-put_bytes g c).Start in
    Rest g s (c.args.word.now ++ counts g s) c.put_bytes.new.self
unfolding bytes
after-basis g c =
    let laws = g.met.S.Sink.laws in
    left_less laws (bytes "basis\t") _ (header-after _ _ _) (left-all laws refl c.requires) c.put_bytes.ensures

pub put_bytes-requires-2 : goal.put_bytes-requires-2
put_bytes-requires-2 g c = left-room g.met.S.Sink.laws c.args.word.now _ refl (after-basis g (goal.at.put_bytes-requires-2 g c).After-put_bytes)

after-order : (g : _) (c : After-put_bytes-2 g) →
    let s = (goal.at.After-put_bytes-2 g c).Start in
    Rest g s (counts g s) c.put_bytes-2.new.self
after-order g c = left_less g.met.S.Sink.laws _ _ refl (after-basis g (goal.at.After-put_bytes-2 g c).After-put_bytes) c.put_bytes-2.ensures

pub print_after-requires : goal.print_after-requires
print_after-requires g c = left-room g.met.S.Sink.laws (9 ∷ decimal c.args.p) _ refl (after-order g (goal.at.print_after-requires g c).After-put_bytes-2)

after-p : (g : _) (c : After-print_after g) → Rest g (goal.at.After-print_after g c).Start (9 ∷ decimal c.args.n ++ (10 ∷ [])) c.print_after.new.sink
after-p g c = left_less g.met.S.Sink.laws _ _ refl (after-order g (goal.at.After-print_after g c).After-put_bytes-2) c.print_after.ensures

pub print_after-requires-2 : goal.print_after-requires-2
print_after-requires-2 g c =
    let same = ap (λ k. 9 ∷ decimal k ++ (10 ∷ [])) (sym c.count.ensures.value) in
    left-room g.met.S.Sink.laws (9 ∷ decimal c.count.result) _ same (after-p g (goal.at.print_after-requires-2 g c).After-print_after)

after-n : (g : _) (c : After-print_after-2 g) → Rest g (goal.at.After-print_after-2 g c).Start (10 ∷ []) c.print_after-2.new.sink
after-n g c =
    let same = ap (λ k. 9 ∷ decimal k ++ (10 ∷ [])) (sym c.count.ensures.value) in
    left_less g.met.S.Sink.laws _ _ same (after-p g (goal.at.After-print_after-2 g c).After-print_after) c.print_after-2.ensures

pub put-requires : goal.put-requires
put-requires g c = (after-n g (goal.at.put-requires g c).After-print_after-2).room

pub returns-clause-printed : goal.returns-clause-printed
returns-clause-printed g c =
    let laws = g.met.S.Sink.laws in
    left-none laws refl (left_less laws _ [] refl (after-n g (goal.at.returns-clause-printed g c).After-print_after-2) c.put.ensures)

pub returns-clause-short : goal.returns-clause-short
returns-clause-short g c =
    let s = c.args in
    omega (arith, header-width s.word.now s.p s.n, number-width-5 s.p (omega arith), number-width-5 s.n (omega arith))
