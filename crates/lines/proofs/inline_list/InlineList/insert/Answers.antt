-- `insert` meets its contract: the element is put behind the others, and then to its place.
use mathlib.Core.Path.{◌≡◌, ap}
use mathlib.Core.List.{◌++◌}
use Rattle.std.proofs.Common.{arith, rules, length, take, drop, ◌+◌, ◌<◌, ◌≤◌, length-take-le}
use Rattle.std.specs.Prelude.{insert}
use Rattle.lines.proofs.InlineLists.{put-splits, blank-insert, items-insert}
use Rattle.lines.proofs.inline_list.InlineList.insert.Goals.{After-last_to}
use Rattle.lines.proofs.inline_list.InlineList.insert.Goals as goal

-- There is room, and the index lies among the elements or behind them.
room : (g : _) (c : After-last_to g) → c.self.inside.count < g.row.CAP
room g c = search (arith, rules)

within : (g : _) (c : After-last_to g) → c.args.index ≤ c.self.inside.count
within g c = search (arith, rules)

-- The places after the call.
moved : (g : _) (c : After-last_to g) →
    let k = c.self.inside.count in
    let l = c.self.inside.places in
    c.last_to.new.places ≡ insert (take k l) c.args.index c.args.element ++ drop (k + 1) l
moved g c =
    let k = c.self.inside.count in
    let l = c.self.inside.places in
    let cut : length (take k l) ≡ k = length-take-le k l (omega (arith, c.self.told, room g c)) in
    c.last_to.ensures (take k l) c.args.element (drop (k + 1) l) (put-splits k l c.args.element (omega (arith, c.self.told, room g c))) (ap (λ n. n + 1) cut)

pub invariant_of-self : goal.invariant_of-self
invariant_of-self g c =
    let s = (goal.at.invariant_of-self g c).After-last_to in
    blank-insert _ _ s.self.inside.count s.args.index s.self.inside.places _ s.args.element (room g s) (within g s) s.self.invariant (moved g s)

pub returns-clause-items : goal.returns-clause-items
returns-clause-items g c =
    let s = (goal.at.returns-clause-items g c).After-last_to in
    rw (← s.self.view_is)
    (items-insert _ _ s.self.inside.count s.args.index s.self.inside.places _ s.args.element (room g s) (within g s) s.self.invariant (moved g s))
