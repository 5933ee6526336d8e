-- `convert_basis` meets its contract (proofs/Converting.antt).
use mathlib.Core.Path.{◌≡◌, ◌∙◌, ap}
use Rattle.convert.proofs.Converting.{enumerates, to-print, finished-basis}
use Rattle.convert.proofs.convert_basis.Goals.{After-new-reciprocals}
use Rattle.convert.proofs.convert_basis.Goals as goal

-- The reciprocals are those modulo the basis' prime.
same : (c : After-new-reciprocals) → c.new-reciprocals.result.field.p ≡ c.args.basis.now.p
same c = ap (λ f. f.p) c.new-reciprocals.ensures ∙ c.new.ensures

pub enumerate-requires : goal.enumerate-requires
enumerate-requires c =
    let given = c.requires in
    enumerates _ _ _ given _ (same (goal.at.enumerate-requires c).After-new-reciprocals) _ (c.x1_to_xn.ensures _ given.variables.most)

pub finish-requires : goal.finish-requires
finish-requires c =
    let given = c.requires in
    to-print _ _ _ given _ (same (goal.at.finish-requires c).After-new-reciprocals) _ (c.x1_to_xn.ensures _ given.variables.most) _ c.enumerate.ensures

pub returns : goal.returns
returns c =
    let given = c.requires in
    finished-basis _ _ _ given _ (same (goal.at.returns c).After-new-reciprocals) _ (c.x1_to_xn.ensures _ given.variables.most) _ c.enumerate.ensures _ _ _ c.finish.ensures
