-- `is_detour` meets its contract.
use Rattle.multiplication.proofs.Passing.{detour-iff}
use Rattle.multiplication.proofs.fill.is_detour.Goals as goal

pub returns-then-e-ne0 : goal.returns-then-e-ne0
returns-then-e-ne0 c = detour-iff c.if-e-ne0.true _ _ c.place_after.ensures c.is_none.ensures
