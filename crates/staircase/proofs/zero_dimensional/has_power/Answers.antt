-- `has_power` meets its contract.
use mathlib.Core.Logic.Iff
use Rattle.std.proofs.Common.{rules, tests}
use Rattle.std.proofs.lemmas.Iterator.{YieldsList-from_slice}
use Rattle.std.proofs.lemmas.Iterator.Search.{any_from_yields_List}
use Rattle.monomial.specs.Quotients.{is_power}
use Rattle.monomial.specs.Represented.{row}
use Rattle.staircase.proofs.ArrayRows.{no_monomial}
use Rattle.staircase.proofs.FirstElements.{any-iff}
use Rattle.staircase.proofs.PowersOfVariables.{power-in-iff}
use Rattle.staircase.proofs.zero_dimensional.has_power.Goals as goal

pub returns : goal.returns
returns c =
    let a = c.args in
    Iff.trans (any-iff (λ d. is_power a.n a.v (row a.n d)) a.leads.now no_monomial
    (any_from_yields_List _ _ _ c.any.result c.any.ensures.ran (YieldsList-from_slice _ c.iter.ensures.rest) (λ x b q k. search (rules, tests))))
    (Iff.symm (power-in-iff a.n a.v a.leads.now))
