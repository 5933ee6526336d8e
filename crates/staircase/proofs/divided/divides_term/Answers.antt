-- `divides_term` meets its contract.
use mathlib.Core.Path.{refl, ◌∙◌}
use native.Mathlib.Omega.{arith}
use lib.ListN.{length}
use Rattle.std.proofs.Common.{rules, tests}
use Rattle.std.proofs.lemmas.Iterator.{YieldsList-from_range}
use Rattle.std.proofs.lemmas.Iterator.Search.{any_from_yields_List}
use Rattle.monomial.specs.Quotients.{divides}
use Rattle.monomial.specs.Represented.{row}
use Rattle.lines.specs.LineTerms.{no_term, monomial_at}
use Rattle.lines.specs.declared.line.LineTerm.{LineTerm}
use Rattle.staircase.proofs.FirstElements.{any-iff, any-places}
use Rattle.staircase.proofs.DividedPlaces.{divides-term-iff}
use Rattle.staircase.proofs.divided.divides_term.Goals as goal

pub returns : goal.returns
unfolding monomial_at no_term
returns c =
    let a = c.args in
    divides-term-iff a.n (row a.n a.d) a.g.now
    (any-iff _ a.g.now no_term
    (any_from_yields_List (λ k. divides a.n (row a.n a.d) (row a.n (monomial_at a.g.now k))) _ _ c.any.result c.any.ensures.ran
    (YieldsList-from_range 0 _ (length a.g.now) refl (omega arith)) (λ x b q k. search (rules, tests))
    ∙ any-places (λ (t : LineTerm). divides a.n (row a.n a.d) (row a.n t.monomial)) a.g.now no_term))
