-- `multiple` meets its contract.
use mathlib.Core.Path.{◌≡◌, refl, ◌∙◌, ap}
use native.Mathlib.Omega.{arith}
use lib.ListN.{length, get_or}
use Rattle.std.proofs.Common.{rules, tests}
use Rattle.std.proofs.lemmas.Iterator.{YieldsList-from_range}
use Rattle.std.proofs.lemmas.Iterator.Search.{any_from_yields_List}
use Rattle.monomial.specs.Rows.{one}
use Rattle.monomial.specs.Quotients.{divides}
use Rattle.monomial.specs.Represented.{row}
use Rattle.staircase.specs.Leads.{lead_monomials}
use Rattle.staircase.proofs.ArrayRows.{no_monomial, rows_at}
use Rattle.staircase.proofs.FirstElements.{any-places}
use Rattle.staircase.proofs.Multiples.{multiple-any}
use Rattle.staircase.proofs.leads.multiple.Goals as goal

pub returns : goal.returns
returns c =
    let a = c.args in
    let m = row a.n a.m in
    let ms = a.leads.now in
    any_from_yields_List (λ k. divides a.n (row a.n (get_or ms k no_monomial)) m) _ _ c.any.result c.any.ensures.ran
    (YieldsList-from_range 0 _ (length ms) refl (omega arith))
    (λ x b q k.
    let told : b ≡ divides a.n (get_or (lead_monomials a.n ms) x (one a.n)) m = search (rules, tests) in
    (search (rules, tests), told ∙ ap (λ r. divides a.n r m) (rows_at a.n ms x)))
    ∙ any-places (λ d. divides a.n (row a.n d) m) ms no_monomial
    ∙ multiple-any a.n m ms
