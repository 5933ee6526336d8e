-- `lead_lcm` meets its contract.
use mathlib.Core.Path.{◌∙◌, ap, ap₂}
use Rattle.monomial.specs.Quotients.{lcm}
use Rattle.monomial.specs.Represented.{row}
use Rattle.monomial.proofs.Places.{row-monomial}
use Rattle.lines.specs.LineTerms.{monomial_at}
use Rattle.division.proofs.pairs.lead_lcm.Goals as goal

pub returns : goal.returns
returns c =
    let n = c.args.basis.now.n in
    let f = c.lead-f.ensures ∙ ap (λ ts. monomial_at ts 0) c.generator_at.ensures in
    let g = c.lead-g.ensures ∙ ap (λ ts. monomial_at ts 0) c.generator_at-2.ensures in
    ap (row n) c.lcm.ensures ∙ row-monomial n _ ∙ ap₂ (λ x y. lcm n (row n x) (row n y)) f g
