-- `add_line` meets its contract.
use Rattle.monomial.specs.Represented.{row}
use Rattle.monomial.proofs.Products.{divides-at}
use Rattle.lines.specs.LineTerms.{monomial_at}
use Rattle.division.proofs.LineMultiples.{lead-quotient-row, lead-quotient-product, multiple-of-line}
use Rattle.division.proofs.division.add_line.Goals as goal

pub quotient-u-requires : goal.quotient-u-requires
quotient-u-requires c =
    let (line, addend, divides) = c.requires in
    rw c.lead.ensures ((divides-at c.args.n (row c.args.n (monomial_at c.args.g.now 0)) _).0 divides)

pub add_product-requires : goal.add_product-requires
add_product-requires c =
    let (line, addend, divides) = c.requires in
    let e = lead-quotient-product _ _ _ _ (rw c.lead.ensures at c.quotient-u.ensures) divides in
    (line, record { work = addend.work; residue = addend.residue; low = rw e addend.low })

pub returns : goal.returns
returns c = multiple-of-line _ _ c.args.g.now _ _ _ (lead-quotient-row _ _ _ _ (rw c.lead.ensures at c.quotient-u.ensures)) c.add_product.ensures
