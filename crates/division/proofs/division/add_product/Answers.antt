-- `add_product` meets its contract. The loop's invariant: the first terms are added.
use native.Mathlib.Omega.{arith}
use Rattle.monomial.proofs.Places.{row-monomial}
use Rattle.division.proofs.AddedTerms.{adds-held}
use Rattle.division.proofs.LineTerms.{term-coefficient, term-monomial}
use Rattle.division.proofs.AddedMultiples.{added-start, added-degree, added-fits, added-turn, added-stop}
use Rattle.division.proofs.division.add_product.Goals as goal

pub loop-t-init : goal.loop-t-init
loop-t-init c =
    let (line, addend) = c.requires in
    added-start _ _ _ _ _ addend.work.residues

pub mul-requires : goal.mul-requires
mul-requires c =
    let (line, addend) = c.requires in
    let h = c.loop-t-test.true in
    (addend.residue, rw term-coefficient (line.coefficients c.loop-t.t-index h).1, addend.work.modulus.size)

pub product-requires : goal.product-requires
product-requires c =
    let (line, addend) = c.requires in
    let h = c.loop-t-test.true in
    rw term-monomial (added-fits _ _ _ _ line _ h addend.low)

pub add_term-requires : goal.add_term-requires
add_term-requires c =
    let (line, addend) = c.requires in
    let h = c.loop-t-test.true in
    record {
      work = adds-held _ _ addend.work c.loop-t.invariant.adds;
      residue = c.mul.ensures.1;
      low = rw (c.product.ensures, row-monomial, term-monomial) (added-degree _ _ _ _ line _ h addend.low);
    }

pub loop-t-preserved : goal.loop-t-preserved
loop-t-preserved c = added-turn _ _ _ _ _ _ c.loop-t.invariant _ c.loop-t-test.true c.mul.ensures.0 (rw (c.product.ensures, row-monomial)) c.add_term.ensures

pub returns : goal.returns
returns c =
    let (line, addend) = c.requires in
    added-stop _ _ _ _ _ _ c.loop-t.invariant line (omega arith)
