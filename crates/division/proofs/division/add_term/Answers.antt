-- `add_term` meets its contract.
use Prim.Native.Nat.{◌<◌}
use lib.ListN.{length}
use native.Mathlib.Omega.{arith}
use Rattle.monomial.specs.Represented.{row}
use Rattle.division.specs.GrevlexPlace.{place}
use Rattle.division.proofs.AddedTerms.{adds-store}
use Rattle.division.proofs.division.add_term.Goals as goal

pub returns : goal.returns
returns c =
    let n = c.args.n in
    let w = c.args.work.now in
    let e = c.place-at.ensures.value in
    let inside : place n (row n c.args.m) < length w = omega (arith, c.place-at.ensures.inside, c.requires.work.room) in
    rw e (adds-store c.args.p n w _ c.args.c.0 _ c.requires.work.residues inside c.requires.residue (rw e at c.add.ensures.0))
