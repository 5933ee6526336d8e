-- `Monomial::exponent` meets its contract.
use mathlib.Core.Path.{◌≡◌, sym, subst}
use native.Mathlib.Omega.{arith}
use lib.ListN.{get_or}
use Rattle.monomial.specs.Rows.{exponent}
use Rattle.monomial.specs.Represented.{row}
use Rattle.monomial.proofs.Places.{exponent-row}
use Rattle.monomial.proofs.Monomial.exponent.Goals as goal

pub returns : goal.returns
unfolding row
returns c n h =
    let m = c.args.self in
    subst (λ i. (get_or m.e i (record { 0 = 0 })).0 ≡ exponent n (row n m) c.args.i) (omega arith) (sym (exponent-row n c.args.i m.e h))
