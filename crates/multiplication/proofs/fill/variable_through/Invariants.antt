-- `variable_through` meets its contract. The loop's invariant: none of the variables before x_j passes.
use Prim.Native.Nat.{ℕ, ◌<◌}
use lib.ListN.{get_or}
use Rattle.monomial.specs.Rows.{exponent}
use Rattle.monomial.specs.Represented.{row}
use Rattle.multiplication.specs.Rules.{PassesBy}
use Rattle.multiplication.proofs.fill.variable_through.Given as goal

abbrev pub invariant-loop-j : goal.invariant-loop-j
invariant-loop-j l = (k : ℕ) → k < l.j → ¬ PassesBy l.ranks (exponent l.fn.n (row l.fn.n l.m) k) l.wanted (get_or l.variables k 0)
