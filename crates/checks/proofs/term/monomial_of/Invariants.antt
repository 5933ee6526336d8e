-- `monomial_of` meets its contract. The loop's invariant: the first i exponents of the row are stored.
use Prim.Native.Nat.{◌≤◌}
use mathlib.Core.Path.{◌≡◌}
use lib.ListN.{length, take}
use Rattle.monomial.proofs.Filling.{filled}
use Rattle.lines.specs.Terms.{as_row}
use Rattle.checks.proofs.term.monomial_of.Given as goal

abbrev pub invariant-loop-i : goal.invariant-loop-i
invariant-loop-i l = (l.fn.n ≤ length l.exponents) × (l.m.e ≡ filled l.fn.n (as_row l.fn.n (take l.fn.n l.exponents)) l.i)
