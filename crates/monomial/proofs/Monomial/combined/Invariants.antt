-- `Monomial::combined` meets its contract. The loop's invariant: the first i exponents of the row that f makes are stored.
use mathlib.Core.Path.{◌≡◌}
use Rattle.monomial.specs.Rows.{Row}
use Rattle.monomial.specs.Combined.{Combined}
use Rattle.monomial.proofs.Filling.{filled}
use Rattle.monomial.proofs.Monomial.combined.Given as goal

abbrev pub invariant-loop-i : goal.invariant-loop-i
invariant-loop-i g l =
    (a : Row l.fn.n) → Combined l.fn.n (λ x y z. goal.F-post g l.f x y z) l.self l.other a → l.m.e ≡ filled l.fn.n a l.i
