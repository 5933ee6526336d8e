-- `Coordinates::tabulate` meets its contract. The loop's invariant: the first k coefficients are what f gave.
use Rattle.lists.proofs.Storing.{FilledTo}
use Rattle.coordinates.proofs.Coordinates.tabulate.Given as goal

abbrev pub invariant-loop-k : goal.invariant-loop-k
invariant-loop-k g l = FilledTo (λ j x. goal.F-post g l.f j x) (record { 0 = 0 }) l.initial.r.c l.r.c l.k
