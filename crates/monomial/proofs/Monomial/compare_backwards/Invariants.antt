-- `Monomial::compare_backwards` meets its contract. The loop's invariant: the variables below i decide.
use mathlib.Core.Path.{◌≡◌}
use Rattle.monomial.specs.Orders.{lex, backwards}
use Rattle.monomial.specs.Represented.{row}
use Rattle.monomial.proofs.Monomial.compare_backwards.Given as goal

abbrev pub invariant-loop-i : goal.invariant-loop-i
invariant-loop-i l =
    lex l.fn.n (backwards l.i) (row l.fn.n l.self) (row l.fn.n l.other) ≡ lex l.fn.n (backwards l.fn.n) (row l.fn.n l.self) (row l.fn.n l.other)
