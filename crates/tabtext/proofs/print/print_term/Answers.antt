-- `print::print_term` meets its contract.
use mathlib.Core.Path.{refl}
use mathlib.Core.List.{[], ◌∷◌}
use native.Mathlib.Omega.{arith}
use Rattle.lines.specs.LineTerms.{exponents_of}
use Rattle.tabtext.specs.Text.{decimal, dotted, term}
use Rattle.tabtext.proofs.Separators.{term-parts}
use Rattle.tabtext.proofs.Widths.{number-width-5, term-width}
use Rattle.tabtext.proofs.Writing.{Left, left-all, left-room, left_less, left-last}
use Rattle.tabtext.proofs.print.print_term.Goals.{After-put_number, After-put, Start}
use Rattle.tabtext.proofs.print.print_term.Goals as goal

pub put_number-requires : goal.put_number-requires
put_number-requires g c =
    let laws = g.met.S.Sink.laws in
    left-room laws (decimal c.args.c.0) _ (term-parts _ (exponents_of c.args.n c.args.m)) (left-all laws refl c.requires)

-- What is left after the coefficient.
first : (g : _) (c : After-put_number g) →
    let s = c.args in
    let e = exponents_of s.n s.m in
    Left g.S.Sink.takes g.S.Sink.after s.sink.now (term (s.c.0, e)) (58 ∷ dotted e) c.put_number.new.self
first g c =
    let laws = g.met.S.Sink.laws in
    left_less laws _ _ (term-parts _ _) (left-all laws refl c.requires) c.put_number.ensures

pub put-requires : goal.put-requires
put-requires g c = left-room g.met.S.Sink.laws (58 ∷ []) _ refl (first g (goal.at.put-requires g c).After-put_number)

-- What is left after the colon.
colon : (g : _) (c : After-put g) →
    let s = c.args in
    let e = exponents_of s.n s.m in
    Left g.S.Sink.takes g.S.Sink.after s.sink.now (term (s.c.0, e)) (dotted e) c.put.new.self
colon g c = left_less g.met.S.Sink.laws (58 ∷ []) _ refl (first g (goal.at.After-put g c).After-put_number) c.put.ensures

pub print_exponents-requires : goal.print_exponents-requires
print_exponents-requires g c = (colon g (goal.at.print_exponents-requires g c).After-put).room

pub returns-clause-printed : goal.returns-clause-printed
returns-clause-printed g c = left-last g.met.S.Sink.laws (colon g (goal.at.returns-clause-printed g c).After-put) c.print_exponents.ensures.printed

pub returns-clause-short : goal.returns-clause-short
returns-clause-short g c =
    let s = c.args in
    omega (arith, term-width s.c.0 (exponents_of s.n s.m), number-width-5 s.c.0 (omega arith))
