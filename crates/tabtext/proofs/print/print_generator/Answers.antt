-- `print::print_generator` meets its contract. The fields are the terms of the line, each of at most 30 bytes.
use Prim.Native.Nat.{◌+◌, ◌*◌, ◌≤◌}
use mathlib.Core.Path.{◌≡◌, subst}
use native.Mathlib.Omega.{arith}
use lib.ListN.{length}
use Rattle.lines.specs.LineTerms.{exponents_of}
use Rattle.lines.specs.declared.line.LineTerm.{LineTerm}
use Rattle.tabtext.specs.Text.{bytes, term}
use Rattle.tabtext.specs.Printed.{printed, generator_line, fields_line, Shown}
use Rattle.tabtext.proofs.Separators.{generator-fields}
use Rattle.tabtext.proofs.print.print_generator.Goals.{After-print_fields, Start}
use Rattle.tabtext.proofs.print.print_generator.Goals as goal

-- The field of a term.
abbrev shown : (g : _) → Start g → Shown LineTerm
shown g c = record { bytes = λ t. term (t.coefficient.0, exponents_of c.args.n t.monomial); most = 30 }

-- Room for the line.
room : (g : _) (c : Start g) → g.S.Sink.takes c.args.sink.now (length (fields_line (shown g c).bytes (bytes "poly") c.args.g.now))
room g c = subst (λ l. g.S.Sink.takes c.args.sink.now (length l)) (generator-fields c.args.n c.args.g.now) c.requires

pub print_fields-requires : goal.print_fields-requires
unfolding bytes
print_fields-requires g c =
    let s = (goal.at.print_fields-requires g c).Start in
    (shown g s, record { asks = λ t x r. r; puts = λ t x r p. p; room = room g s })

said : (g : _) (c : After-print_fields g) →
    let l = printed (generator_line c.args.n c.args.g.now) in
    (c.print_fields.new.sink ≡ g.S.Sink.after c.args.sink.now l) × (length l ≤ 5 + 31 * length c.args.g.now)
unfolding bytes
said g c =
    let s = (goal.at.After-print_fields g c).Start in
    let (put, short) = c.print_fields.ensures (shown g s) (record { asks = λ t x r. r; puts = λ t x r p. p; room = room g s }) in
    rw (generator-fields c.args.n c.args.g.now) (put, omega (arith, short))

pub returns-clause-printed : goal.returns-clause-printed
returns-clause-printed g c = (said g c).0

pub returns-clause-short : goal.returns-clause-short
returns-clause-short g c = (said g c).1
