-- `print::print_standard` meets its contract. The fields are the rows of the monomials, each of at most 24 bytes.
use Prim.Native.Nat.{◌+◌, ◌*◌, ◌≤◌}
use mathlib.Core.Path.{◌≡◌, subst}
use native.Mathlib.Omega.{arith}
use lib.ListN.{length}
use Rattle.monomial.specs.declared.Monomial.{Monomial}
use Rattle.lines.specs.LineTerms.{exponents_of}
use Rattle.tabtext.specs.Text.{bytes, dotted}
use Rattle.tabtext.specs.Printed.{printed, standard_line, fields_line, Shown}
use Rattle.tabtext.proofs.Separators.{standard-fields}
use Rattle.tabtext.proofs.print.print_standard.Goals.{After-print_fields, Start}
use Rattle.tabtext.proofs.print.print_standard.Goals as goal

-- The row of a monomial.
abbrev shown : (g : _) → Start g → Shown Monomial
shown g c = record { bytes = λ m. dotted (exponents_of c.args.n m); most = 24 }

-- Room for the line.
room : (g : _) (c : Start g) → g.S.Sink.takes c.args.sink.now (length (fields_line (shown g c).bytes (bytes "stairs") c.args.monomials.now))
room g c = subst (λ l. g.S.Sink.takes c.args.sink.now (length l)) (standard-fields c.args.n c.args.monomials.now) c.requires

pub print_fields-requires : goal.print_fields-requires
unfolding bytes
print_fields-requires g c =
    let s = (goal.at.print_fields-requires g c).Start in
    (shown g s, record { asks = λ t x r. r; puts = λ t x r p. p; room = room g s })

said : (g : _) (c : After-print_fields g) →
    let l = printed (standard_line c.args.n c.args.monomials.now) in
    (c.print_fields.new.sink ≡ g.S.Sink.after c.args.sink.now l) × (length l ≤ 7 + 25 * length c.args.monomials.now)
unfolding bytes
said g c =
    let s = (goal.at.After-print_fields g c).Start in
    let (put, short) = c.print_fields.ensures (shown g s) (record { asks = λ t x r. r; puts = λ t x r p. p; room = room g s }) in
    rw (standard-fields c.args.n c.args.monomials.now) (put, omega (arith, short))

pub returns-clause-printed : goal.returns-clause-printed
returns-clause-printed g c = (said g c).0

pub returns-clause-short : goal.returns-clause-short
returns-clause-short g c = (said g c).1
