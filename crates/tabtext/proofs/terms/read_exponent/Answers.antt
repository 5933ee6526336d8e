-- `terms::read_exponent` meets its contract.
use Rattle.tabtext.proofs.Sequences.{exponent-first, exponent-later}
use Rattle.tabtext.proofs.terms.read_exponent.Goals as goal

pub returns-then-j-eq0 : goal.returns-then-j-eq0
returns-then-j-eq0 c = rw (exponent-first _ c.if-j-eq0.true) c.read_number.ensures

pub returns-else-j-eq0 : goal.returns-else-j-eq0
returns-else-j-eq0 c = rw (exponent-later _ c.if-j-eq0.false) c.read_field.ensures
