-- `terms::read_rows` meets its contract.
use Rattle.tabtext.specs.Readers.{read_rows, read_row}
use Rattle.tabtext.proofs.FieldLoop.{fields-said}
use Rattle.tabtext.proofs.terms.read_rows.Goals as goal

pub returns : goal.returns
unfolding read_rows
returns c = let a = c.args in fields-said (read_row a.n 9) a.text.now (λ i r tab h. h) a.at c.read_fields.result c.read_fields.ensures
