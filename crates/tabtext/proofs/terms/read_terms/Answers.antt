-- `terms::read_terms` meets its contract.
use Rattle.tabtext.specs.Readers.{◌>>◌, read_byte, read_term, read_terms}
use Rattle.tabtext.proofs.FieldLoop.{tab-said, fields-said}
use Rattle.tabtext.proofs.terms.read_terms.Goals as goal

pub returns : goal.returns
unfolding read_terms
returns c = let a = c.args in fields-said (read_byte 9 >> read_term a.n) a.text.now (tab-said (read_term a.n) a.text.now) a.at c.read_fields.result c.read_fields.ensures
