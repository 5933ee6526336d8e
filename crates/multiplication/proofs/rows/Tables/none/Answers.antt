-- `Tables::none` meets its contract.
use Rattle.monomial.specs.Sizes.{most_variables}
use Rattle.lines.specs.Sizes.{most_standard}
use Rattle.multiplication.proofs.TableRows.{no-rows}
use Rattle.multiplication.proofs.rows.Tables.none.Goals as goal

pub returns : goal.returns
returns c = no-rows most_variables most_standard c.zero-zero.result c.zero-zero.ensures
