-- `word_over` meets its contract.
use native.Mathlib.Omega.{arith}
use Rattle.residue.proofs.WordQuotients.{over-fits}
use Rattle.residue.proofs.word.word_over.Goals as goal

pub overflow_cast-result-2 : goal.overflow_cast-result-2
overflow_cast-result-2 c = omega (arith, over-fits c.args.p)
