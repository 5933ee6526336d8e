-- The closure of `terms::read_terms` meets its contract.
use native.Mathlib.Omega.{arith}
use Rattle.tabtext.proofs.Places.{starts-within}
use Rattle.tabtext.proofs.terms.fn.read_terms.term.Goals as goal

pub overflow_add-i : goal.overflow_add-i
overflow_add-i c = omega (arith, starts-within _ c.captures.text.now c.args.i c.requires)
