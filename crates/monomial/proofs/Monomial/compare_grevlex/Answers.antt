-- `Monomial::compare_grevlex` meets its contract.
use borrow.Author.Rules.{rules}
use Rattle.monomial.proofs.GrevlexOrder.{grevlex-by}
use Rattle.monomial.proofs.Monomial.compare_grevlex.Goals as goal

pub returns : goal.returns
returns c = grevlex-by _ _ _ c.degree.ensures c.degree-2.ensures c.cmp.ensures c.then_with.ensures (λ tie. search rules)
