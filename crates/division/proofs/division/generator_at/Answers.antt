-- `generator_at` meets its contract.
use mathlib.Core.Path.{◌≡◌, ap, subst}
use native.Mathlib.Omega.{arith}
use lib.ListN.{length}
use Rattle.staircase.specs.Sound.{generator_at}
use Rattle.staircase.proofs.LineElements.{generator-read}
use Rattle.division.proofs.division.generator_at.Goals as goal

pub returns : goal.returns
returns c =
    let list = c.deref.ensures.0 in
    subst (λ k. c.deref-2.result.now ≡ generator_at c.args.basis.now k) (omega arith)
    (generator-read _ _ list (omega (arith, ap length list)) c.index-deref-k.is c.deref-2.ensures.0)
