-- `is_grevlex` meets its contract.
use mathlib.Core.Bool.{false≢true}
use native.Mathlib.Omega.{arith}
use Rattle.tabtext.specs.Text.{bytes}
use Rattle.checks.proofs.OrderWord.{word-other, word_same}
use Rattle.checks.proofs.header.is_grevlex.Goals as goal

pub returns-then-word-ne7 : goal.returns-then-word-ne7
unfolding bytes
returns-then-word-ne7 c =
    let a = c.args in
    (λ e. absurd (false≢true e), λ e. absurd (word-other (bytes "grevlex") a.text.now a.word.start a.word.end (omega arith) (omega arith) c.if-word-ne7.true e))

pub returns : goal.returns
unfolding bytes
returns c =
    let a = c.args in
    word_same (bytes "grevlex") a.text.now a.word.start a.word.end c.word_at.result c.if-word-ne7.false (c.word_at.ensures.within (omega arith))
