-- `record::word_at` meets its contract.
use native.Mathlib.Omega.{arith}
use Rattle.tabtext.proofs.Words.{word-said}
use Rattle.tabtext.proofs.record.word_at.Goals as goal

pub returns : goal.returns
returns c =
    let a = c.args in
    let (says, none) = word-said a.word.now a.text.now a.at c.starts_with.result c.min.ensures c.starts_with.ensures.value in
    record { within = λ h. says (λ z. h); some = λ h. says (λ z. absurd (omega (arith, h, z))); empty = none }
