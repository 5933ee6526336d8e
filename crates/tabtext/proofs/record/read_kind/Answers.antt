-- `record::read_kind` meets its contract: the first word decides, and where none of the words stands there is no line.
use mathlib.Core.Path.{refl, ◌∙◌}
use native.Mathlib.Omega.{arith}
use lib.ListN.{drop}
use Rattle.tabtext.specs.Text.{bytes}
use Rattle.tabtext.specs.Readers.{pure, read_header, read_generator, read_standard, read_points, read_end}
use Rattle.tabtext.specs.Answers.{WordAt}
use Rattle.tabtext.proofs.Steps.{then-got, then-bad}
use Rattle.tabtext.proofs.FirstWord.{no_line, header-line, generator-line, standard-line, points-line, end_line}
use Rattle.tabtext.proofs.Found.{line-missing, line-found, by_word}
use Rattle.tabtext.proofs.record.read_kind.Goals.{Then-word_at-4, Then-word_at-5}
use Rattle.tabtext.proofs.record.read_kind.Goals as goal

-- None of the words stands there.
pub returns-else-word_at-5 : goal.returns-else-word_at-5
unfolding bytes
returns-else-word_at-5 c =
    let a = c.args in
    rw
    (no_line a.n (drop a.at a.text.now)
    (rw c.if-word_at.false at (c.word_at.ensures.some (omega arith)))
    (rw c.if-word_at-2.false at (c.word_at-else-word_at.ensures.some (omega arith)))
    (rw c.if-word_at-3.false at (c.word_at-else-word_at-2.ensures.some (omega arith)))
    (rw c.if-word_at-4.false at (c.word_at-else-word_at-3.ensures.some (omega arith)))
    (rw c.if-word_at-5.false at (c.word_at-else-word_at-4.ensures.some (omega arith))))

pub read_header-requires : goal.read_header-requires
unfolding bytes
read_header-requires c = rw c.if-word_at.true at (c.word_at.ensures.some (omega arith))

pub read_generator-requires : goal.read_generator-requires
unfolding bytes
read_generator-requires c = rw c.if-word_at-2.true at (c.word_at-else-word_at.ensures.some (omega arith))

pub read_standard-requires : goal.read_standard-requires
unfolding bytes
read_standard-requires c = rw c.if-word_at-3.true at (c.word_at-else-word_at-2.ensures.some (omega arith))

pub returns-then-word_at : goal.returns-then-word_at
unfolding bytes
returns-then-word_at c = by_word _ read_header (rw c.if-word_at.true at (c.word_at.ensures.some (omega arith))) (header-line _) c.read_header.ensures

pub returns-then-word_at-2 : goal.returns-then-word_at-2
unfolding bytes
returns-then-word_at-2 c = by_word _ (read_generator _) (rw c.if-word_at-2.true at (c.word_at-else-word_at.ensures.some (omega arith))) (generator-line _) c.read_generator.ensures

pub returns-then-word_at-3 : goal.returns-then-word_at-3
unfolding bytes
returns-then-word_at-3 c = by_word _ (read_standard _) (rw c.if-word_at-3.true at (c.word_at-else-word_at-2.ensures.some (omega arith))) (standard-line _) c.read_standard.ensures

-- A runs line, and an end line.
runs : (c : Then-word_at-4) → WordAt (bytes "runs") c.args.text.now c.args.at
unfolding bytes
runs c = rw c.if-word_at-4.true at (c.word_at-else-word_at-3.ensures.some (omega arith))

ends : (c : Then-word_at-5) → WordAt (bytes "end") c.args.text.now c.args.at
unfolding bytes
ends c = rw c.if-word_at-5.true at (c.word_at-else-word_at-4.ensures.some (omega arith))

pub returns-in_err-points : goal.returns-in_err-points
unfolding bytes read_points
returns-in_err-points c =
    let word = runs (goal.at.returns-in_err-points c).Then-word_at-4 in
    c.from_residual.ensures ∙ by_word _ read_points word (points-line _) (line-missing word _ (then-bad _ _ _ c.in_err-points.ensures))

pub returns-in_ok-points : goal.returns-in_ok-points
unfolding bytes pure read_points
returns-in_ok-points c =
    let word = runs (goal.at.returns-in_ok-points c).Then-word_at-4 in
    let last = c.in_ok-points.ensures in
    by_word _ read_points word (points-line _) (line-found word _ (then-got _ _ _ last.reads) last.inside refl)

pub returns-in_err-lines : goal.returns-in_err-lines
unfolding bytes read_end
returns-in_err-lines c =
    let word = ends (goal.at.returns-in_err-lines c).Then-word_at-5 in
    c.from_residual-in_err-lines.ensures ∙ by_word _ read_end word (end_line _) (line-missing word _ (then-bad _ _ _ c.in_err-lines.ensures))

pub returns-in_ok-lines : goal.returns-in_ok-lines
unfolding bytes pure read_end
returns-in_ok-lines c =
    let word = ends (goal.at.returns-in_ok-lines c).Then-word_at-5 in
    let last = c.in_ok-lines.ensures in
    by_word _ read_end word (end_line _) (line-found word _ (then-got _ _ _ last.reads) last.inside refl)
