-- `print::print_output` meets its contract: line by line, what is left of the output.
use Prim.Native.Nat.{ℕ, ◌<◌}
use mathlib.Core.Path.{◌≡◌, refl, sym, subst}
use mathlib.Core.List.{List, ◌++◌}
use native.Mathlib.Omega.{arith}
use lib.ListN.{length}
use Rattle.arrayvec.specs.ArrayVec.{ArrayVec}
use Rattle.lists.specs.Lists.{Bytes}
use Rattle.monomial.specs.declared.Monomial.{Monomial}
use Rattle.lines.specs.declared.line.LineTerm.{LineTerm}
use Rattle.tabtext.specs.Text.{bytes, header, text}
use Rattle.tabtext.specs.Printed.{standard_line, printed, count_line}
use Rattle.tabtext.proofs.Writing.{Left, left-all, left_less, left-last, left-room}
use Rattle.convert.specs.LexText.{generator_lines, written_of}
use Rattle.convert.proofs.OutputParts.{output, written-output, written-width, header-short, counted-short}
use Rattle.convert.proofs.print.print_output.Goals.{After-print_header, After-print_lines, After-print_standard, After-print_count, Start}
use Rattle.convert.proofs.print.print_output.Goals as goal

-- The lines of the output.
abbrev basis-line : (g : _) → Start g → Bytes
basis-line g s = printed (header (bytes "lex") s.args.p s.args.n)

abbrev poly-lines : (g : _) → Start g → Bytes
poly-lines g s = text (generator_lines s.args.n s.args.lex.now.lines.items)

abbrev standard-line : (g : _) → Start g → Bytes
standard-line g s = printed (standard_line s.args.n s.args.lex.now.standard.items)

abbrev points-line : (g : _) → Start g → Bytes
points-line g s = count_line (bytes "runs") (length s.args.lex.now.standard.items)

abbrev end_line : (g : _) → Start g → Bytes
end_line g s = count_line (bytes "end") (length s.args.lex.now.lines.items)

-- The output is these lines.
parts : (g : _) (s : Start g) (h : 1 < s.args.p) → written_of s.args.p h s.args.n s.args.lex.now ≡ output s.args.p s.args.n s.args.lex.now
parts g s h = written-output s.args.p h s.args.n s.args.lex.now s.requires.0.printable

-- What is left of them.
abbrev Rest : (g : _) → Start g → Bytes → g.row.S.Denot → Type 0
Rest g s rest now = Left g.S.Sink.takes g.S.Sink.after s.args.sink.now (output s.args.p s.args.n s.args.lex.now) rest now

all : (g : _) (s : Start g) → Rest g s (output s.args.p s.args.n s.args.lex.now) s.args.sink.now
all g s =
    let h = s.requires.0.above_one in
    left-all g.met.S.Sink.laws refl (subst (λ (b : Bytes). g.S.Sink.takes s.args.sink.now (length b)) (parts g s h) (s.requires.1 h))

pub print_header-requires : goal.print_header-requires
unfolding bytes
print_header-requires g c =
    let s = (goal.at.print_header-requires g c).Start in
    left-room g.met.S.Sink.laws (basis-line g s) (poly-lines g s ++ (standard-line g s ++ (points-line g s ++ end_line g s))) refl (all g s)

after-header : (g : _) (c : After-print_header g) →
    let s = (goal.at.After-print_header g c).Start in
    Rest g s (poly-lines g s ++ (standard-line g s ++ (points-line g s ++ end_line g s))) c.print_header.new.sink
unfolding bytes
after-header g c =
    let s = (goal.at.After-print_header g c).Start in
    left_less g.met.S.Sink.laws (basis-line g s) _ refl (all g s) c.print_header.ensures.printed

pub print_lines-requires : goal.print_lines-requires
print_lines-requires g c =
    let s = (goal.at.print_lines-requires g c).Start in
    let left = after-header g (goal.at.print_lines-requires g c).After-print_header in
    subst (λ (ls : List (ArrayVec LineTerm)). g.S.Sink.takes c.print_header.new.sink (length (text (generator_lines c.args.n ls)))) (sym c.deref.ensures.0)
    (left-room g.met.S.Sink.laws (poly-lines g s) (standard-line g s ++ (points-line g s ++ end_line g s)) refl left)

after-lines : (g : _) (c : After-print_lines g) →
    let s = (goal.at.After-print_lines g c).Start in
    Rest g s (standard-line g s ++ (points-line g s ++ end_line g s)) c.print_lines.new.sink
after-lines g c = left_less g.met.S.Sink.laws _ _ refl (after-header g (goal.at.After-print_lines g c).After-print_header) (rw c.deref.ensures.0 at c.print_lines.ensures.printed)

pub print_standard-requires : goal.print_standard-requires
print_standard-requires g c =
    let s = (goal.at.print_standard-requires g c).Start in
    let left = after-lines g (goal.at.print_standard-requires g c).After-print_lines in
    subst (λ (ms : List Monomial). g.S.Sink.takes c.print_lines.new.sink (length (printed (standard_line c.args.n ms)))) (sym c.deref-2.ensures.0)
    (left-room g.met.S.Sink.laws (standard-line g s) (points-line g s ++ end_line g s) refl left)

after-standard : (g : _) (c : After-print_standard g) →
    let s = (goal.at.After-print_standard g c).Start in
    Rest g s (points-line g s ++ end_line g s) c.print_standard.new.sink
after-standard g c = left_less g.met.S.Sink.laws _ _ refl (after-lines g (goal.at.After-print_standard g c).After-print_lines) (rw c.deref-2.ensures.0 at c.print_standard.ensures.printed)

pub print_count-requires : goal.print_count-requires
unfolding bytes
print_count-requires g c =
    let s = (goal.at.print_count-requires g c).Start in
    let left = after-standard g (goal.at.print_count-requires g c).After-print_standard in
    subst (λ (k : ℕ). g.S.Sink.takes c.print_standard.new.sink (length (count_line (bytes "runs") k))) (sym c.len.ensures.value)
    (left-room g.met.S.Sink.laws (points-line g s) (end_line g s) refl left)

after-points : (g : _) (c : After-print_count g) →
    let s = (goal.at.After-print_count g c).Start in
    Rest g s (end_line g s) c.print_count.new.sink
unfolding bytes
after-points g c = left_less g.met.S.Sink.laws (points-line g (goal.at.After-print_count g c).Start) _ refl (after-standard g (goal.at.After-print_count g c).After-print_standard) (rw c.len.ensures.value at c.print_count.ensures.printed)

pub print_count-requires-2 : goal.print_count-requires-2
unfolding bytes
print_count-requires-2 g c =
    subst (λ (k : ℕ). g.S.Sink.takes c.print_count.new.sink (length (count_line (bytes "end") k))) (sym c.len-2.ensures.value)
    (after-points g (goal.at.print_count-requires-2 g c).After-print_count).room

pub returns-clause-printed : goal.returns-clause-printed
unfolding bytes
returns-clause-printed g c h =
    rw (parts g (goal.at.returns-clause-printed g c).Start h)
    (left-last g.met.S.Sink.laws (after-points g (goal.at.returns-clause-printed g c).After-print_count) (rw c.len-2.ensures.value at c.print_count-2.ensures.printed))

pub returns-clause-short : goal.returns-clause-short
unfolding bytes
returns-clause-short g c h =
    let w = c.requires.0.printable in
    omega (
      arith,
      written-width c.args.p h c.args.n c.args.lex.now w,
      header-short c.args.p c.args.n (omega arith) (omega arith),
      rw c.deref.ensures.0 at c.print_lines.ensures.short,
      rw c.deref-2.ensures.0 at c.print_standard.ensures.short,
      counted-short (bytes "runs") (length c.args.lex.now.standard.items) (omega arith) (omega (arith, w.count)),
      counted-short (bytes "end") (length c.args.lex.now.lines.items) (omega arith) (omega (arith, w.lines)),
    )
