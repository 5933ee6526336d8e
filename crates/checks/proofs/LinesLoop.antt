-- The loop of `read_lines`, over plain lists.
--   LinesInv       what holds at the loop's head: the lines that are left decide
--   start, turn    it holds where the loop begins, and again after a poly line that passes
--   stored-behind  a line that is stored at the place behind the others
--   lines-room     a poly line that passes has room
--   stop           the end line passes, and so do all lines
--   stop-refused   a line is refused, and so are the lines
use Prim.Native.Nat.{ℕ, suc, ◌≤◌, ◌<◌}
use mathlib.Core.Path.{◌≡◌}
use mathlib.Core.List.{List, [], ◌∷◌}
use mathlib.Core.Logic.{⊎_elim}
use mathlib.Core.Option.{none}
use native.Mathlib.Omega.{arith}
use lib.ListN.{length, drop}
use Rattle.arrayvec.specs.ArrayVec.{ArrayVec}
use Rattle.lists.specs.Lists.{Bytes, Each}
use Rattle.lists.proofs.EachElement.{each_last}
use Rattle.answer.specs.Outcomes.{Judged, refused}
use Rattle.answer.specs.Refusals.{number}
use Rattle.answer.specs.declared.Refused.{Refused}
use Rattle.lines.specs.Sizes.{most_lines}
use Rattle.lines.specs.Terms.{Term}
use Rattle.lines.specs.LineTerms.{terms_in, terms_of_lines}
use Rattle.lines.specs.Bases.{PaddedLine, generators_in}
use Rattle.lines.specs.Stored.{LinePut}
use Rattle.lines.specs.declared.line.LineTerm.{LineTerm}
use Rattle.lines.proofs.Stored.{held-length, lines-pushed, line-appended}
use Rattle.checks.specs.Checks.{check_generator, Remaining, generator_passed}
use Rattle.checks.specs.Checks as checks
use Rattle.checks.specs.Answers.{basis_of, Stops, PassedLine, LinesSays}
use Rattle.checks.proofs.Sequence.{none-not-some}
use Rattle.std.specs.Prelude.{Ok, Err}

pub stored-behind : {ls : List (ArrayVec LineTerm)} {k : ℕ} {g : ArrayVec LineTerm} {ls' : List (ArrayVec LineTerm)} → LinePut ls k g ls' → k ≡ length ls → LinePut ls (length ls) g ls'
stored-behind put e = rw e at put

generator-room : (p n k : ℕ) (terms : List Term) → check_generator p n k terms none → k ≤ most_lines
generator-room p n k [] c = none-not-some c
generator-room p n k (t ∷ terms) c = ⊎_elim (λ w. none-not-some w.1) (λ w. omega arith) c

module _ (p n : ℕ) (text : Bytes) (begin : ℕ) where
  pub record LinesInv (ls : List (ArrayVec LineTerm)) (at : ℕ) : Type 0 where
    pub most : length ls ≤ most_lines
    pub padded : Each (λ (g : ArrayVec LineTerm). PaddedLine n g.items) ls
    pub rest : (o : Judged checks.Basis) → Remaining p n o (terms_of_lines n ls) (drop at text) → Remaining p n o [] (drop begin text)

  pub start : LinesInv [] begin
  unfolding terms_of_lines
  start = record { most = omega arith; padded = tt; rest = λ o r. r }

  module _ (ls : List (ArrayVec LineTerm)) (at : ℕ) (inv : LinesInv ls at) where
    pub lines-room : (i : ℕ) (g : List LineTerm) → PassedLine p n (length ls) text at i g → length ls < most_lines
    lines-room i g h = omega (arith, generator-room p n (suc (length ls)) (terms_in n g) h.passes)

    pub turn : (ls' : List (ArrayVec LineTerm)) (i : ℕ) (g : ArrayVec LineTerm) → LinePut ls (length ls) g ls' → PassedLine p n (length ls) text at i g.items → LinesInv ls' i
    turn ls' i g put h = record {
      most = omega (arith, lines-room i g.items h, put.count.1 (omega arith));
      padded = rw (line-appended ls g ls' put) (each_last (λ l. PaddedLine n l.items) ls inv.padded h.padded);
      rest = λ o q. inv.rest o (generator_passed h.front (rw (held-length n ls) h.passes) (rw (line-appended ls g ls' put, lines-pushed n ls g) at q));
    }

    pub stop : Stops p n (length ls) (drop at text) (Ok tt) → LinesSays p n (drop begin text) (Ok tt) (record { items = ls })
    unfolding basis_of generators_in
    stop h = (inv.rest _ (h (terms_of_lines n ls) (held-length n ls)), (inv.most, inv.padded))

    pub stop-refused : (e : Refused) → Stops p n (length ls) (drop at text) (Err e) → Remaining p n (refused (number e.refusal) e.line) [] (drop begin text)
    stop-refused e h = inv.rest _ (h (terms_of_lines n ls) (held-length n ls))
