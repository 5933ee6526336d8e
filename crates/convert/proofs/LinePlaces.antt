-- The poly lines of lines of the code, place by place.
--   poly_lines-length   they are as many as the lines
--   line-stands         a line that is read at a place is the poly line there
use Prim.Native.Nat.{ℕ, ◌<◌}
use mathlib.Core.Path.{◌≡◌, sym, ap, ◌∙◌}
use mathlib.Core.List.{List}
use native.Mathlib.Omega.{arith}
use lib.ListN.{length, get_or, length-map, get_or-map}
use Rattle.arrayvec.specs.ArrayVec.{ArrayVec}
use Rattle.lines.specs.declared.line.LineTerm.{LineTerm}
use Rattle.tabtext.specs.Printed.{generator_line}
use Rattle.tabtext.specs.Text.{TextLine}
use Rattle.tabtext.proofs.Separators.{StandsAt, stands_at}
use Rattle.convert.specs.LexText.{generator_lines}

module _ (n : ℕ) (ls : List (ArrayVec LineTerm)) where
  -- A line, as a line of the text.
  abbrev as_line : ArrayVec LineTerm → TextLine
  as_line g = generator_line n g.items

  pub poly_lines-length : length (generator_lines n ls) ≡ length ls
  unfolding generator_lines
  poly_lines-length = length-map ls as_line

  pub line-stands : (j : ℕ) {g : ArrayVec LineTerm} {ts : List LineTerm} → j < length ls → g ≡ get_or ls j g → ts ≡ g.items → StandsAt (generator_lines n ls) j (generator_line n ts)
  unfolding generator_lines
  line-stands j {g} h read is =
      stands_at (generator_lines n ls) j _ (as_line g) (ap (generator_line n) is ∙ ap as_line read ∙ sym (get_or-map as_line ls j g)) (omega (arith, h, poly_lines-length))
