-- `number::number_width`, which calls itself, meets its contract. The measure is the number.
use Prim.Native.Nat.{◌/◌}
use mathlib.Core.Path.{sym}
use native.Mathlib.Omega.{arith}
use Rattle.tabtext.proofs.Decimal.{width-1, width-2, width-3, width-4, width-more-4}
use Rattle.tabtext.proofs.number.+number_width.Goals as goal

pub returns-then-v-lt10-clause-width : goal.returns-then-v-lt10-clause-width
returns-then-v-lt10-clause-width t c = sym (width-1 _ c.if-v-lt10.true)

pub returns-then-v-lt100-clause-width : goal.returns-then-v-lt100-clause-width
returns-then-v-lt100-clause-width t c = sym (width-2 _ c.if-v-lt10.false c.if-v-lt100.true)

pub returns-then-v-lt1000-clause-width : goal.returns-then-v-lt1000-clause-width
returns-then-v-lt1000-clause-width t c = sym (width-3 _ c.if-v-lt100.false c.if-v-lt1000.true)

pub returns-then-v-lt10000-clause-width : goal.returns-then-v-lt10000-clause-width
returns-then-v-lt10000-clause-width t c = sym (width-4 _ c.if-v-lt1000.false c.if-v-lt10000.true)

pub returns-else-v-lt10000-clause-width : goal.returns-else-v-lt10000-clause-width
returns-else-v-lt10000-clause-width t c = omega (arith, width-more-4 _ c.if-v-lt10000.false)

pub returns-else-v-lt10000-clause-short : goal.returns-else-v-lt10000-clause-short
returns-else-v-lt10000-clause-short t c h = omega (arith, width-more-4 _ c.if-v-lt10000.false, width-1 (c.args.v / 10000) (omega arith))
