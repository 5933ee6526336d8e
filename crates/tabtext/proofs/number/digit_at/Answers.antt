-- `number::digit_at` meets its contract.
use native.Mathlib.Omega.{arith}
use Rattle.tabtext.proofs.Places.{digit-found, digit-other, digit-past}
use Rattle.tabtext.proofs.number.digit_at.Goals as goal

pub returns-in_err-b : goal.returns-in_err-b
returns-in_err-b c = let a = c.args in rw c.from_residual.ensures (omega (arith, digit-past a.text.now a.i c.in_err-b.ensures.lookup.3))

pub returns-then-is_ascii_digit : goal.returns-then-is_ascii_digit
returns-then-is_ascii_digit c = digit-found _ _ c.in_ok-b.field-0 c.in_ok-b.ensures.lookup c.if-is_ascii_digit.ensures.cases

pub returns-else-is_ascii_digit : goal.returns-else-is_ascii_digit
returns-else-is_ascii_digit c = digit-other _ _ c.in_ok-b.field-0 c.in_ok-b.ensures.lookup c.if-is_ascii_digit.ensures.cases
