-- `terms::read_byte` meets its contract.
use mathlib.Core.Path.{sym, ◌∙◌}
use native.Mathlib.Omega.{arith}
use Rattle.tabtext.proofs.Places.{starts-within, byte-got, byte-bad}
use Rattle.tabtext.proofs.terms.read_byte.Goals as goal

pub overflow_add-result : goal.overflow_add-result
overflow_add-result c =
    let a = c.args in
    omega (arith, starts-within _ a.text.now a.at (sym c.byte_is.ensures ∙ c.if-byte_is.true))

pub returns-then-byte_is : goal.returns-then-byte_is
returns-then-byte_is c =
    let a = c.args in
    let e = sym c.byte_is.ensures ∙ c.if-byte_is.true in
    let within = starts-within _ a.text.now a.at e in
    (tt, record { reads = byte-got _ a.text.now a.at e; after = omega arith; inside = omega arith })

pub returns-else-byte_is : goal.returns-else-byte_is
returns-else-byte_is c = byte-bad _ _ (sym c.byte_is.ensures ∙ c.if-byte_is.false)
