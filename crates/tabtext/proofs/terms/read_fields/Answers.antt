-- `terms::read_fields` meets its contract. The loop's invariant: what is said from the place on is said from the first place on.
use mathlib.Core.Path.{sym, ◌∙◌}
use native.Mathlib.Omega.{arith}
use Rattle.tabtext.specs.Answers.FieldsSay.{stops, fails, goes-on}
use Rattle.tabtext.proofs.terms.read_fields.Goals as goal

pub loop-field-init : goal.loop-field-init
loop-field-init g c = λ r f. f

pub returns-in_err-i : goal.returns-in_err-i
returns-in_err-i g c =
    let tab = sym c.byte_is.ensures ∙ c.loop-field-test.true in
    rw c.from_residual.ensures (c.loop-field.invariant _ (fails tab c.in_err-i.ensures))

pub loop-field-smaller : goal.loop-field-smaller
loop-field-smaller g c =
    let further = c.requires.advances _ _ c.in_ok-i.ensures in
    omega (arith, further.0, further.1)

pub loop-field-preserved : goal.loop-field-preserved
loop-field-preserved g c =
    let tab = sym c.byte_is.ensures ∙ c.loop-field-test.true in
    λ r f. c.loop-field.invariant r (goes-on tab c.in_ok-i.ensures f)

pub returns : goal.returns
returns g c =
    let no-tab = sym c.byte_is.ensures ∙ c.loop-field-test.false in
    c.loop-field.invariant _ (stops no-tab c.read_byte.ensures)
