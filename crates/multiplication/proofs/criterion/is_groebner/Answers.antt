-- `is_groebner` meets its contract.
use mathlib.Core.Path.{◌≡◌, subst}
use mathlib.Core.Bool.{true}
use mathlib.Core.Logic.{◌↔◌}
use Prim.Native.Nat.{ℕ, ◌<◌}
use borrow.Author.Tests.{eq-eqb}
use native.Mathlib.Omega.{arith}
use Rattle.residue.specs.Field.{modulo}
use Rattle.groebner.specs.MultiplicationRows.{RowsCommute}
use Rattle.multiplication.specs.Rows.{cell_of}
use Rattle.multiplication.proofs.GroebnerTest.{acceptance, square-acceptance}
use Rattle.multiplication.proofs.criterion.is_groebner.Goals as goal

pub returns-then-len-count : goal.returns-then-len-count
returns-then-len-count c =
    square-acceptance c.requires.1 c.fill.ensures _ (omega arith) (eq-eqb _ _ c.if-len-count.true)

pub returns-else-len-count : goal.returns-else-len-count
returns-else-len-count c =
    let b = c.args.basis.now in
    let told : ℕ → Type 0 = λ s. (h : 1 < b.p) → (c.commute.result ≡ true) ↔ RowsCommute (modulo b.p h) b.n s (cell_of b.p h c.fill.new.tables) in
    acceptance c.requires.1 c.fill.ensures _ (subst told (omega arith) (rw c.new-field.ensures at c.commute.ensures))
