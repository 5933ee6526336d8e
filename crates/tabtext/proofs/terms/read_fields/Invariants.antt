-- `terms::read_fields` meets its contract. The loop's invariant: what is said from the place on is said from the first place on.
use Prim.Native.Nat.{ℕ, ◌-◌}
use lib.ListN.{length}
use Rattle.std.specs.Prelude.{Option}
use Rattle.tabtext.specs.Answers.{FieldsSay}
use Rattle.tabtext.proofs.terms.read_fields.Given as goal

abbrev pub invariant-loop-field : goal.invariant-loop-field
invariant-loop-field g l =
    let field = λ (i : ℕ) (r : Option ℕ). goal.F-post g l.field i r in
    (r : Option ℕ) → FieldsSay field l.text l.i r → FieldsSay field l.text l.at r

abbrev pub decreases-loop-field : goal.decreases-loop-field
decreases-loop-field g l = length l.text - l.i
