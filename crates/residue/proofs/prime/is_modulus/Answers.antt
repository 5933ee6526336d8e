-- `is_modulus` meets its contract. The loop's invariant: no number from 2 to d - 1 divides p.
use mathlib.Core.Path.{◌≡◌, refl}
use mathlib.Core.Bool.{true, false, false≢true}
use mathlib.Core.Logic.{◌↔◌}
use Prim.Native.Nat.{ℕ}
use native.Mathlib.Omega.{arith}
use Rattle.residue.specs.Prime.{Modulus}
use Rattle.residue.proofs.Searching.{undivided-start, undivided-fits, undivided-turn, undivided-found, undivided-stop, undivided-all}
use Rattle.residue.proofs.prime.is_modulus.Goals.{then-p-lt2-via-then-p-lt2, then-p-lt2-via-else-p-lt2+then-p}
use Rattle.residue.proofs.prime.is_modulus.Goals as goal

-- The answer `false` is right of what is no modulus.
refused : {p : ℕ} → ¬ Modulus p → (false ≡ true) ↔ Modulus p
refused n = (λ e. absurd (false≢true e), λ m. absurd (n m))

pub returns-then-p-lt2 : goal.returns-then-p-lt2
returns-then-p-lt2 c = refused λ m. elim c.then-p-lt2.branch [
  | then-p-lt2-via-then-p-lt2 w ↦ omega (arith, w.if-p-lt2.true)
  | then-p-lt2-via-else-p-lt2+then-p w ↦ omega (arith, w.if-p.true)
]

pub loop-d-init : goal.loop-d-init
loop-d-init c = undivided-start _ c.if-p-lt2.false c.if-p.false

pub overflow_mul-d : goal.overflow_mul-d
overflow_mul-d c = omega (arith, undivided-fits _ _ c.loop-d.invariant)

pub returns-then-p-d : goal.returns-then-p-d
returns-then-p-d c = (λ _. undivided-stop _ _ c.loop-d.invariant c.if-p-d.true, λ _. refl)

pub returns-then-p-d-eq0 : goal.returns-then-p-d-eq0
returns-then-p-d-eq0 c = refused (undivided-found _ _ c.loop-d.invariant (omega arith) c.if-p-d-eq0.true)

pub loop-d-preserved : goal.loop-d-preserved
loop-d-preserved c = undivided-turn _ _ c.loop-d.invariant (omega arith) c.if-p-d-eq0.false

pub returns : goal.returns
returns c = (λ _. undivided-all _ _ c.loop-d.invariant c.loop-d-test.false, λ _. refl)
