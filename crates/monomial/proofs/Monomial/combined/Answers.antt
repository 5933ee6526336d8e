-- `Monomial::combined` meets its contract. The loop's invariant: the first i exponents of the row that f makes are stored.
use Prim.Native.Nat.{ℕ, ◌<◌}
use mathlib.Core.Path.{◌≡◌, ◌∙◌, ap, subst}
use native.Mathlib.Omega.{arith}
use Rattle.monomial.specs.Rows.{exponent}
use Rattle.monomial.specs.Represented.{row}
use Rattle.monomial.proofs.Filling.{filled_none, filled_more, filled-all}
use Rattle.monomial.proofs.Monomial.combined.Goals.{After-exponent-in-loop-i}
use Rattle.monomial.proofs.Monomial.combined.Goals as goal

pub loop-i-init : goal.loop-i-init
loop-i-init g c a made = ap (λ m. m.e) c.one-m.ensures ∙ filled_none _ a

-- The second exponent of a turn.
second : (g : _) (c : After-exponent-in-loop-i g) → let a = c.args in c.exponent-in-loop-i.result.0 ≡ exponent a.n (row a.n a.other) c.loop-i.i
second g c =
    let a = c.args in
    let h : c.loop-i.i < a.n = omega arith in
    let held : ℕ → Type 0 = λ i. c.exponent-in-loop-i.result.0 ≡ exponent a.n (row a.n a.other) i in
    subst held (omega arith) (c.exponent-in-loop-i.ensures _ (omega arith))

pub f-requires : goal.f-requires
f-requires g c =
    let h : c.loop-i.i < c.args.n = omega arith in
    c.requires.combines _ h _ _ (c.exponent.ensures _ h) (second g (goal.at.f-requires g c).After-exponent-in-loop-i)

pub loop-i-preserved : goal.loop-i-preserved
loop-i-preserved g c a made =
    let h : c.loop-i.i < c.args.n = omega arith in
    filled_more _ _ a _ h (omega arith) (c.loop-i.invariant a made)
    (made _ h _ _ _ (c.exponent.ensures _ h) (second g (goal.at.loop-i-preserved g c).After-exponent-in-loop-i) c.f.ensures)

pub returns : goal.returns
returns g c a made = filled-all _ _ a (omega arith) (omega arith) (c.loop-i.invariant a made)
