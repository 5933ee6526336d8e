-- `zero_dimensional` meets its contract.
use Prim.Native.Nat.{ℕ}
use mathlib.Core.Path.{◌≡◌, refl}
use mathlib.Core.Bool.{true, false}
use mathlib.Core.Logic.{◌↔◌}
use native.Mathlib.Omega.{arith}
use Rattle.std.proofs.Common.{rules, tests}
use Rattle.std.proofs.lemmas.Iterator.{YieldsList-from_range, cases_from_all}
use Rattle.staircase.specs.Leads.{lead_monomials, PowerIn}
use Rattle.staircase.proofs.FirstElements.{each-iff}
use Rattle.staircase.proofs.zero_dimensional.zero_dimensional.Goals as goal

pub returns : goal.returns
returns c =
    let a = c.args in
    let power : ℕ → Type 0 = λ v. PowerIn a.n v (lead_monomials a.n a.leads.now) in
    each-iff power a.n c.all.result
    (cases_from_all _ _ c.all.result (λ v. (true ≡ true) ↔ power v) (λ v. (false ≡ true) ↔ power v) c.all.ensures.ran
    (YieldsList-from_range 0 _ a.n refl (omega arith)) (λ x q k. search (rules, tests)) (λ x q k. search (rules, tests)))
