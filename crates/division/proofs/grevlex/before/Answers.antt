-- `before` meets its contract.
use mathlib.Core.Path.{◌≡◌, refl, ◌∙◌, ap}
use Prim.Native.Nat.{ℕ, ◌+◌, ◌-◌, ◌≤◌, ◌<◌}
use native.Mathlib.Omega.{arith}
use borrow.Author.Rules.{rules}
use lib.ListN.{length, get_or, length-set}
use lib.Seq.{get_or-set_other}
use Rattle.lists.proofs.Elements.{length-mapped}
use Rattle.monomial.specs.Sizes.{most_variables}
use Rattle.monomial.specs.Rows.{exponent}
use Rattle.monomial.specs.Represented.{row}
use Rattle.monomial.specs.FirstVariable.{VariableAt}
use Rattle.monomial.specs.declared.Exponent.{Exponent}
use Rattle.division.proofs.GrevlexPlaces.{exponent-degree}
use Rattle.division.proofs.StoredExponent.{exponent-read, exponent-put}
use Rattle.division.proofs.StepDown.{step-found, step-last, step-middle}
use Rattle.division.proofs.grevlex.before.Goals.{After-unwrap-i, then-i-count, else-i-count}
use Rattle.division.proofs.grevlex.before.Goals as goal

pub unwrap-i-requires : goal.unwrap-i-requires
unwrap-i-requires c = let (_, above) = c.requires in step-found _ _ c.first_variable.ensures above

-- Some exponent is not 0.
found : (c : After-unwrap-i) → VariableAt c.args.n (row c.args.n c.args.m) c.unwrap-i.result
found c = c.first_variable.ensures.some _ c.unwrap-i.ensures

pub bounds-m-i : goal.bounds-m-i
bounds-m-i c = omega (arith, found (goal.at.bounds-m-i c).After-unwrap-i)

pub overflow_sub-x : goal.overflow_sub-x
overflow_sub-x c =
    let f = found (goal.at.overflow_sub-x c).After-unwrap-i in
    omega (arith, exponent-read _ _ c.args.m f.within, f.found)

pub bounds-m-i-2 : goal.bounds-m-i-2
bounds-m-i-2 c = omega (arith, found (goal.at.bounds-m-i-2 c).After-unwrap-i)

pub overflow_add-i : goal.overflow_add-i
overflow_add-i c = omega (arith, found (goal.at.overflow_add-i c).After-unwrap-i)

pub overflow_add-m-then-i-count : goal.overflow_add-m-then-i-count
overflow_add-m-then-i-count c =
    let n = c.args.n in
    let m = c.args.m in
    let i = c.unwrap-i.result in
    let l : i + 1 < n = omega arith in
    let other : ¬ (i + 1 ≡ i) = λ e. absurd (omega arith) in
    let same = get_or-set_other m.e i (i + 1) (record { 0 = 0 }) (record { 0 = 0 }) other in
    rw same (omega (arith, exponent-read n (i + 1) m l, exponent-degree n (row n m) (i + 1) l, c.requires.0))

pub returns : goal.returns
returns c =
    let n = c.args.n in
    let m = c.args.m in
    let i = c.unwrap-i.result in
    let f = found (goal.at.returns c).After-unwrap-i in
    let h = f.within in
    let size : length m.e ≡ most_variables = search (length-mapped, rules) in
    let few : n ≤ length m.e = omega arith in
    let cleared = exponent-put m i (record { 0 = 0 }) (omega arith) in
    let less : (get_or m.e i (record { 0 = 0 })).0 - 1 ≡ exponent n (row n m) i - 1 = omega (arith, exponent-read n i m h) in
    elim c.if-i-count.branch [
      | then-i-count w ↦
          let l : i + 1 < n = omega (arith, w.if-i-count.true) in
          let other : ¬ (i + 1 ≡ i) = λ e. absurd (omega arith) in
          let same = get_or-set_other m.e i (i + 1) (record { 0 = 0 }) (record { 0 = 0 }) other in
          let more = ap (λ (x : Exponent). x.0 + 1) same ∙ ap (λ (x : ℕ). x + 1) (exponent-read n (i + 1) m l) in
          rw w.m-is (step-middle n m f cleared less refl l more (exponent-put _ (i + 1) _ (omega (arith, length-set {A = Exponent})))
          (exponent-put _ 0 _ (omega (arith, length-set {A = Exponent}))))
      | else-i-count w ↦ rw w.m-is (step-last n m f cleared less (omega arith) (exponent-put _ 0 _ (omega (arith, length-set {A = Exponent}))))
    ]
