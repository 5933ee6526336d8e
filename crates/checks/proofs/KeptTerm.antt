-- A term that passes its checks.
--   KeepsTerm p n t u   the term u of the code is made of the term t
--   kept                where t is good, u as numbers is t
use Prim.Native.Nat.{ℕ, ◌%◌}
use mathlib.Core.Path.{◌≡◌, ◌∙◌}
use native.Mathlib.Nat.{mod-eq_of_lt}
use lib.ListN.{length}
use Rattle.monomial.specs.Represented as represented
use Rattle.lines.specs.Terms.{Term, as_row}
use Rattle.lines.specs.LineTerms.{exponents_of, term_of}
use Rattle.lines.specs.declared.line.LineTerm.{LineTerm}
use Rattle.lines.proofs.AsRow.{exponents-monomial}
use Rattle.checks.proofs.GoodLines.{GoodTerm}

pub record KeepsTerm (p n : ℕ) (t : Term) (u : LineTerm) : Type 0 where
  pub coefficient : u.coefficient.0 ≡ t.0 % p
  pub monomial : u.monomial ≡ represented.monomial n (as_row n t.1)

pub kept : (p n : ℕ) (t : Term) {u : LineTerm} → KeepsTerm p n t u → GoodTerm p t → length t.1 ≡ n → term_of n u ≡ t
unfolding term_of
kept p n t {u} k good len =
    let c = k.coefficient ∙ mod-eq_of_lt good.1 in
    let e : exponents_of n u.monomial ≡ t.1 = rw k.monomial (exponents-monomial n t.1 len) in
    λ i. (c i, e i)
