-- Demand 3: for an accepted text the lines read from it and those read from the output are equivalent reduction systems.
--   systems-of      from the outcome
use mathlib.Core.Path.{◌≡◌, sym, subst}
use mathlib.Core.List.{List}
use mathlib.Core.Logic.{◌⊎◌, inl, inr}
use Prim.Native.Nat.{ℕ, ◌<◌}
use native.Mathlib.Omega.{arith}
use Rattle.lists.specs.Lists.{Bytes}
use Rattle.residue.specs.Prime.{Prime}
use Rattle.residue.specs.Field.{ZMod}
use Rattle.monomial.specs.Rows.{Row}
use Rattle.answer.specs.Outcomes.{passed}
use Rattle.groebner.specs.Lines.{Line}
use Rattle.convert.specs.Written.{written}
use Rattle.convert.specs.Outcome.{Outcome}
use Rattle.convert.specs.Contract.{OutputLines, Systems}
use Rattle.convert.proofs.Conversions.{conversion-systems}
use Rattle.convert.proofs.ConvertedChecks.{lines_of_basis, passed-output}
use Rattle.convert.proofs.OutcomeCases.{Early, Reached, outcome-cases}
use Rattle.convert.proofs.OutputLines.{written-lines, input_lines}
use Rattle.convert.proofs.ReachedSizes.{reached-sized}

module _ (input : Bytes) (room : ℕ) (out : Bytes) (a : Reached input room (passed out)) where
  abbrev p : ℕ
  p = a.basis.p

  abbrev n : ℕ
  n = a.basis.n

  abbrev prime : Prime p
  prime = a.passes.modulus.prime

  abbrev h : 1 < p
  h = prime.above_one

  abbrev G : List (Line (ZMod p) (Row n))
  G = lines_of_basis a.basis h

  output : OutputLines (written p h n a.H a.B) p h n a.H
  output = let v = a.passes.variables in written-lines p h n a.H a.B a.passes.modulus.size v.some v.most (reached-sized a).0 (reached-sized a).1

  reached-systems : Systems input out
  reached-systems = record {
    p = p;
    h = h;
    n = n;
    first = G;
    second = a.H;
    input_lines = input_lines input a.basis h a.passes;
    output_lines = subst (λ (s : Bytes). OutputLines s p h n a.H) (sym (passed-output room (written p h n a.H a.B) out a.fits).0) output;
    equivalent = conversion-systems p prime n G a.reduced.lines a.reduced.groebner a.H a.B a.converts;
  }

pub systems-of : (input : Bytes) (room : ℕ) (out : Bytes) → Outcome input room (passed out) → Systems input out
systems-of input room out w = at (outcome-cases input room (passed out) w)
  where
    at : Early (passed out) ⊎ Reached input room (passed out) → Systems input out
    at (inl (k, line, low, high, e)) = let z : ◌≡◌ {A = ℕ} 0 1 = cc in absurd (omega arith)
    at (inr r) = reached-systems input room out r
