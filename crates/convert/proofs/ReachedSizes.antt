-- The sizes of the lex basis that is reached.
--   reached-sized    it has as many irreducible monomials as the grevlex basis, at most 32; so it is within document 01's sizes
use mathlib.Core.List.{List}
use Prim.Native.Nat.{ℕ, ◌<◌}
use native.Mathlib.Omega.{arith}
use Rattle.lists.specs.Lists.{Bytes}
use Rattle.residue.specs.Prime.{Prime}
use Rattle.residue.specs.Field.{ZMod, modulo}
use Rattle.monomial.specs.Rows.{Row}
use Rattle.monomial.specs.Orders.{variables}
use Rattle.monomial.proofs.LexOrder.{lex-order, variables-rank}
use Rattle.answer.specs.Outcomes.{Judged}
use Rattle.groebner.specs.Lines.{Line}
use Rattle.lines.specs.Sizes.{most_standard}
use Rattle.convert.proofs.SizesSuffice.{Sized, standard-exponents, sizes-suffice}
use Rattle.convert.proofs.FewIrreducible.{few-of}
use Rattle.convert.proofs.Conversions.{converts-standard}
use Rattle.convert.proofs.ConvertedChecks.{lines_of_basis}
use Rattle.convert.proofs.OutcomeCases.{Reached}
use Rattle.convert.proofs.OutputLines.{Small}

module _ {input : Bytes} {room : ℕ} {o : Judged Bytes} (a : Reached input room o) where
  abbrev p : ℕ
  p = a.basis.p

  abbrev n : ℕ
  n = a.basis.n

  abbrev prime : Prime p
  prime = a.passes.modulus.prime

  abbrev h : 1 < p
  h = prime.above_one

  abbrev G : List (Line (ZMod p) (Row n))
  G = lines_of_basis a.basis h

  pub reached-sized : Sized (modulo p h) n most_standard a.H × Small n a.B
  reached-sized =
      let (B₀, few, irreducible) = few-of n G a.small in
      let (standard, count) = converts-standard p prime n G a.reduced.lines a.reduced.groebner B₀ irreducible a.H a.B a.converts in
      let order = lex-order n (variables n) (variables-rank n) in (
        sizes-suffice (modulo p h) n order a.H a.converts.reduced a.B standard most_standard (omega arith),
        record { few = omega arith; exponents = λ m i v l. omega (arith, standard-exponents (modulo p h) n order a.H a.converts.reduced a.B standard m i v l) },
      )
