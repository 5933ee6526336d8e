-- The reduced lex Groebner basis of a grevlex Groebner basis, with its standard monomials: it exists and is one.
--   conversion-unique    there is at most one
--   outcome-converts     the outcome of the enumeration is one
--   conversion_exists    there is one, and it is computed
--   converts-standard    its standard monomials are those that its lines do not reduce, as many as are irreducible in grevlex
--   conversion-systems   the two bases are equivalent reduction systems
use mathlib.Core.Path.{◌≡◌, subst₂}
use mathlib.Core.List.{List}
use Prim.Native.Nat.{ℕ, ◌<◌}
use lib.ListN.{length}
use Rattle.residue.specs.Prime.{Prime}
use Rattle.residue.specs.Field.{Arithmetic, ZMod, modulo}
use Rattle.monomial.specs.Rows.{Row}
use Rattle.monomial.specs.Orders.{variables}
use Rattle.monomial.specs.Ordering.{monomials, Lex, Grevlex}
use Rattle.monomial.proofs.OrderLaws.{MonomialOrder}
use Rattle.monomial.proofs.LexOrder.{lex-order, variables-rank}
use Rattle.monomial.proofs.GrevlexOrder.{grevlex-order}
use Rattle.groebner.specs.Lines.{Line, Lines, Reducible}
use Rattle.groebner.specs.Bases.{Groebner}
use Rattle.groebner.specs.Conversions.{Lists}
use Rattle.groebner.specs.Systems.{Equivalent}
use Rattle.groebner.specs.Enumeration.{Enumerates}
use Rattle.groebner.proofs.RisingLists.{rising-once, rising-unique}
use Rattle.groebner.proofs.Equivalence.{equivalent}
use Rattle.groebner.proofs.Instance.{ground, ConvertedLines, converted, one-basis}
use Rattle.convert.specs.Outcome.{Converts}
use Rattle.convert.proofs.LexEnumeration.{enumerated}

module _ (p : ℕ) (prime : Prime p) (n : ℕ) (G : List (Line (ZMod p) (Row n))) where
  abbrev h : 1 < p
  h = prime.above_one

  abbrev R : Arithmetic (ZMod p)
  R = modulo p h

  abbrev lt : Row n → Row n → Type 0
  lt = Lex n (variables n)

  order : MonomialOrder (monomials n) lt
  order = lex-order n (variables n) (variables-rank n)

  pub conversion-unique : (H K : List (Line (ZMod p) (Row n))) (B C : List (Row n)) → Converts p h n G H B → Converts p h n G K C → (H ≡ K) × (B ≡ C)
  conversion-unique H K B C a b = (
    one-basis p prime n (variables n) (variables-rank n) H K a.reduced b.reduced a.rising b.rising (λ f. (λ x. (b.ideal f).0 ((a.ideal f).1 x), λ x. (a.ideal f).0 ((b.ideal f).1 x))),
    rising-unique order B C a.ascending b.ascending (λ m i. (b.standard m).0 ((a.standard m).1 i)) (λ m i. (a.standard m).0 ((b.standard m).1 i)),
  )

  module _ (lines : Lines R (Grevlex n) G) (gb : Groebner R (monomials n) (Grevlex n) G) where
    pub conversion-systems : (H : List (Line (ZMod p) (Row n))) (B : List (Row n)) → Converts p h n G H B
        → Equivalent R (monomials n) (record { lt = Grevlex n; lines = G }) (record { lt = lt; lines = H })
    conversion-systems H B c = equivalent (ground p prime n) _ _ (grevlex-order n) order (λ g q. (lines.falling g q).0) (λ g q. (c.reduced.lines.falling g q).0) gb c.reduced.groebner c.ideal

    module _ (D : ℕ) (H : List (Line (ZMod p) (Row n))) (B : List (Row n)) (o : Enumerates R n (Grevlex n) lt G D H B) where
      is : ConvertedLines p prime n G lines (variables n) H
      is = converted p prime n G lines gb (variables n) (variables-rank n) H o.conversion

      pub outcome-converts : Converts p h n G H B
      outcome-converts = record { reduced = is.reduced; ideal = is.ideal; rising = o.rising; standard = λ m. (o.standard.all m, o.standard.only m); ascending = o.standard.rising }

      outcome-standard : Lists (λ m. ¬ Reducible (monomials n) H m) B × (length B ≡ D)
      outcome-standard = (
        record { once = rising-once order B o.standard.rising; all = λ m s. o.standard.all m ((is.standard m).1 s); only = λ m i. (is.standard m).0 (o.standard.only m i) },
        o.count,
      )

    module _ (B₀ : List (Row n)) (irreducible : Lists (λ m. ¬ Reducible (monomials n) G m) B₀) where
      -- The outcome of the enumeration.
      unfoldable found : (H : List (Line (ZMod p) (Row n))) × (B : List (Row n)) × Enumerates R n (Grevlex n) lt G (length B₀) H B
      unfolding enumerated
      found = enumerated p prime n G lines B₀ gb irreducible

      unfoldable pub conversion_exists : (H : List (Line (ZMod p) (Row n))) × (B : List (Row n)) × Converts p h n G H B
      unfolding found
      conversion_exists = let (H, B, o) = found in (H, B, outcome-converts (length B₀) H B o)

      pub converts-standard : (H : List (Line (ZMod p) (Row n))) (B : List (Row n)) → Converts p h n G H B → Lists (λ m. ¬ Reducible (monomials n) H m) B × (length B ≡ length B₀)
      converts-standard H B c =
          let (K, C, o) = found in
          let (e, q) = conversion-unique K H C B (outcome-converts (length B₀) K C o) c in
          subst₂ (λ (H : List (Line (ZMod p) (Row n))) (B : List (Row n)). Lists (λ m. ¬ Reducible (monomials n) H m) B × (length B ≡ length B₀)) e q (outcome-standard (length B₀) K C o)
