-- Check 14: more than 32 monomials are irreducible, or the list of them is found.
--   Few n G       the list of the irreducible monomials, at most 32
--   large_or_few  one of the two
--   few-of        lines of which check 14 does not speak
--   few-not-large where the list has at most 32 elements, check 14 does not speak
use mathlib.Core.List.{List}
use mathlib.Core.Logic.{◌⊎◌, inl, inr, ⊎_elim}
use mathlib.Core.Option.{Option, none, some}
use Prim.Native.Nat.{ℕ, ◌≤◌}
use native.Mathlib.Omega.{arith}
use lib.ListN.{length}
use Rattle.lists.proofs.EachElement.{each_at, each_of}
use Rattle.monomial.specs.Rows.{Row}
use Rattle.monomial.specs.Orders.{variables}
use Rattle.monomial.specs.Ordering.{monomials, Lex}
use Rattle.monomial.proofs.OrderLaws.{MonomialOrder}
use Rattle.monomial.proofs.LexOrder.{lex-order, variables-rank}
use Rattle.groebner.specs.Lines.{Line, Reducible}
use Rattle.groebner.specs.Conversions.{Lists}
use Rattle.groebner.specs.Next.{next, irreducibles}
use Rattle.groebner.proofs.Lists.{pigeon}
use Rattle.groebner.proofs.RisingLists.{rising-once, lists-once}
use Rattle.groebner.proofs.Next.{next-lex, variables-ranking}
use Rattle.groebner.proofs.ReducibleTest.{reducible}
use Rattle.groebner.proofs.IrreducibleList.{Counts, irreducibles-of-lines}
use Rattle.lines.specs.Sizes.{most_standard}
use Rattle.staircase.specs.Conditions.{Large}

module _ {F : Type 0} (n : ℕ) (G : List (Line F (Row n))) where
  abbrev Irreducible : Row n → Type 0
  Irreducible m = ¬ Reducible (monomials n) G m

  abbrev pub Few : Type 0
  Few = (B : List (Row n)) × (length B ≤ most_standard) × Lists (λ m. ¬ Reducible (monomials n) G m) B

  abbrev order : MonomialOrder (monomials n) (Lex n (variables n))
  order = lex-order n (variables n) (variables-rank n)

  unfoldable pub large_or_few : Large n G ⊎ Few
  unfolding irreducibles next reducible variables
  large_or_few = at (irreducibles n (next n (variables n)) (reducible n G) most_standard)
      (irreducibles-of-lines n order (next n (variables n)) (next-lex n (variables n) (variables-ranking n)) G most_standard)
    where
      at : (x : Option (List (Row n))) → Counts (Lex n (variables n)) Irreducible most_standard x → Large n G ⊎ Few
      at none (l, e, r, only) = inl (l, e, rising-once order l r, each_of Irreducible l only)
      at (some l) (h, r) = inr (l, h, lists-once order Irreducible l r)

  pub few-of : ¬ Large n G → Few
  few-of s = ⊎_elim (λ l. absurd (s l)) (λ f. f) large_or_few

  pub few-not-large : Few → ¬ Large n G
  few-not-large (B, h, w) (l, e, once, each) = omega (arith, pigeon l B once (λ m i. w.all m (each_at Irreducible l each i)))
