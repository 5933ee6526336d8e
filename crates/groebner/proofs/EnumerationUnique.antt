-- What the enumeration finds is determined by the images: lines G and H with standard monomials B and C over the same images agree.
--   same-standard    the standard monomials are the same
use mathlib.Core.Path.{◌≡◌}
use mathlib.Core.List.{List}
use Prim.Native.Nat.{ℕ}
use Rattle.residue.specs.Field.{Arithmetic}
use Rattle.monomial.specs.Rows.{Row}
use Rattle.monomial.specs.Ordering.{monomials}
use Rattle.monomial.proofs.OrderLaws.{MonomialOrder}
use Rattle.groebner.specs.Lines.{Line}
use Rattle.groebner.proofs.Modules.{Module}
use Rattle.groebner.proofs.Spans.{Shifts}
use Rattle.groebner.proofs.RisingLists.{lists-unique}
use Rattle.groebner.proofs.Seen.{AllSeen}
use Rattle.groebner.proofs.EnumerationResult.{standard-list}

module _ {F : Type 0} {R : Arithmetic F} (n : ℕ) {W : Type 0} (𝓥 : Module R W) (L : Row n → W)
    {lt : Row n → Row n → Type 0} (ord : MonomialOrder (monomials n) lt) (shifts : Shifts 𝓥 L (monomials n))
    (G : List (Line F (Row n))) (B : List (Row n)) (v : AllSeen n 𝓥 L lt G B)
    (H : List (Line F (Row n))) (C : List (Row n)) (w : AllSeen n 𝓥 L lt H C) where
  pub same-standard : B ≡ C
  same-standard = lists-unique ord _ B C (standard-list n 𝓥 L ord shifts G B v) (standard-list n 𝓥 L ord shifts H C w)
