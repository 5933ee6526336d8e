-- Check 15 is Buchberger's criterion: it speaks of no line exactly if every S-polynomial of an earlier and a later line has remainder zero.
--   failing-buchberger   check 15 speaks of no line: Buchberger's criterion
use mathlib.Core.List.{List, [], ◌∷◌, cons-ne-nil}
use mathlib.Core.Logic.{◌↔◌}
use Prim.Native.Nat.{ℕ, suc}
use native.Mathlib.Omega.{arith}
use Rattle.residue.specs.Field.{Arithmetic}
use Rattle.monomial.specs.Ordering.{Monomials}
use Rattle.monomial.proofs.OrderLaws.{MonomialOrder}
use Rattle.groebner.specs.Polynomials.{Poly}
use Rattle.groebner.specs.Lines.{Line}
use Rattle.groebner.specs.Remainders.{Remainder}
use Rattle.groebner.specs.Criteria.{Buchberger, Low}
use Rattle.groebner.proofs.Terms.{equal-nil}
use Rattle.groebner.proofs.Ground.{PolynomialRing}
use Rattle.groebner.proofs.Division.{remainder, remainder-unique}
use Rattle.staircase.specs.Conditions.{Failing}
use Rattle.staircase.proofs.ClearLines.{before_at, on-before}

module _ {F M : Type 0} {R : Arithmetic F} {𝓜 : Monomials M} {lt : M → M → Type 0} (𝓟 : PolynomialRing R 𝓜) (ord : MonomialOrder 𝓜 lt) (G : List (Line F M)) (low : Low lt G) where
  buchberger-of : ((k : ℕ) → ¬ Failing R 𝓜 G lt k) → Buchberger R 𝓜 lt G
  buchberger-of none f g b s w = go (remainder 𝓟 ord G low s w.proper)
    where
      go : (r : Poly F M) × Remainder R 𝓜 lt G s r → Remainder R 𝓜 lt G s []
      go ([], q) = q
      go (t ∷ r, q) = let (i, j, h, p, l) = before_at f g G b in absurd (none (suc (suc j))
          (record { f = f; g = g; j = suc (suc i); earlier = p; later = l; before = omega arith; s = s; pair = w; r = t ∷ r; remainder = q; nonzero = cons-ne-nil t r }))

  none_of : Buchberger R 𝓜 lt G → (k : ℕ) → ¬ Failing R 𝓜 G lt k
  none_of pass k w = w.nonzero (equal-nil w.r (remainder-unique 𝓟 ord G low w.s w.r [] w.pair.proper w.remainder
      (pass w.f w.g (on-before w.f w.g G w.j k w.before w.earlier w.later) w.s w.pair)))

  pub failing-buchberger : ((k : ℕ) → ¬ Failing R 𝓜 G lt k) ↔ Buchberger R 𝓜 lt G
  failing-buchberger = (buchberger-of, none_of)
