-- What rows and answers say of the images L(b) of monomials b, added one by one.
--   EchelonOf p h field L rs B      the rows rs are in reduced echelon form for the images of B, and each is the combination of them that it has beside it
--   Answers p h field L B m o       o is a combination of the images of B that is that of m; or rows for B and m, and the image of m is no such combination
--   Image p h L v m                 the vector v of the code is the image of m
use mathlib.Core.Path.{◌≡◌}
use mathlib.Core.List.{List, [], ◌∷◌, ◌++◌}
use mathlib.Core.Logic.{◌⊎◌, inl, inr}
use Prim.Native.Nat.{ℕ, ◌<◌, ◌≤◌}
use lib.ListN.{length, get_or}
use Rattle.lists.specs.Lists.{◌∈◌}
use Rattle.residue.specs.Field.{ZMod, modulo}
use Rattle.residue.specs.RingLaws.{Field}
use Rattle.groebner.specs.Polynomials.{All}
use Rattle.groebner.specs.CoefficientRows.{polynomial_of}
use Rattle.groebner.proofs.CoefficientElimination.{coefficient_vectors, array_combinations}
use Rattle.groebner.proofs.Coordinates.{sequences}
use Rattle.groebner.proofs.Linear.{lin}
use Rattle.groebner.proofs.RowElimination.{Holds}
use Rattle.groebner.proofs.Spans.{LinearSpan}
use Rattle.lines.specs.Sizes.{most_standard}
use Rattle.coordinates.specs.Vectors.{vector}
use Rattle.coordinates.specs.declared.Coordinates.{Coordinates}
use Rattle.fglm.specs.RowState.{State}

-- The vector v is the image of m.
pub record Image (p : ℕ) (h : 1 < p) {M : Type 0} (L : M → ℕ → ZMod p) (v : Coordinates) (m : M) : Type 0 where
  pub size : length v.c ≤ most_standard
  pub entries : (k : ℕ) → get_or (vector p h v) k (modulo p h).zero ≡ L m k

module _ (p : ℕ) (h : 1 < p) (field : Field (modulo p h)) {M : Type 0} (L : M → ℕ → ZMod p) where
  -- The rows are in reduced echelon form for the images of B, each with the combination of them that it is.
  unfoldable pub EchelonOf : State p → List M → Type 0
  unfolding coefficient_vectors array_combinations
  EchelonOf rs B = Holds (coefficient_vectors field.ring most_standard (λ c. field.decide c (modulo p h).zero)) (array_combinations (sequences field.ring) L most_standard) rs B

  -- A combination of the images of B that is that of m; or rows for B and m, and there is no such combination.
  abbrev pub Answers : List M → M → List (ZMod p) ⊎ State p → Type 0
  Answers B m (inl c) = All (λ b. b ∈ B) (polynomial_of B c) × (L m ≡ lin (sequences field.ring) L (polynomial_of B c))
  Answers B m (inr rs) = EchelonOf rs (B ++ (m ∷ [])) × ¬ LinearSpan (sequences field.ring) L (λ b. b ∈ B) (L m)
