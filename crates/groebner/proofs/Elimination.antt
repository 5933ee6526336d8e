-- What elimination promises: of monomials added one by one, each image is a combination of those before it, or it is none.
--   AddedVector 𝓥 L Holds B m o   what the answer o to m says, after the monomials B
--   Elimination 𝓥 L D             a state that tells combinations from new images, with room for at most D new ones
use mathlib.Core.Path.{◌≡◌}
use mathlib.Core.List.{List, [], ◌∷◌, ◌++◌}
use mathlib.Core.Logic.{◌⊎◌, inl, inr}
use Prim.Native.Nat.{ℕ, ◌≤◌}
use lib.ListN.{length}
use Rattle.lists.specs.Lists.{◌∈◌}
use Rattle.residue.specs.Field.{Arithmetic}
use Rattle.groebner.specs.Polynomials.{Poly, All}
use Rattle.groebner.proofs.Modules.{Module}
use Rattle.groebner.proofs.Linear.{lin}
use Rattle.groebner.proofs.Spans.{LinearSpan}

-- A combination of B with the same image as m; or a state that holds m too, and the image of m is no combination of those of B.
abbrev pub AddedVector : {F M W : Type 0} {R : Arithmetic F} (𝓥 : Module R W) (L : M → W) {S : Type 0} → (S → List M → Type 0) → List M → M → Poly F M ⊎ S → Type 0
AddedVector 𝓥 L Holds B m (inl f) = All (λ k. k ∈ B) f × (L m ≡ lin 𝓥 L f)
AddedVector 𝓥 L Holds B m (inr s) = Holds s (B ++ (m ∷ [])) × ¬ LinearSpan 𝓥 L (λ k. k ∈ B) (L m)

pub record Elimination {F M W : Type 0} {R : Arithmetic F} (𝓥 : Module R W) (L : M → W) (D : ℕ) : Type 1 where
  pub State : Type 0
  pub start : State
  pub add : State → List M → M → Poly F M ⊎ State
  pub Holds : State → List M → Type 0
  pub start_holds : Holds start []
  pub add_holds : (s : State) (B : List M) (m : M) → Holds s B → AddedVector 𝓥 L Holds B m (add s B m)
  pub room : (s : State) (B : List M) → Holds s B → length B ≤ D
