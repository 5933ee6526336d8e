-- Lines in the order of a list of monomials, and one monomial more.
--   written-append      one line more
--   written-more        one monomial more, which is in none of the tails
--   multiple-reducible  the code's test for multiples of the leading monomials is that of the theory
use mathlib.Core.Path.{◌≡◌, refl, sym, ap, ap₂, fun_ext}
use mathlib.Core.Bool.{true, false}
use mathlib.Core.List.Memᴰ
use mathlib.Core.List.{List, [], ◌∷◌, ◌++◌, map-append}
use Prim.Native.Nat.{ℕ}
use Rattle.lists.specs.Lists.{◌∈◌}
use Rattle.residue.specs.Field.{Arithmetic}
use Rattle.residue.specs.RingLaws.{Field}
use Rattle.monomial.specs.Rows.{Row}
use Rattle.monomial.specs.Quotients.{divides}
use Rattle.monomial.specs.Ordering.{Monomials}
use Rattle.groebner.specs.Polynomials.{All, coef}
use Rattle.groebner.specs.Lines.{Line}
use Rattle.groebner.specs.OrderedTails.{nonzero_term, ordered, ordered_line}
use Rattle.groebner.specs.RisingLists.{leads}
use Rattle.groebner.proofs.Linear.{all_map}
use Rattle.groebner.proofs.Terms.{coef-absent}
use Rattle.groebner.proofs.OrderedTails.{nonzero-term-cases, in_order}
use Rattle.groebner.proofs.ReducibleTest.{reducible}
use Rattle.staircase.specs.Leads.{multiple}

module _ {F M : Type 0} {R : Arithmetic F} (field : Field R) (𝓜 : Monomials M) where
  pub written-append : (B : List M) (H : List (Line F M)) (g : Line F M) → in_order field 𝓜 B (H ++ (g ∷ [])) ≡ in_order field 𝓜 B H ++ (ordered_line field 𝓜 B g ∷ [])
  unfolding in_order
  written-append B H g = map-append (ordered_line field 𝓜 B) H (g ∷ [])

  ordered-append : (B : List M) (m : M) (c : M → F) → c m ≡ R.zero → ordered field (B ++ (m ∷ [])) c ≡ ordered field B c
  unfolding ordered
  ordered-append [] m c z = nonzero-term-cases field (λ f. f ≡ []) (c m) m (λ _. refl) (λ n. absurd (n z))
  ordered-append (b ∷ B) m c z = ap (◌++ nonzero_term field (c b) b) (ordered-append B m c z)

  pub written-more : (B : List M) (m : M) → ¬ (m ∈ B) → (H : List (Line F M)) → ((g : Line F M) → g ∈ H → All (λ k. k ∈ B) g.1)
      → in_order field 𝓜 (B ++ (m ∷ [])) H ≡ in_order field 𝓜 B H
  unfolding in_order
  written-more B m n [] tails = refl
  written-more B m n (g ∷ H) tails = ap₂ (λ f G. (g.0, f) ∷ G)
      (ordered-append B m (coef R 𝓜 g.1) (coef-absent field.ring 𝓜 g.1 m (all_map (λ k i e. n (Memᴰ.cast (sym e) i)) (tails g (Memᴰ.head refl)))))
      (written-more B m n H (λ h i. tails h (Memᴰ.tail i)))

multiple_at : {F : Type 0} (n : ℕ) (H : List (Line F (Row n))) (m : Row n) → multiple n (leads H) m ≡ reducible n H m
unfolding multiple reducible
multiple_at n [] m = refl
multiple_at n (g ∷ H) m = ap (λ t. elim (divides n g.0 m) [ true ↦ true | false ↦ t ]) (multiple_at n H m)

pub multiple-reducible : {F : Type 0} (n : ℕ) (H : List (Line F (Row n))) → multiple n (leads H) ≡ reducible n H
multiple-reducible n H = fun_ext (multiple_at n H)
