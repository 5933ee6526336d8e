-- The terms of minus a combination, by the places of its coefficients.
--   placed field B v        Σ -v_k·B_k, the last first, without the terms that are zero
--   placed-ordered          these are the terms of -Σ v_k·B_k in order
use mathlib.Core.Path.{◌≡◌, refl, sym, ◌∙◌, ap, ap₂}
use mathlib.Core.List.Memᴰ
use mathlib.Core.List.{List, [], ◌∷◌, ◌++◌}
use Prim.Native.Nat.{◌≤◌}
use native.Mathlib.Omega.{arith}
use lib.ListN.{length}
use Rattle.lists.specs.Lists.{◌∈◌, Once}
use Rattle.residue.specs.Field.{Arithmetic}
use Rattle.residue.specs.RingLaws.{Field}
use Rattle.monomial.specs.Ordering.{Monomials}
use Rattle.groebner.specs.Polynomials.{Poly, scale, negate, coef}
use Rattle.groebner.specs.CoefficientRows.{polynomial_of, multiply}
use Rattle.groebner.specs.OrderedTails.{nonzero_term, ordered}
use Rattle.groebner.proofs.Modules.{self, neg-act}
use Rattle.groebner.proofs.Linear.{all_map}
use Rattle.groebner.proofs.Terms.{coef-here, coef-there, coef-absent}
use Rattle.groebner.proofs.CoefficientRows.{terms_among, scale-terms}

module _ {F M : Type 0} {R : Arithmetic F} (field : Field R) where
  -- Σ -v_k·B_k by places, the last first.
  unfoldable pub placed : List M → List F → Poly F M
  unfolding nonzero_term
  placed [] v = []
  placed (b ∷ B) [] = []
  placed (b ∷ B) (x ∷ v) = placed B v ++ nonzero_term field (R.neg x) b

  ordered-on : (B : List M) (c d : M → F) → ((b : M) → b ∈ B → c b ≡ d b) → ordered field B c ≡ ordered field B d
  unfolding ordered
  ordered-on [] c d e = refl
  ordered-on (b ∷ B) c d e = ap₂ ◌++◌ (ordered-on B c d (λ k i. e k (Memᴰ.tail i))) (ap (λ x. nonzero_term field x b) (e b (Memᴰ.head refl)))

  module _ (𝓜 : Monomials M) where
    pub placed-ordered : (B : List M) (v : List F) → length B ≤ length v → Once B → placed B v ≡ ordered field B (coef R 𝓜 (negate R (polynomial_of B v)))
    unfolding placed ordered negate scale polynomial_of self
    placed-ordered [] v l o = refl
    placed-ordered (b ∷ B) [] l o = absurd (omega arith)
    placed-ordered (b ∷ B) (x ∷ v) l o = ap₂ ◌++◌
        (placed-ordered B v (omega arith) o.1
        ∙ ordered-on B _ _ (λ k i. sym (coef-there field.ring 𝓜 (R.mul (R.neg R.one) x, b) (negate R (polynomial_of B v)) k (λ e. o.0 (Memᴰ.cast (sym e) i)))))
        (ap (λ y. nonzero_term field y b) (sym (coef-here field.ring 𝓜 _ b (negate R (polynomial_of B v))
        ∙ ap₂ R.add (neg-act (self field.ring) R.one x ∙ ap R.neg ((self field.ring).act_one x)) rest ∙ field.ring.add_zero (R.neg x))))
      where
        rest : coef R 𝓜 (negate R (polynomial_of B v)) b ≡ R.zero
        rest = ap (λ f. coef R 𝓜 f b) (scale-terms R _ B v)
            ∙ coef-absent field.ring 𝓜 (polynomial_of B (multiply R (R.neg R.one) v)) b
            (all_map (λ k i e. o.0 (Memᴰ.cast (sym e) i)) (terms_among B (multiply R (R.neg R.one) v)))
