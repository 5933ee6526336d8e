-- Linear maps of modules, and how they carry combinations of the images of monomials.
--   LinearMap 𝓥 𝓤     a map of modules that keeps sums and multiples
--   along π L         the images of monomials under L, sent through π
--   Faithful π L      combinations of images that π sends to the same vector are the same
-- Of a linear map: apply-null, apply-lin
-- Carried through: equal-along, zero-along, combination-along, span-along; through a faithful map also shifts-along
-- Carried back through a faithful map: equal-back, zero-back, combination-back, span-back
use mathlib.Core.Path.{◌≡◌, sym, ◌∙◌, ap, ap₂}
use mathlib.Core.List.{[], ◌∷◌}
use Rattle.residue.specs.Field.{Arithmetic}
use Rattle.monomial.specs.Ordering.{Monomials}
use Rattle.groebner.specs.Polynomials.{Poly, shift}
use Rattle.groebner.proofs.Modules.{Module, zero-act}
use Rattle.groebner.proofs.Linear.{lin}
use Rattle.groebner.proofs.Spans.{LinearSpan, Shifts, span-one}

-- A map of modules that keeps sums and multiples.
pub record LinearMap {F W U : Type 0} {R : Arithmetic F} (𝓥 : Module R W) (𝓤 : Module R U) : Type 0 where
  pub apply : W → U
  pub apply_plus : (v w : W) → apply (𝓥.plus v w) ≡ 𝓤.plus (apply v) (apply w)
  pub apply_act : (c : F) (v : W) → apply (𝓥.act c v) ≡ 𝓤.act c (apply v)

module _ {F W U : Type 0} {R : Arithmetic F} {𝓥 : Module R W} {𝓤 : Module R U} (π : LinearMap 𝓥 𝓤) where
  pub apply-null : π.apply 𝓥.null ≡ 𝓤.null
  apply-null = ap π.apply (sym (zero-act 𝓥 𝓥.null)) ∙ π.apply_act R.zero 𝓥.null ∙ zero-act 𝓤 _

  module _ {M : Type 0} (L : M → W) where
    -- The images, sent through the map.
    abbrev pub along : M → U
    along m = π.apply (L m)

    pub apply-lin : (f : Poly F M) → π.apply (lin 𝓥 L f) ≡ lin 𝓤 along f
    unfolding lin
    apply-lin [] = apply-null
    apply-lin (t ∷ f) = π.apply_plus _ _ ∙ ap₂ 𝓤.plus (π.apply_act t.0 (L t.1)) (apply-lin f)

    -- Combinations that are sent to the same vector are the same.
    abbrev pub Faithful : Type 0
    Faithful = (f g : Poly F M) → π.apply (lin 𝓥 L f) ≡ π.apply (lin 𝓥 L g) → lin 𝓥 L f ≡ lin 𝓥 L g

    pub equal-along : (f g : Poly F M) → lin 𝓥 L f ≡ lin 𝓥 L g → lin 𝓤 along f ≡ lin 𝓤 along g
    equal-along f g e = sym (apply-lin f) ∙ ap π.apply e ∙ apply-lin g

    pub zero-along : (f : Poly F M) → lin 𝓥 L f ≡ 𝓥.null → lin 𝓤 along f ≡ 𝓤.null
    zero-along f e = sym (apply-lin f) ∙ ap π.apply e ∙ apply-null

    pub combination-along : (m : M) (f : Poly F M) → L m ≡ lin 𝓥 L f → along m ≡ lin 𝓤 along f
    combination-along m f e = ap π.apply e ∙ apply-lin f

    pub span-along : {P : M → Type 0} (m : M) → LinearSpan 𝓥 L P (L m) → LinearSpan 𝓤 along P (along m)
    span-along m s = (s.0, s.1, combination-along m s.0 s.2)

    module _ (faithful : Faithful) where
      pub equal-back : (f g : Poly F M) → lin 𝓤 along f ≡ lin 𝓤 along g → lin 𝓥 L f ≡ lin 𝓥 L g
      equal-back f g e = faithful f g (apply-lin f ∙ e ∙ sym (apply-lin g))

      pub zero-back : (f : Poly F M) → lin 𝓤 along f ≡ 𝓤.null → lin 𝓥 L f ≡ 𝓥.null
      unfolding lin
      zero-back f e = equal-back f [] e

      pub combination-back : (m : M) (f : Poly F M) → along m ≡ lin 𝓤 along f → L m ≡ lin 𝓥 L f
      combination-back m f e = one.2 ∙ faithful one.0 f (ap π.apply (sym one.2) ∙ e ∙ sym (apply-lin f))
        where
          one : LinearSpan 𝓥 L (λ _. Unit) (L m)
          one = span-one 𝓥 L m tt

      pub span-back : {P : M → Type 0} (m : M) → LinearSpan 𝓤 along P (along m) → LinearSpan 𝓥 L P (L m)
      span-back m s = (s.0, s.1, combination-back m s.0 s.2)

      pub shifts-along : (𝓜 : Monomials M) → Shifts 𝓥 L 𝓜 → Shifts 𝓤 along 𝓜
      shifts-along 𝓜 shifts u m f e = combination-along (𝓜.mul u m) (shift 𝓜 u f) (shifts u m f (combination-back m f e))
