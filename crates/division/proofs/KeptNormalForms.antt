-- What the division of a polynomial keeps: its normal form.
--   NF-added      a multiple of the earliest line that divides a monomial, added, leaves the normal form the same
--   NF-top        the coefficient of the normal form at an irreducible monomial above which there is nothing
--   NF-zero       the normal form of zero
use mathlib.Core.Path.{◌≡◌, sym, ◌∙◌, ap, subst}
use mathlib.Core.List.{List, [], ◌∷◌, ◌++◌}
use mathlib.Core.Logic.{◌⊎◌, inl, inr}
use Rattle.residue.specs.Field.{Arithmetic}
use Rattle.monomial.specs.Ordering.{Monomials}
use Rattle.monomial.proofs.OrderLaws.{MonomialOrder}
use Rattle.monomial.proofs.AnyOrder.{irreflexive, asymmetric}
use Rattle.groebner.specs.Polynomials.{Poly, All, all_nil, all_cons, scale, shift, δ, coef, Same}
use Rattle.groebner.specs.Lines.{Line, polynomial, Reducible, Earliest}
use Rattle.groebner.specs.Criteria.{Low}
use Rattle.groebner.proofs.Modules.{self, mul-zero}
use Rattle.groebner.proofs.Linear.{all_map, lin-append, lin-scale, lin-on, coef-lin, lin-same, lin-vanish}
use Rattle.groebner.proofs.Terms.{all_of, no-term, coef-absent, δ-other, clean, clean-proper, clean-same}
use Rattle.groebner.proofs.Ground.{PolynomialRing}
use Rattle.groebner.proofs.Division.{LinePlace, rewriting, reducible?, vanishes}
use Rattle.groebner.proofs.NormalForms.{Rewriting, nf, nfc, NF, NF-coef, NF-fixed}
use Rattle.groebner.proofs.NormalCoefficients.{lin-single, nf-below}

module _ {F M : Type 0} {R : Arithmetic F} {𝓜 : Monomials M} {lt : M → M → Type 0}
    (𝓟 : PolynomialRing R 𝓜) (ord : MonomialOrder 𝓜 lt) (G : List (Line F M)) (low : Low lt G) where
  open R use {zero as 𝟘, one as 𝟙, add, mul}
  open 𝓜 use {mul as prod}
  open 𝓟 use {field}
  open field use {ring, decide}

  abbrev S : Rewriting R 𝓜 (LinePlace G)
  S = rewriting 𝓟 ord G low

  pub NF-added : (f : Poly F M) (c : F) (m : M) (g : Line F M) (u : M) → Earliest 𝓜 m g G → m ≡ prod u g.0
      → Same R 𝓜 (NF S (f ++ scale R c (shift 𝓜 u (polynomial R g)))) (NF S f)
  unfolding self
  NF-added f c m g u e q k = NF-coef S _ k ∙ lin-append (self ring) (nfc S k) f _ ∙ ap (add _) (lin-scale (self ring) (nfc S k) c _
      ∙ ap (mul c) (vanishes 𝓟 ord G low k m g u e q) ∙ mul-zero ring c) ∙ ring.add_zero _ ∙ sym (NF-coef S f k)

  pub NF-zero : (f : Poly F M) → ((k : M) → coef R 𝓜 f k ≡ 𝟘) → (k : M) → coef R 𝓜 (NF S f) k ≡ 𝟘
  unfolding self
  NF-zero f h k = NF-coef S f k ∙ lin-vanish ring 𝓜 (self ring) (nfc S k) f h

  -- An irreducible monomial is its own normal form.
  single : (m k : M) → ¬ Reducible 𝓜 G k → nfc S m k ≡ δ R 𝓜 m k
  single m k n = sym (lin-single (self ring) (nfc S m) k) ∙ sym (NF-coef S alone m) ∙ NF-fixed S alone (all_cons (λ i u e. n (i.0, i.1, (u, e))) all_nil) m
      ∙ coef-lin ring 𝓜 alone m ∙ lin-single (self ring) (δ R 𝓜 m) k
    where
      alone : Poly F M
      alone = (𝟙, k) ∷ []

  -- At an irreducible monomial m the normal form of a monomial that is not above m has the coefficient of the monomial itself.
  at_top : (m : M) → ¬ Reducible 𝓜 G m → (k : M) → ¬ lt m k → nfc S m k ≡ δ R 𝓜 m k
  at_top m n k above = go (reducible? 𝓟 ord G low k) (ord.total k m)
    where
      go : Dec (Reducible 𝓜 G k) → lt k m ⊎ ((k ≡ m) ⊎ lt m k) → nfc S m k ≡ δ R 𝓜 m k
      go (no i) d = single m k i
      go (yes r) (inl l) = coef-absent ring 𝓜 (nf S k) m (all_map (λ x s e. asymmetric ord (subst (λ y. lt y k) e s) l) (nf-below 𝓟 ord G low k r))
          ∙ sym (δ-other ring 𝓜 m k (λ e. irreflexive ord (subst (λ x. lt k x) e l)))
      go (yes r) (inr (inl e)) = absurd (n (subst (λ x. Reducible 𝓜 G x) e r))
      go (yes r) (inr (inr l)) = absurd (above l)

  pub NF-top : (f : Poly F M) (m : M) → ¬ Reducible 𝓜 G m → ((k : M) → lt m k → coef R 𝓜 f k ≡ 𝟘) → coef R 𝓜 (NF S f) m ≡ coef R 𝓜 f m
  NF-top f m n above = NF-coef S f m ∙ lin-same ring 𝓜 (self ring) (nfc S m) f tidy (λ k. sym (same k)) ∙ lin-on (self ring) (nfc S m) (δ R 𝓜 m) (at_top m n) within
      ∙ sym (coef-lin ring 𝓜 tidy m) ∙ same m
    where
      tidy : Poly F M
      tidy = clean ring 𝓜 decide f

      same : Same R 𝓜 tidy f
      same = clean-same ring 𝓜 decide f

      within : All (λ k. ¬ lt m k) tidy
      within = all_of tidy (λ c k p l. no-term ring 𝓜 tidy (clean-proper ring 𝓜 decide f) c k (same k ∙ above k l) p)
