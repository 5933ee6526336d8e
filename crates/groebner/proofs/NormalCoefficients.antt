-- Maps that vanish on the multiples of the lines, and more on the images of monomials (proofs/Images.antt).
--   lin-single                the linear extension at one monomial
--   unit_coefficients R 𝓜 b   the coefficients of the monomial b
--   lin-unit                  the coefficients of f are the linear extension of unit_vector
--   reducible-multiple        a multiple of a reducible monomial is reducible
--   irreducible-divisor       a divisor of an irreducible monomial is irreducible
--   not-reducible             irreducible, in the words of the definitions
--   ideal-vanishes            a map under which the multiples of the lines vanish vanishes on the ideal
--   NF-value, nf-value        so it has the same value on a polynomial, or a monomial, and on its normal form
--   nf-below                  the normal form of a reducible monomial lies below it
--   coefficient-irreducible   the monomials of a normal form are irreducible
--   image-unit                an irreducible monomial is its own normal form
--   image-zero                of a Groebner basis: normal forms vanish on the ideal
--   image-shift               of a Groebner basis: the normal form of u·m is that of u times the normal form of m
--   image-lead                of a Groebner basis: the normal form of a leading monomial is minus the tail
use mathlib.Core.Path.{◌≡◌, refl, sym, ◌∙◌, ap, ap₂, subst, fun_ext}
use mathlib.Core.List.{List, [], ◌∷◌, ◌++◌}
use mathlib.Core.Logic.{◌⊎◌, inl, inr, ⊎_elim}
use mathlib.Core.WellFounded.{induction}
use Rattle.lists.specs.Lists.{◌∈◌}
use Rattle.residue.specs.Field.{Arithmetic}
use Rattle.residue.specs.RingLaws.{Ring}
use Rattle.monomial.specs.Ordering.{Monomials}
use Rattle.monomial.proofs.OrderLaws.{MonomialOrder}
use Rattle.groebner.specs.Polynomials.{Poly, All, all_nil, all_cons, negate, shift, δ, coef}
use Rattle.groebner.specs.Lines.{Line, polynomial, Reducible}
use Rattle.groebner.specs.Criteria.{Low}
use Rattle.groebner.specs.Bases.{Groebner}
use Rattle.groebner.proofs.Modules.{Module, self, functions, equal-of-difference, opposite-unique}
use Rattle.groebner.proofs.Linear.{all_map, all_true, all-scale, all-expand, lin, lin-append, lin-negate, lin-relabel, lin-expand, lin-on, coef-lin, lin-same}
use Rattle.groebner.proofs.Terms.{coef-minus}
use Rattle.groebner.proofs.NormalForms.{Pick, found, stuck, Rewriting, rule, rule_multiple, nf, NF, nf-found, nf-stuck, nf-irreducible, NF-fixed, Irreducible, rules_combined, Member, member-same, member-shift, residue-member}
use Rattle.groebner.proofs.SPairs.{combination-zero}
use Rattle.groebner.proofs.Ground.{PolynomialRing, divides-trans}
use Rattle.groebner.proofs.Division.{LinePlace, rewriting, shift-below}
use Rattle.groebner.proofs.Ideals.{member-line}
use Rattle.groebner.proofs.GroebnerBases.{groebner-NF}
use Rattle.groebner.proofs.Images.{lin-at, 𝓕, image, image-NF}

pub lin-single : {F M W : Type 0} {R : Arithmetic F} (𝓥 : Module R W) (L : M → W) (m : M) → lin 𝓥 L ((R.one, m) ∷ []) ≡ L m
unfolding lin
lin-single 𝓥 L m = 𝓥.plus_null _ ∙ 𝓥.act_one (L m)

-- The coefficients of the monomial b.
abbrev pub unit_coefficients : {F M : Type 0} → Arithmetic F → Monomials M → M → M → F
unit_coefficients R 𝓜 b k = δ R 𝓜 k b

pub lin-unit : {F M : Type 0} {R : Arithmetic F} (ring : Ring R) (𝓜 : Monomials M) (f : Poly F M) → lin (functions M (self ring)) (unit_coefficients R 𝓜) f ≡ coef R 𝓜 f
lin-unit {R = R} ring 𝓜 f = fun_ext (λ k. lin-at ring (unit_coefficients R 𝓜) f k ∙ sym (coef-lin ring 𝓜 f k))

module _ {F M : Type 0} {R : Arithmetic F} {𝓜 : Monomials M} {lt : M → M → Type 0} (𝓟 : PolynomialRing R 𝓜) (ord : MonomialOrder 𝓜 lt) (G : List (Line F M)) (low : Low lt G) where
  open 𝓜 use {mul as prod}
  open 𝓟 use {field, monoid}
  open field use {ring}

  abbrev S : Rewriting R 𝓜 (LinePlace G)
  S = rewriting 𝓟 ord G low

  -- A multiple of a reducible monomial is reducible.
  pub reducible-multiple : {k : M} (u m : M) → k ≡ prod u m → Reducible 𝓜 G m → Reducible 𝓜 G k
  reducible-multiple u m q r = (r.0, r.1, divides-trans monoid r.2 (u, q))

  pub irreducible-divisor : {k : M} (u m : M) → k ≡ prod u m → ¬ Reducible 𝓜 G k → ¬ Reducible 𝓜 G m
  irreducible-divisor u m q s r = s (reducible-multiple u m q r)

  pub not-reducible : (m : M) → Irreducible S m → ¬ Reducible 𝓜 G m
  not-reducible m h r = h (r.0, r.1) r.2.0 r.2.1

  pub coefficient-irreducible : (m : M) → All {F = F} (λ k. ¬ Reducible 𝓜 G k) (nf S m)
  coefficient-irreducible m = all_map not-reducible (nf-irreducible S m)

  -- A map under which the multiples of the lines vanish.
  module _ {W : Type 0} (𝓥 : Module R W) (Φ : M → W) (lines : (u : M) (g : Line F M) → g ∈ G → lin 𝓥 Φ (shift 𝓜 u (polynomial R g)) ≡ 𝓥.null) where
    pub ideal-vanishes : (f : Poly F M) → Member S (coef R 𝓜 f) → lin 𝓥 Φ f ≡ 𝓥.null
    unfolding rule_multiple rule polynomial
    ideal-vanishes f a = lin-same ring 𝓜 𝓥 Φ f (rules_combined S a.0) a.1 ∙ combination-zero S 𝓥 Φ (all_true (λ x. lines x.0 x.1.0 x.1.1) a.0)

    pub NF-value : (f : Poly F M) → lin 𝓥 Φ (NF S f) ≡ lin 𝓥 Φ f
    NF-value f = sym (equal-of-difference 𝓥 _ _ (ap (𝓥.plus (lin 𝓥 Φ f)) (sym (lin-negate 𝓥 Φ (NF S f))) ∙ sym (lin-append 𝓥 Φ f (negate R (NF S f)))
        ∙ ideal-vanishes (f ++ negate R (NF S f)) (member-same S _ _ (coef-minus ring 𝓜 f (NF S f)) (residue-member S f))))

    pub nf-value : (m : M) → lin 𝓥 Φ (nf S m) ≡ Φ m
    unfolding NF
    nf-value m = sym (lin-single 𝓥 (λ k. lin 𝓥 Φ (nf S k)) m) ∙ sym (lin-expand 𝓥 Φ (nf S) ((R.one, m) ∷ [])) ∙ NF-value ((R.one, m) ∷ []) ∙ lin-single 𝓥 Φ m

  -- The normal form of a reducible monomial lies below it.
  Upto : M → M → Type 0
  Upto m k = (k ≡ m) ⊎ lt k m

  below_step : (m : M) → ((y : M) → lt y m → All {F = F} (Upto y) (nf S y)) → (p : Pick prod S.lead m) → S.pick m ≡ p → Reducible 𝓜 G m → All {F = F} (λ k. lt k m) (nf S m)
  unfolding NF negate Upto
  below_step m ih (stuck h) q r = absurd (not-reducible m h r)
  below_step m ih (found i u e) q r = rw (nf-found S m i u e q) (all-scale R _ (all-expand R (nf S) (all_map each (shift-below 𝓟 ord G low i.0 i.1 u))))
    where
      each : (y : M) → lt y (prod u i.0.0) → All {F = F} (λ k. lt k m) (nf S y)
      each y l = let h : lt y m = rw e l in all_map (λ k. ⊎_elim (λ z. subst (λ x. lt x m) (sym z) h) (λ z. ord.trans z h)) (ih y h)

  nf-upto : (m : M) → All {F = F} (Upto m) (nf S m)
  unfolding Upto
  nf-upto m = induction ord.wf {C = λ m. All {F = F} (Upto m) (nf S m)} m (λ m ih. go m ih (S.pick m) refl)
    where
      go : (m : M) → ((y : M) → lt y m → All {F = F} (Upto y) (nf S y)) → (p : Pick prod S.lead m) → S.pick m ≡ p → All {F = F} (Upto m) (nf S m)
      go m ih (stuck h) q = rw (nf-stuck S m h q) (all_cons (inl refl) all_nil)
      go m ih (found i u e) q = all_map (λ k h. inr h) (below_step m ih (found i u e) q (i.0, i.1, (u, e)))

  pub nf-below : (m : M) → Reducible 𝓜 G m → All {F = F} (λ k. lt k m) (nf S m)
  nf-below m r = below_step m (λ y _. nf-upto y) (S.pick m) refl r

  abbrev 𝓒 : Module R (M → F)
  𝓒 = 𝓕 𝓟 ord G low

  abbrev N : M → M → F
  N = image 𝓟 ord G low

  lin-image : (f : Poly F M) → lin 𝓒 N f ≡ coef R 𝓜 (NF S f)
  lin-image f = fun_ext (image-NF 𝓟 ord G low f)

  pub image-unit : (m : M) → ¬ Reducible 𝓜 G m → N m ≡ unit_coefficients R 𝓜 m
  image-unit m s = sym (lin-single 𝓒 N m) ∙ lin-image ((R.one, m) ∷ []) ∙ fun_ext (NF-fixed S ((R.one, m) ∷ []) (all_cons (λ i u e. s (i.0, i.1, (u, e))) all_nil))
      ∙ sym (lin-unit ring 𝓜 ((R.one, m) ∷ [])) ∙ lin-single 𝓒 (unit_coefficients R 𝓜) m

  -- Of a Groebner basis.
  module _ (gb : Groebner R 𝓜 lt G) where
    pub image-zero : (f : Poly F M) → Member S (coef R 𝓜 f) → lin 𝓒 N f ≡ 𝓒.null
    unfolding functions self
    image-zero f a = lin-image f ∙ fun_ext (groebner-NF 𝓟 ord G low gb f a)

    -- The normal form of u·m is that of u times the normal form of m.
    pub image-shift : (u m : M) → lin 𝓒 (λ k. N (prod u k)) (nf S m) ≡ N (prod u m)
    image-shift u m = nf-value 𝓒 (λ k. N (prod u k)) (λ v g p. sym (lin-relabel 𝓒 N (prod u) (shift 𝓜 v (polynomial R g)))
        ∙ image-zero (shift 𝓜 u (shift 𝓜 v (polynomial R g))) (member-shift S u (shift 𝓜 v (polynomial R g)) (member-shift S v (polynomial R g) (member-line 𝓟 ord G low g p)))) m

    pub image-lead : (g : Line F M) → g ∈ G → All (λ m. ¬ Reducible 𝓜 G m) g.1 → N g.0 ≡ 𝓒.opposite (coef R 𝓜 g.1)
    unfolding polynomial lin
    image-lead g p a = opposite-unique 𝓒 _ _ (𝓒.plus_comm _ _ ∙ ap₂ 𝓒.plus (sym (𝓒.act_one (N g.0))) (sym (lin-on 𝓒 N (unit_coefficients R 𝓜) image-unit a ∙ lin-unit ring 𝓜 g.1))
        ∙ image-zero (polynomial R g) (member-line 𝓟 ord G low g p))
