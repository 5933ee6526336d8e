-- The ideal of 001 is the span of the monomial multiples of the lines.
--   Ideals by definition 1.1 of 001: ideal-zero (i), ideal-add (ii), ideal-times (iii); generators: ideal-gen; ideal-same
--   member-line, member-of-ideal, ideal-of-member: the ideal of the lines is that of their rewriting system
--   coef-combination-nil, coef-combination-cons: the coefficients of a rules_combined of their multiples
--   add_cofactors, times-append, coef-add-cofactors   cofactors, added one by one
--   cofactor_at, coef-cofactor-at                     a cofactor at one generator
use mathlib.Core.Path.{◌≡◌, refl, sym, ◌∙◌, ap, ap₂, subst, fun_ext}
use mathlib.Core.List.Memᴰ
use mathlib.Core.List.{List, [], ◌∷◌, ◌++◌, map}
use Rattle.lists.specs.Lists.{◌∈◌}
use Rattle.residue.specs.Field.{Arithmetic}
use Rattle.residue.specs.RingLaws.{Ring}
use Rattle.monomial.specs.Ordering.{Monomials}
use Rattle.monomial.proofs.OrderLaws.{MonomialOrder}
use Rattle.groebner.specs.Polynomials.{Poly, scale, expand, shift, times, δ, coef, Same}
use Rattle.groebner.specs.Lines.{Line, polynomial}
use Rattle.groebner.specs.Criteria.{Low}
use Rattle.groebner.specs.Ideals.{combine, Ideal, IdealOf}
use Rattle.groebner.proofs.Modules.{self, plus-medial, zero-add}
use Rattle.groebner.proofs.Linear.{all_true, lin, lin-append, coef-lin}
use Rattle.groebner.proofs.Terms.{coef-nil, coef-append, coef-shift, coef-times}
use Rattle.groebner.proofs.NormalForms.{Rewriting, rule, rule_multiple, rules_combined, Member, member-zero, member-add, member-multiple, member-same, member-lin, member-shift}
use Rattle.groebner.proofs.Ground.{PolynomialRing}
use Rattle.groebner.proofs.Division.{LinePlace, rewriting}

-- Sums of cofactors.
module _ {F M : Type 0} {R : Arithmetic F} (ring : Ring R) (𝓜 : Monomials M) where
  open R use {zero as 𝟘, add}

  -- Cofactors, added one by one.
  unfoldable pub add_cofactors : List (Poly F M) → List (Poly F M) → List (Poly F M)
  add_cofactors [] ss = ss
  add_cofactors (r ∷ rs) [] = r ∷ rs
  add_cofactors (r ∷ rs) (s ∷ ss) = (r ++ s) ∷ add_cofactors rs ss

  pub times-append : (r s f : Poly F M) (k : M) → coef R 𝓜 (times R 𝓜 (r ++ s) f) k ≡ add (coef R 𝓜 (times R 𝓜 r f) k) (coef R 𝓜 (times R 𝓜 s f) k)
  unfolding self
  times-append r s f k = coef-times ring 𝓜 (r ++ s) f k ∙ lin-append (self ring) _ r s ∙ ap₂ add (sym (coef-times ring 𝓜 r f k)) (sym (coef-times ring 𝓜 s f k))

  pub coef-add-cofactors : (rs ss fs : List (Poly F M)) (k : M) → coef R 𝓜 (combine R 𝓜 (add_cofactors rs ss) fs) k ≡ add (coef R 𝓜 (combine R 𝓜 rs fs) k) (coef R 𝓜 (combine R 𝓜 ss fs) k)
  unfolding add_cofactors self
  coef-add-cofactors [] ss fs k = sym (ap₂ add (coef-nil ring 𝓜 k) refl ∙ zero-add ring _)
  coef-add-cofactors (r ∷ rs) [] fs k = sym (ap (add (coef R 𝓜 (combine R 𝓜 (r ∷ rs) fs) k)) (coef-nil ring 𝓜 k) ∙ ring.add_zero _)
  coef-add-cofactors (r ∷ rs) (s ∷ ss) [] k = coef-nil ring 𝓜 k ∙ sym (ap₂ add (coef-nil ring 𝓜 k) (coef-nil ring 𝓜 k) ∙ ring.add_zero 𝟘)
  coef-add-cofactors (r ∷ rs) (s ∷ ss) (f ∷ fs) k = coef-append ring 𝓜 _ _ k ∙ ap₂ add (times-append r s f k) (coef-add-cofactors rs ss fs k)
      ∙ plus-medial (self ring) _ _ _ _ ∙ sym (ap₂ add (coef-append ring 𝓜 _ _ k) (coef-append ring 𝓜 _ _ k))

  -- The cofactor r at one generator, zero at the others.
  unfoldable pub cofactor_at : {f : Poly F M} {fs : List (Poly F M)} → f ∈ fs → Poly F M → List (Poly F M)
  cofactor_at (Memᴰ.head e) r = r ∷ []
  cofactor_at (Memᴰ.tail p) r = [] ∷ cofactor_at p r

  pub coef-cofactor-at : {f : Poly F M} {fs : List (Poly F M)} (p : f ∈ fs) (r : Poly F M) (k : M) → coef R 𝓜 (combine R 𝓜 (cofactor_at p r) fs) k ≡ coef R 𝓜 (times R 𝓜 r f) k
  unfolding cofactor_at expand
  coef-cofactor-at (Memᴰ.head e) r k = coef-append ring 𝓜 _ [] k ∙ ap₂ add (ap (λ f. coef R 𝓜 (times R 𝓜 r f) k) (sym e)) (coef-nil ring 𝓜 k) ∙ ring.add_zero _
  coef-cofactor-at (Memᴰ.tail p) r k = coef-cofactor-at p r k

  pub ideal-zero : (fs : List (Poly F M)) (f : Poly F M) → ((k : M) → coef R 𝓜 f k ≡ 𝟘) → Ideal R 𝓜 fs f
  ideal-zero fs f h = ([], λ k. h k ∙ sym (coef-nil ring 𝓜 k))

  pub ideal-add : (fs : List (Poly F M)) (f g h : Poly F M) → ((k : M) → coef R 𝓜 h k ≡ add (coef R 𝓜 f k) (coef R 𝓜 g k)) → Ideal R 𝓜 fs f → Ideal R 𝓜 fs g → Ideal R 𝓜 fs h
  ideal-add fs f g h e a b = (add_cofactors a.0 b.0, λ k. e k ∙ ap₂ add (a.1 k) (b.1 k) ∙ sym (coef-add-cofactors a.0 b.0 fs k))

  pub ideal-gen : (fs : List (Poly F M)) (f : Poly F M) → f ∈ fs → (r h : Poly F M) → Same R 𝓜 h (times R 𝓜 r f) → Ideal R 𝓜 fs h
  ideal-gen fs f p r h e = (cofactor_at p r, λ k. e k ∙ sym (coef-cofactor-at p r k))

  pub ideal-same : (fs : List (Poly F M)) (f g : Poly F M) → Same R 𝓜 f g → Ideal R 𝓜 fs g → Ideal R 𝓜 fs f
  ideal-same fs f g h a = (a.0, λ k. h k ∙ a.1 k)

module _ {F M : Type 0} {R : Arithmetic F} {𝓜 : Monomials M} {lt : M → M → Type 0} (𝓟 : PolynomialRing R 𝓜) (ord : MonomialOrder 𝓜 lt) (G : List (Line F M)) (low : Low lt G) where
  open R use {zero as 𝟘, one as 𝟙, add}
  open 𝓟 use {field, monoid}
  open field use {ring}

  abbrev S : Rewriting R 𝓜 (LinePlace G)
  S = rewriting 𝓟 ord G low

  pub member-line : (g : Line F M) → g ∈ G → Member S (coef R 𝓜 (polynomial R g))
  unfolding rule_multiple rule polynomial
  member-line g p = member-same S _ _ (λ k. coef-lin ring 𝓜 ((𝟙, g.0) ∷ g.1) k ∙ sym (coef-shift ring 𝓜 𝓜.one ((𝟙, g.0) ∷ g.1) k
      ∙ ap (λ L. lin (self ring) L ((𝟙, g.0) ∷ g.1)) (fun_ext (λ m. ap (δ R 𝓜 k) (monoid.one_mul m))))) (member-multiple S 𝓜.one (g, p))

  member-times : (r f : Poly F M) → Member S (coef R 𝓜 f) → Member S (coef R 𝓜 (times R 𝓜 r f))
  member-times r f a = member-same S _ _ (coef-times ring 𝓜 r f) (member-lin S (λ k m. coef R 𝓜 (shift 𝓜 m f) k) (all_true (λ m. member-shift S m f a) r))

  member-combine : (rs fs : List (Poly F M)) → ((f : Poly F M) → f ∈ fs → Member S (coef R 𝓜 f)) → Member S (coef R 𝓜 (combine R 𝓜 rs fs))
  member-combine [] fs h = member-same S _ _ (coef-nil ring 𝓜) (member-zero S)
  member-combine (r ∷ rs) [] h = member-same S _ _ (coef-nil ring 𝓜) (member-zero S)
  member-combine (r ∷ rs) (f ∷ fs) h = member-same S _ _ (coef-append ring 𝓜 _ _) (member-add S _ _ (member-times r f (h f (Memᴰ.head refl))) (member-combine rs fs (λ x p. h x (Memᴰ.tail p))))

  pub member-of-ideal : (f : Poly F M) → IdealOf R 𝓜 G f → Member S (coef R 𝓜 f)
  member-of-ideal f a = member-same S _ _ a.1 (member-combine a.0 (map (polynomial R) G) each)
    where
      each : (h : Poly F M) → h ∈ map (polynomial R) G → Member S (coef R 𝓜 h)
      each h p = let q = Memᴰ.of_map (polynomial R) G p in subst (λ x. Member S (coef R 𝓜 x)) q.2 (member-line q.0 q.1)

  pub coef-combination-nil : (k : M) → coef R 𝓜 (rules_combined S []) k ≡ 𝟘
  unfolding rules_combined expand
  coef-combination-nil k = coef-nil ring 𝓜 k

  pub coef-combination-cons : (t : F × (M × LinePlace G)) (c : Poly F (M × LinePlace G)) (k : M)
      → coef R 𝓜 (rules_combined S (t ∷ c)) k ≡ add (coef R 𝓜 (scale R t.0 (rule_multiple S t.1.0 t.1.1)) k) (coef R 𝓜 (rules_combined S c) k)
  unfolding rules_combined expand
  coef-combination-cons t c k = coef-append ring 𝓜 _ _ k

  single : (c : F) (u : M) (i : LinePlace G) (k : M) → coef R 𝓜 (scale R c (rule_multiple S u i)) k ≡ coef R 𝓜 (times R 𝓜 ((c, u) ∷ []) (polynomial R i.0)) k
  unfolding expand rule_multiple rule polynomial
  single c u i k = sym (coef-append ring 𝓜 _ [] k ∙ ap (add _) (coef-nil ring 𝓜 k) ∙ ring.add_zero _)

  pub ideal-of-member : (f : Poly F M) → Member S (coef R 𝓜 f) → IdealOf R 𝓜 G f
  ideal-of-member f a = go a.0 f a.1
    where
      fs : List (Poly F M)
      fs = map (polynomial R) G

      go : (c : Poly F (M × LinePlace G)) (h : Poly F M) → ((k : M) → coef R 𝓜 h k ≡ coef R 𝓜 (rules_combined S c) k) → Ideal R 𝓜 fs h
      go [] h e = ideal-zero ring 𝓜 fs h (λ k. e k ∙ coef-combination-nil k)
      go (t ∷ c) h e = ideal-add ring 𝓜 fs (scale R t.0 (rule_multiple S t.1.0 t.1.1)) (rules_combined S c) h (λ k. e k ∙ coef-combination-cons t c k)
          (ideal-gen ring 𝓜 fs (polynomial R t.1.1.0) (Memᴰ.map (polynomial R) t.1.1.1) ((t.0, t.1.0) ∷ []) _ (single t.0 t.1.0 t.1.1))
          (go c (rules_combined S c) (λ k. refl))

  -- 001, definition 1.1 (iii); (i) and (ii) are ideal-zero and ideal-add.
  pub ideal-times : (h f : Poly F M) → IdealOf R 𝓜 G f → IdealOf R 𝓜 G (times R 𝓜 h f)
  ideal-times h f a = ideal-of-member (times R 𝓜 h f) (member-times h f (member-of-ideal f a))
