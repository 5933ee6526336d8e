-- Normal forms: the linear extension of the rewriting of single monomials.
--   Pick prod lead m      what divides m: a line and a cofactor, or nothing
--   Rewriting R 𝓜 I       an order and monic lines, one for each i of I, with a chosen line for each monomial that some line divides
--   rule S i              the polynomial of line i
--   rule_multiple S u i   u times line i
--   nf S m, NF S f        the normal form of a monomial, of a polynomial
--   nfc S k m             the coefficient of k in the normal form of m
--   Irreducible S m       no leading monomial divides m
--   rules_combined S c    Σ c·u·line i over the terms c·(u, i) of c
--   Member S v            the coefficients v are those of an element of the ideal, a combination of multiples
-- Of normal forms: nf-found, nf-stuck, NF-coef, NF-same, nf-irreducible, NF-irreducible, NF-fixed, chosen
-- Of the ideal: member-zero, member-add, member-scale, member-neg, member-multiple, member-same, member-lin, member-shift
-- A polynomial and its normal form: residue, residue-monomial, member-of-NF
-- Of multiples and combinations: multiple-prod, coef-combination
use mathlib.Core.Path.{◌≡◌, refl, sym, ◌∙◌, ap, ap₂, subst, fun_ext}
use mathlib.Core.List.{[], ◌∷◌, ◌++◌}
use mathlib.Core.WellFounded.{WellFounded, induction, fix, fix-eq}
use Rattle.residue.specs.Field.{Arithmetic}
use Rattle.residue.specs.RingLaws.{Ring}
use Rattle.monomial.specs.Ordering.{Monomials}
use Rattle.monomial.proofs.OrderLaws.{MonomialLaws}
use Rattle.groebner.specs.Polynomials.{Poly, All, all_nil, all_cons, relabel, scale, negate, shift, expand, δ, coef, Same}
use Rattle.groebner.proofs.Modules.{Module, self, exchange-difference, opposite-null}
use Rattle.groebner.proofs.Linear.{all_map, all_true, all-scale, all-relabel, all-expand, lin, lin-append, lin-scale, lin-negate, lin-relabel, lin-expand, lin-on, lin-plus, lin-opposite, coef-lin, lin-same}
use Rattle.groebner.proofs.Terms.{coef-negate, coef-shift}

-- What divides m, if anything does.
pub data Pick {I M : Type 0} (prod : M → M → M) (lead : I → M) (m : M) : Type 0 where
  found : (i : I) (u : M) → m ≡ prod u (lead i) → Pick prod lead m
  stuck : ((i : I) (u : M) → ¬ (m ≡ prod u (lead i))) → Pick prod lead m

-- A well-founded order and monic lines lead + tail whose tails are below, with a choice of a line for each monomial that some line divides.
pub record Rewriting {F M : Type 0} (R : Arithmetic F) (𝓜 : Monomials M) (I : Type 0) : Type 1 where
  pub ring : Ring R
  pub monoid : MonomialLaws 𝓜
  pub lt : M → M → Type 0
  pub wf : WellFounded lt
  pub mono : (u : M) {a b : M} → lt a b → lt (𝓜.mul u a) (𝓜.mul u b)
  pub lead : I → M
  pub tail : I → Poly F M
  pub small : (i : I) → All (λ m. lt m (lead i)) (tail i)
  pub pick : (m : M) → Pick 𝓜.mul lead m

-- The linear extension of a map that is defined only where P holds.
module _ {F : Type 0} (R : Arithmetic F) {M : Type 0} {P : M → Type 0} where
  expand-below : {f : Poly F M} → All P f → ((m : M) → P m → Poly F M) → Poly F M
  expand-below all_nil n = []
  expand-below (all_cons {t = t} p a) n = scale R t.0 (n t.1 p) ++ expand-below a n

  expand-below-expand : (n : M → Poly F M) {f : Poly F M} (a : All P f) → expand-below a (λ m _. n m) ≡ expand R n f
  unfolding expand-below expand
  expand-below-expand n all_nil = refl
  expand-below-expand n (all_cons {t = t} p a) = ap (λ g. scale R t.0 (n t.1) ++ g) (expand-below-expand n a)

module _ {F M I : Type 0} {R : Arithmetic F} {𝓜 : Monomials M} (S : Rewriting R 𝓜 I) where
  open 𝓜 use {mul as prod}
  open S use {ring, monoid, lt, wf, mono, lead, tail, small, pick}

  unfoldable pub rule : I → Poly F M
  rule i = (R.one, lead i) ∷ tail i

  unfoldable pub rule_multiple : M → I → Poly F M
  rule_multiple u i = relabel (prod u) (rule i)

  lower : {m : M} (i : I) (u : M) → m ≡ prod u (lead i) → All (λ x. lt x m) (relabel (prod u) (tail i))
  lower i u e = all-relabel (λ x. lt x _) (prod u) (all_map (λ x h. subst (lt (prod u x)) (sym e) (mono u h)) (small i))

  reduce : (m : M) → ((y : M) → lt y m → Poly F M) → Pick prod lead m → Poly F M
  reduce m n (found i u e) = negate R (expand-below R (lower i u e) n)
  reduce m n (stuck _) = (R.one, m) ∷ []

  pub nf : M → Poly F M
  nf = fix wf (λ m n. reduce m n (pick m))

  nf-eq : (m : M) → nf m ≡ reduce m (λ y _. nf y) (pick m)
  unfolding nf
  nf-eq m = fix-eq wf (λ m n. reduce m n (pick m)) m

  unfoldable pub NF : Poly F M → Poly F M
  NF f = expand R nf f

  pub nf-found : (m : M) (i : I) (u : M) (e : m ≡ prod u (lead i)) → pick m ≡ found i u e → nf m ≡ negate R (NF (relabel (prod u) (tail i)))
  unfolding reduce NF
  nf-found m i u e p = nf-eq m ∙ ap (reduce m (λ y _. nf y)) p ∙ ap (negate R) (expand-below-expand R nf (lower i u e))

  pub nf-stuck : (m : M) (h : (i : I) (u : M) → ¬ (m ≡ prod u (lead i))) → pick m ≡ stuck h → nf m ≡ (R.one, m) ∷ []
  unfolding reduce
  nf-stuck m h p = nf-eq m ∙ ap (reduce m (λ y _. nf y)) p

  module _ {W : Type 0} (𝓥 : Module R W) where
    open 𝓥 use {null, plus, opposite, act, plus_assoc, plus_comm, plus_null, plus_opposite}

    pub multiple-prod : (L : M → W) (w a : M) (i : I) → lin 𝓥 L (rule_multiple (prod w a) i) ≡ lin 𝓥 (λ m. L (prod w m)) (rule_multiple a i)
    unfolding rule_multiple
    multiple-prod L w a i = lin-relabel 𝓥 L (prod (prod w a)) (rule i) ∙ ap (λ K. lin 𝓥 K (rule i)) (fun_ext (λ m. ap L (monoid.mul_assoc w a m))) ∙ sym (lin-relabel 𝓥 (λ m. L (prod w m)) (prod a) (rule i))

  -- Σ c·x·line k
  unfoldable pub rules_combined : Poly F (M × I) → Poly F M
  rules_combined = expand R (λ x. rule_multiple x.0 x.1)

  -- The coefficient at k of the normal form is such a map.
  abbrev pub nfc : M → M → F
  nfc k m = coef R 𝓜 (nf m) k

  pub NF-coef : (f : Poly F M) (k : M) → coef R 𝓜 (NF f) k ≡ lin (self ring) (nfc k) f
  unfolding NF
  NF-coef f k = coef-lin ring 𝓜 (NF f) k ∙ lin-expand (self ring) (δ R 𝓜 k) nf f ∙ ap (λ L. lin (self ring) L f) (fun_ext (λ m. sym (coef-lin ring 𝓜 (nf m) k)))

  -- Polynomials with the same coefficients have the same normal form.
  pub NF-same : (f g : Poly F M) → Same R 𝓜 f g → Same R 𝓜 (NF f) (NF g)
  NF-same f g h k = NF-coef f k ∙ lin-same ring 𝓜 (self ring) _ f g h ∙ sym (NF-coef g k)

  nfc-found : (k m : M) (i : I) (u : M) (e : m ≡ prod u (lead i)) → pick m ≡ found i u e → nfc k m ≡ R.neg (lin (self ring) (nfc k) (relabel (prod u) (tail i)))
  nfc-found k m i u e p = ap (λ f. coef R 𝓜 f k) (nf-found m i u e p) ∙ coef-negate ring 𝓜 (NF (relabel (prod u) (tail i))) k ∙ ap R.neg (NF-coef (relabel (prod u) (tail i)) k)

  nfc-stuck : (k m : M) (h : (i : I) (u : M) → ¬ (m ≡ prod u (lead i))) → pick m ≡ stuck h → nfc k m ≡ δ R 𝓜 k m
  unfolding coef self
  nfc-stuck k m h p = ap (λ f. coef R 𝓜 f k) (nf-stuck m h p) ∙ ring.add_zero _ ∙ (self ring).act_one (δ R 𝓜 k m)

  lin-multiple : (L : M → F) (u : M) (i : I) → lin (self ring) L (rule_multiple u i) ≡ R.add (L (prod u (lead i))) (lin (self ring) L (relabel (prod u) (tail i)))
  unfolding rule_multiple rule lin relabel self
  lin-multiple L u i = ap₂ R.add ((self ring).act_one (L (prod u (lead i)))) refl

  pub chosen-vanishes : (k m : M) (i : I) (u : M) (e : m ≡ prod u (lead i)) → pick m ≡ found i u e → lin (self ring) (nfc k) (rule_multiple u i) ≡ R.zero
  chosen-vanishes k m i u e p = lin-multiple (nfc k) u i ∙ ap₂ R.add (ap (nfc k) (sym e) ∙ nfc-found k m i u e p) refl ∙ ring.add_comm _ _ ∙ ring.add_neg _

  -- The ideal: the span of the multiples.
  abbrev pub Member : (M → F) → Type 0
  Member v = (c : Poly F (M × I)) × ((k : M) → v k ≡ coef R 𝓜 (rules_combined c) k)

  pub coef-combination : (c : Poly F (M × I)) (k : M) → coef R 𝓜 (rules_combined c) k ≡ lin (self ring) (λ x. coef R 𝓜 (rule_multiple x.0 x.1) k) c
  unfolding rules_combined
  coef-combination c k = coef-lin ring 𝓜 (rules_combined c) k ∙ lin-expand (self ring) (δ R 𝓜 k) (λ x. rule_multiple x.0 x.1) c
      ∙ ap (λ L. lin (self ring) L c) (fun_ext (λ x. sym (coef-lin ring 𝓜 (rule_multiple x.0 x.1) k)))

  pub member-zero : Member (λ _. R.zero)
  unfolding rules_combined coef expand lin self
  member-zero = ([], λ k. refl)

  pub member-add : (v w : M → F) → Member v → Member w → Member (λ k. R.add (v k) (w k))
  unfolding self
  member-add v w a b = (a.0 ++ b.0, λ k. ap₂ R.add (a.1 k ∙ coef-combination a.0 k) (b.1 k ∙ coef-combination b.0 k) ∙ sym (lin-append (self ring) _ a.0 b.0) ∙ sym (coef-combination (a.0 ++ b.0) k))

  pub member-scale : (c : F) (v : M → F) → Member v → Member (λ k. R.mul c (v k))
  unfolding self
  member-scale c v a = (scale R c a.0, λ k. ap (R.mul c) (a.1 k ∙ coef-combination a.0 k) ∙ sym (lin-scale (self ring) _ c a.0) ∙ sym (coef-combination (scale R c a.0) k))

  pub member-neg : (v : M → F) → Member v → Member (λ k. R.neg (v k))
  unfolding self
  member-neg v a = (negate R a.0, λ k. ap R.neg (a.1 k ∙ coef-combination a.0 k) ∙ sym (lin-negate (self ring) _ a.0) ∙ sym (coef-combination (negate R a.0) k))

  pub member-multiple : (u : M) (i : I) → Member (λ k. coef R 𝓜 (rule_multiple u i) k)
  unfolding lin self
  member-multiple u i = ((R.one, (u, i)) ∷ [], λ k. sym (coef-combination ((R.one, (u, i)) ∷ []) k ∙ ring.add_zero _ ∙ (self ring).act_one _))

  pub member-same : (v w : M → F) → ((k : M) → v k ≡ w k) → Member w → Member v
  member-same v w h a = (a.0, λ k. h k ∙ a.1 k)

  pub member-lin : {N : Type 0} (E : M → N → F) {f : Poly F N} → All (λ m. Member (λ k. E k m)) f → Member (λ k. lin (self ring) (E k) f)
  unfolding lin self
  member-lin E all_nil = member-zero
  member-lin E (all_cons {t = t} h a) = member-add _ _ (member-scale t.0 (λ k. E k t.1) h) (member-lin E a)

  abbrev resid : M → M → F
  resid k m = R.add (δ R 𝓜 k m) (R.neg (nfc k m))

  lin-resid : (f : Poly F M) (k : M) → lin (self ring) (resid k) f ≡ R.add (coef R 𝓜 f k) (R.neg (lin (self ring) (nfc k) f))
  unfolding self
  lin-resid f k = lin-plus (self ring) (δ R 𝓜 k) (λ m. R.neg (nfc k m)) f ∙ ap₂ R.add (sym (coef-lin ring 𝓜 f k)) (lin-opposite (self ring) (nfc k) f)

  residue-step : (m : M) → ((y : M) → lt y m → Member (λ k. resid k y)) → (p : Pick prod lead m) → pick m ≡ p → Member (λ k. resid k m)
  unfolding self
  residue-step m ih (stuck h) q = member-same _ _ (λ k. ap (λ x. R.add (δ R 𝓜 k m) (R.neg x)) (nfc-stuck k m h q) ∙ ring.add_neg _) member-zero
  residue-step m ih (found i u e) q = member-same _ _ eq (member-add _ _ (member-multiple u i) (member-neg _ (member-lin resid {f = T} (all_map ih (lower i u e)))))
    where
      T : Poly F M
      T = relabel (prod u) (tail i)

      eq : (k : M) → resid k m ≡ R.add (coef R 𝓜 (rule_multiple u i) k) (R.neg (lin (self ring) (resid k) T))
      eq k = ap₂ R.add (ap (δ R 𝓜 k) e) (ap R.neg (nfc-found k m i u e q)) ∙ exchange-difference (self ring) (δ R 𝓜 k (prod u (lead i))) (coef R 𝓜 T k) (lin (self ring) (nfc k) T)
          ∙ ap₂ R.add (sym (coef-lin ring 𝓜 (rule_multiple u i) k ∙ lin-multiple (δ R 𝓜 k) u i ∙ ap (R.add _) (sym (coef-lin ring 𝓜 T k)))) (ap R.neg (sym (lin-resid T k)))

  pub residue-monomial : (m : M) → Member (λ k. resid k m)
  residue-monomial m = induction wf {C = λ m. Member (λ k. resid k m)} m (λ m ih. residue-step m ih (pick m) refl)

  -- A polynomial and its normal form differ by an element of the ideal.
  pub residue-member : (f : Poly F M) → Member (λ k. R.add (coef R 𝓜 f k) (R.neg (coef R 𝓜 (NF f) k)))
  residue-member f = member-same _ _ (λ k. ap (λ x. R.add (coef R 𝓜 f k) (R.neg x)) (NF-coef f k) ∙ sym (lin-resid f k)) (member-lin resid {f = f} (all_true residue-monomial f))

  abbrev pub Irreducible : M → Type 0
  Irreducible m = (i : I) (u : M) → ¬ (m ≡ prod u (lead i))

  nf-irreducible-step : (m : M) → ((y : M) → lt y m → All {F = F} Irreducible (nf y)) → (p : Pick prod lead m) → pick m ≡ p → All {F = F} Irreducible (nf m)
  unfolding NF negate
  nf-irreducible-step m ih (stuck h) q = rw (nf-stuck m h q) (all_cons h all_nil)
  nf-irreducible-step m ih (found i u e) q = rw (nf-found m i u e q) (all-scale R _ (all-expand R nf (all_map ih (lower i u e))))

  pub nf-irreducible : (m : M) → All {F = F} Irreducible (nf m)
  nf-irreducible m = induction wf {C = λ m. All {F = F} Irreducible (nf m)} m (λ m ih. nf-irreducible-step m ih (pick m) refl)

  pub NF-irreducible : (f : Poly F M) → All Irreducible (NF f)
  unfolding NF
  NF-irreducible f = all-expand R nf (all_true nf-irreducible f)

  nfc-irreducible : (k m : M) → Irreducible m → (p : Pick prod lead m) → pick m ≡ p → nfc k m ≡ δ R 𝓜 k m
  nfc-irreducible k m h (stuck h') q = nfc-stuck k m h' q
  nfc-irreducible k m h (found i u e) q = absurd (h i u e)

  pub NF-fixed : (f : Poly F M) → All Irreducible f → Same R 𝓜 (NF f) f
  NF-fixed f a k = NF-coef f k ∙ lin-on (self ring) (nfc k) (δ R 𝓜 k) (λ m h. nfc-irreducible k m h (pick m) refl) a ∙ sym (coef-lin ring 𝓜 f k)

  -- The ideal is closed under multiplication by a monomial.
  pub member-shift : (u : M) (f : Poly F M) → Member (coef R 𝓜 f) → Member (coef R 𝓜 (shift 𝓜 u f))
  unfolding rules_combined
  member-shift u f a = (
    c',
    λ k. coef-shift ring 𝓜 u f k ∙ lin-same ring 𝓜 (self ring) (λ m. δ R 𝓜 k (prod u m)) f (rules_combined a.0) a.1
        ∙ lin-expand (self ring) (λ m. δ R 𝓜 k (prod u m)) (λ x. rule_multiple x.0 x.1) a.0
        ∙ ap (λ L. lin (self ring) L a.0) (fun_ext (λ x. sym (multiple-prod (self ring) (δ R 𝓜 k) u x.0 x.1) ∙ sym (coef-lin ring 𝓜 (rule_multiple (prod u x.0) x.1) k)))
        ∙ sym (lin-relabel (self ring) (λ x. coef R 𝓜 (rule_multiple x.0 x.1) k) move a.0) ∙ sym (coef-combination c' k),
  )
    where
      move : M × I → M × I
      move x = (prod u x.0, x.1)

      c' : Poly F (M × I)
      c' = relabel move a.0

  pub member-of-NF : (f : Poly F M) → ((k : M) → coef R 𝓜 (NF f) k ≡ R.zero) → Member (coef R 𝓜 f)
  unfolding self
  member-of-NF f h = member-same _ _ (λ k. sym (ap (λ x. R.add (coef R 𝓜 f k) (R.neg x)) (h k) ∙ ap (R.add (coef R 𝓜 f k)) (opposite-null (self ring)) ∙ ring.add_zero _)) (residue-member f)
