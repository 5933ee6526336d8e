-- Linear operators on coefficients that stand for the multiplication by the variables: they commute exactly if the lines are a Groebner basis.
--   Rule i b                 what the operator of x_i makes of b: x_i·b itself; minus the tail of the line that x_i·b leads; or, for b = x_j·c, what the
--                            operators of x_i and then of x_j make of c
--   Multiplication           operators by these rules, for lines with minimal leading monomials and irreducible tails
--   groebner-of-commuting    if such operators commute, the lines are a Groebner basis
--   operator-image           of a Groebner basis, the operator of x_i sends an irreducible b to the normal form of x_i·b
--   operator-next            and the normal form of m to that of x_i·m
--   commuting-of-groebner    so the operators commute on every irreducible b
use mathlib.Core.Path.{◌≡◌, refl, sym, ◌∙◌, ap, ap₂, fun_ext}
use mathlib.Core.List.{List}
use mathlib.Core.Logic.{⊎_elim, by_cases}
use mathlib.Core.WellFounded
use Prim.Native.Nat.{ℕ, ◌<◌}
use Rattle.lists.specs.Lists.{◌∈◌}
use Rattle.residue.specs.Field.{Arithmetic}
use Rattle.monomial.specs.Rows.{Row}
use Rattle.monomial.specs.Quotients.{variable}
use Rattle.monomial.specs.Ordering.{Divides, monomials}
use Rattle.monomial.proofs.OrderLaws.{MonomialOrder}
use Rattle.groebner.specs.Polynomials.{Poly, All, shift, coef}
use Rattle.groebner.specs.Lines.{Line, polynomial, Reducible}
use Rattle.groebner.specs.Criteria.{Low}
use Rattle.groebner.specs.Bases.{Groebner}
use Rattle.groebner.proofs.Modules.{Module, self, functions, opposite-plus-self}
use Rattle.groebner.proofs.Linear.{all_map, all_both, lin, lin-relabel, lin-on}
use Rattle.groebner.proofs.NormalForms.{Rewriting, nf, NF, NF-irreducible}
use Rattle.groebner.proofs.Ground.{PolynomialRing, not-below, divides-trans}
use Rattle.groebner.proofs.Division.{LinePlace, rewriting, reducible?}
use Rattle.groebner.proofs.Ideals.{member-of-ideal}
use Rattle.groebner.proofs.GroebnerBases.{groebner-of-zero, zero-remainder}
use Rattle.groebner.proofs.LinearMaps.{LinearMap, apply-null, apply-lin}
use Rattle.groebner.proofs.Images.{𝓕, image}
use Rattle.groebner.proofs.Variables.{apply_all, Commuting, apply-one, apply-variable, variable-induction, one-or-variable, variable-above, product-left-comm}
use Rattle.groebner.proofs.NormalCoefficients.{reducible-multiple, irreducible-divisor, not-reducible, ideal-vanishes, NF-value, nf-below, unit_coefficients, lin-unit, coefficient-irreducible, image-unit, image-shift, image-lead}

module _ {F : Type 0} {R : Arithmetic F} (n : ℕ) {lt : Row n → Row n → Type 0} (𝓟 : PolynomialRing R (monomials n)) (ord : MonomialOrder (monomials n) lt) (G : List (Line F (Row n))) (low : Low lt G)
    (operator : ℕ → LinearMap (𝓕 𝓟 ord G low) (𝓕 𝓟 ord G low)) where
  open monomials n use {mul as prod}
  open 𝓟 use {field, monoid}
  open field use {ring}

  abbrev x : ℕ → Row n
  x = variable n

  abbrev 𝓒 : Module R (Row n → F)
  𝓒 = 𝓕 𝓟 ord G low

  -- The operator of x_i.
  abbrev A : ℕ → (Row n → F) → Row n → F
  A i = (operator i).apply

  abbrev e : Row n → Row n → F
  e = unit_coefficients R (monomials n)

  abbrev S : Rewriting R (monomials n) (LinePlace G)
  S = rewriting 𝓟 ord G low

  -- The coefficients of the normal form.
  abbrev N : Row n → Row n → F
  N = image 𝓟 ord G low

  -- What the operator of x_i makes of b.
  pub data Rule (i : ℕ) (b : Row n) : Type 0 where
    unit_rule : ¬ Reducible (monomials n) G (prod (x i) b) → A i (e b) ≡ e (prod (x i) b) → Rule i b
    tail_rule : (g : Line F (Row n)) → g ∈ G → prod (x i) b ≡ g.0 → A i (e b) ≡ 𝓒.opposite (coef R (monomials n) g.1) → Rule i b
    product_rule : (j : ℕ) → j < n → (c : Row n) → b ≡ prod (x j) c → Reducible (monomials n) G (prod (x i) c) → A i (e b) ≡ A j (A i (e c)) → Rule i b

  pub record Multiplication : Type 0 where
    pub minimal : (g h : Line F (Row n)) → g ∈ G → h ∈ G → Divides (monomials n) g.0 h.0 → g ≡ h
    pub tails : (g : Line F (Row n)) → g ∈ G → All (λ m. ¬ Reducible (monomials n) G m) g.1
    pub rule : (i : ℕ) → i < n → (b : Row n) → ¬ Reducible (monomials n) G b → Rule i b

  module _ (multiplication : Multiplication) where
    open multiplication use {minimal, tails, rule}

    one_mul : (m : Row n) → m ≡ prod (monomials n).one m
    one_mul m = sym (monoid.one_mul m)

    left_comm : (a b c : Row n) → prod a (prod b c) ≡ prod b (prod a c)
    unfolding monomials
    left_comm = product-left-comm n

    above : (i : ℕ) → i < n → (m : Row n) → lt m (prod (x i) m)
    unfolding monomials
    above = variable-above n ord

    induction : (P : Row n → Type 0) → P (monomials n).one → ((i : ℕ) → i < n → (m : Row n) → P m → P (prod (x i) m)) → (m : Row n) → P m
    unfolding monomials
    induction = variable-induction n

    -- A leading monomial without one of its variables is irreducible.
    irreducible-below : (i : ℕ) → i < n → (b : Row n) (g : Line F (Row n)) → g ∈ G → prod (x i) b ≡ g.0 → ¬ Reducible (monomials n) G b
    irreducible-below i hi b g p q (h, r, d) = not-below ord d.0 h.0 (rw (← d.1, same) (rw q at (above i hi b)))
      where
        same : h ≡ g
        same = minimal h g r p (rw q at (divides-trans monoid d (x i, refl)))

    at_unit : (i : ℕ) (b : Row n) → ¬ Reducible (monomials n) G (prod (x i) b) → Rule i b → A i (e b) ≡ e (prod (x i) b)
    at_unit i b s (unit_rule _ h) = h
    at_unit i b s (tail_rule g p q h) = absurd (s (g, p, ((monomials n).one, q ∙ one_mul g.0)))
    at_unit i b s (product_rule j hj c q r h) = absurd (s (reducible-multiple 𝓟 ord G low (x j) (prod (x i) c) (ap (prod (x i)) q ∙ left_comm (x i) (x j) c) r))

    at-lead : (i : ℕ) → i < n → (b : Row n) (g : Line F (Row n)) → g ∈ G → prod (x i) b ≡ g.0 → Rule i b → A i (e b) ≡ 𝓒.opposite (coef R (monomials n) g.1)
    at-lead i hi b g p q (unit_rule s h) = absurd (s (g, p, ((monomials n).one, q ∙ one_mul g.0)))
    at-lead i hi b g p q (tail_rule g' p' q' h) = h ∙ ap (λ (z : Line F (Row n)). 𝓒.opposite (coef R (monomials n) z.1)) (minimal g' g p' p ((monomials n).one, sym q ∙ q' ∙ one_mul g'.0))
    at-lead i hi b g p q (product_rule j hj c q' r h) = absurd (irreducible-below j hj (prod (x i) c) g p (left_comm (x j) (x i) c ∙ ap (prod (x i)) (sym q') ∙ q) r)

    -- Commuting operators, applied to 1 as the exponents of m say: a map under which the multiples of the lines vanish.
    module _ (commuting : Commuting n A) (irreducible-one : ¬ Reducible (monomials n) G (monomials n).one) where
      Φ : Row n → Row n → F
      Φ m = apply_all n A m (e (monomials n).one)

      Φ-variable : (i : ℕ) → i < n → (m : Row n) → Φ (prod (x i) m) ≡ A i (Φ m)
      unfolding Φ monomials
      Φ-variable i h m = apply-variable n A commuting i h m _

      Φ-one : Φ (monomials n).one ≡ e (monomials n).one
      unfolding Φ monomials
      Φ-one = apply-one n A _

      Φ-irreducible : (m : Row n) → ¬ Reducible (monomials n) G m → Φ m ≡ e m
      Φ-irreducible = induction (λ m. ¬ Reducible (monomials n) G m → Φ m ≡ e m) (λ _. Φ-one)
          (λ i h m ih s. let t = irreducible-divisor 𝓟 ord G low (x i) m refl s in Φ-variable i h m ∙ ap (A i) (ih t) ∙ at_unit i m s (rule i h m t))

      lin-Φ : (f : Poly F (Row n)) → All (λ m. ¬ Reducible (monomials n) G m) f → lin 𝓒 Φ f ≡ coef R (monomials n) f
      lin-Φ f a = lin-on 𝓒 Φ e Φ-irreducible a ∙ lin-unit ring (monomials n) f

      Φ-lead : (g : Line F (Row n)) → g ∈ G → Φ g.0 ≡ 𝓒.opposite (coef R (monomials n) g.1)
      unfolding monomials
      Φ-lead g p = ⊎_elim (λ q. absurd (irreducible-one (g, p, ((monomials n).one, sym q ∙ one_mul g.0)))) (λ (i, hi, c, q).
          let s = irreducible-below i hi c g p (sym q) in ap Φ q ∙ Φ-variable i hi c ∙ ap (A i) (Φ-irreducible c s) ∙ at-lead i hi c g p (sym q) (rule i hi c s)) (one-or-variable n g.0)

      Φ-line : (g : Line F (Row n)) → g ∈ G → lin 𝓒 Φ (polynomial R g) ≡ 𝓒.null
      unfolding polynomial lin
      Φ-line g p = ap₂ 𝓒.plus (𝓒.act_one (Φ g.0) ∙ Φ-lead g p) (lin-Φ g.1 (tails g p)) ∙ opposite-plus-self 𝓒 _

      Φ-multiple : (f : Poly F (Row n)) → lin 𝓒 Φ f ≡ 𝓒.null → (u : Row n) → lin 𝓒 Φ (shift (monomials n) u f) ≡ 𝓒.null
      Φ-multiple f z = induction (λ u. lin 𝓒 Φ (shift (monomials n) u f) ≡ 𝓒.null)
          (lin-relabel 𝓒 Φ (prod (monomials n).one) f ∙ ap (λ L. lin 𝓒 L f) (fun_ext (λ m. ap Φ (sym (one_mul m)))) ∙ z)
          (λ i h u ih. lin-relabel 𝓒 Φ (prod (prod (x i) u)) f ∙ ap (λ L. lin 𝓒 L f) (fun_ext (λ m. ap Φ (monoid.mul_assoc (x i) u m) ∙ Φ-variable i h (prod u m)))
          ∙ sym (apply-lin (operator i) (λ m. Φ (prod u m)) f) ∙ ap (A i) (sym (lin-relabel 𝓒 Φ (prod u) f) ∙ ih) ∙ apply-null (operator i))

      Φ-lines : (u : Row n) (g : Line F (Row n)) → g ∈ G → lin 𝓒 Φ (shift (monomials n) u (polynomial R g)) ≡ 𝓒.null
      Φ-lines u g p = Φ-multiple (polynomial R g) (Φ-line g p) u

      -- So it says the normal form.
      Φ-NF : (f : Poly F (Row n)) → coef R (monomials n) (NF S f) ≡ lin 𝓒 Φ f
      Φ-NF f = sym (lin-Φ (NF S f) (all_map (not-reducible 𝓟 ord G low) (NF-irreducible S f))) ∙ NF-value 𝓟 ord G low 𝓒 Φ Φ-lines f

      groebner-proper : Groebner R (monomials n) lt G
      unfolding functions self
      groebner-proper = groebner-of-zero 𝓟 ord G low (λ f p a. zero-remainder 𝓟 ord G low f p
          (λ k. ap (λ v. v k) (Φ-NF f ∙ ideal-vanishes 𝓟 ord G low 𝓒 Φ Φ-lines f (member-of-ideal 𝓟 ord G low f a))))

    -- If 1 is reducible, so is everything.
    pub groebner-of-commuting : Commuting n A → Groebner R (monomials n) lt G
    groebner-of-commuting c = by_cases (reducible? 𝓟 ord G low (monomials n).one) (λ r f m a h. reducible-multiple 𝓟 ord G low m (monomials n).one (one_mul m ∙ monoid.mul_comm (monomials n).one m) r) (groebner-proper c)

    module _ (gb : Groebner R (monomials n) lt G) where
      -- From the monomials of the normal form of m to that form.
      carry : (i : ℕ) (m : Row n) → All {F = F} (λ k. A i (e k) ≡ N (prod (x i) k)) (nf S m) → A i (N m) ≡ N (prod (x i) m)
      carry i m a = ap (A i) (sym (lin-unit ring (monomials n) (nf S m))) ∙ apply-lin (operator i) e (nf S m) ∙ lin-on 𝓒 _ _ (λ k h. h) a ∙ image-shift 𝓟 ord G low gb (x i) m

      Holds : Row n → Type 0
      Holds m = (i : ℕ) → i < n → (b : Row n) → ¬ Reducible (monomials n) G b → m ≡ prod (x i) b → A i (e b) ≡ N (prod (x i) b)

      holds-step : (m : Row n) → ((y : Row n) → lt y m → Holds y) → (i : ℕ) → i < n → (b : Row n) → ¬ Reducible (monomials n) G b → m ≡ prod (x i) b → Rule i b → A i (e b) ≡ N (prod (x i) b)
      unfolding Holds
      holds-step m ih i hi b s q (unit_rule t h) = h ∙ sym (image-unit 𝓟 ord G low _ t)
      holds-step m ih i hi b s q (tail_rule g p r h) = h ∙ sym (image-lead 𝓟 ord G low gb g p (tails g p)) ∙ ap N (sym r)
      holds-step m ih i hi b s q (product_rule j hj c r d h) = h ∙ ap (A j) (ih y (rw top (above j hj y)) i hi c (irreducible-divisor 𝓟 ord G low (x j) c r s) refl)
          ∙ carry j y (all_map (λ k t. ih (prod (x j) k) (rw top (ord.mono (x j) t.0)) j hj k t.1 refl) (all_both (nf-below 𝓟 ord G low y d) (coefficient-irreducible 𝓟 ord G low y)))
          ∙ ap N (sym top ∙ q)
        where
          y : Row n
          y = prod (x i) c

          top : m ≡ prod (x j) y
          top = q ∙ ap (prod (x i)) r ∙ left_comm (x i) (x j) c

      -- By induction on x_i·b.
      pub operator-image : (i : ℕ) → i < n → (b : Row n) → ¬ Reducible (monomials n) G b → A i (e b) ≡ N (prod (x i) b)
      unfolding Holds
      operator-image i hi b s = WellFounded.induction ord.wf {C = Holds} (prod (x i) b) (λ m ih i hi b s q. holds-step m ih i hi b s q (rule i hi b s)) i hi b s refl

      pub operator-next : (i : ℕ) → i < n → (m : Row n) → A i (N m) ≡ N (prod (x i) m)
      operator-next i hi m = carry i m (all_map (operator-image i hi) (coefficient-irreducible 𝓟 ord G low m))

      twice : (i j : ℕ) → i < n → j < n → (b : Row n) → ¬ Reducible (monomials n) G b → A i (A j (e b)) ≡ N (prod (x i) (prod (x j) b))
      twice i j hi hj b s = ap (A i) (operator-image j hj b s) ∙ operator-next i hi (prod (x j) b)

      pub commuting-of-groebner : (i j : ℕ) → i < n → j < n → (b : Row n) → ¬ Reducible (monomials n) G b → A i (A j (e b)) ≡ A j (A i (e b))
      commuting-of-groebner i j hi hj b s = twice i j hi hj b s ∙ ap N (left_comm (x i) (x j) b) ∙ sym (twice j i hj hi b s)
