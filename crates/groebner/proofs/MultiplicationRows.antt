-- Multiplication rows, by numbers: the check that lines are a Groebner basis (document 01, refusal 15), and the normal forms that the rows hold.
-- B lists the irreducible monomials, B_s is the one at place s (d stands past the end), and cell i s k is the coordinate at B_k of the row of x_i·B_s.
--   NormalRow n 𝓟 ord G low B d   w holds the coordinates of the normal form of m
--   rows-commute-iff              the rows commute exactly if the lines are a Groebner basis
--   row-holds                     of a Groebner basis, the row of x_i·B_s holds the normal form of x_i·B_s
--   row_one                       the unit row of 1 holds the normal form of 1
--   row_next                      from the normal form of m, the rows give that of x_i·m
--   row-of-product                and from 1 that of every monomial
use mathlib.Core.Path.{◌≡◌, refl, sym, ◌∙◌, ap, subst, fun_ext}
use mathlib.Core.List.{List}
use mathlib.Core.Logic.{◌↔◌, by_cases}
use Prim.Native.Nat.{ℕ, ◌<◌}
use native.Mathlib.Decide.{dec_lt}
use native.Mathlib.Omega.{arith}
use lib.ListN.{length, get_or}
use Rattle.lists.specs.Lists.{◌∈◌}
use Rattle.lists.proofs.Elements.{element-in, place_of, at_once}
use Rattle.residue.specs.Field.{Arithmetic}
use Rattle.monomial.specs.Rows.{Row, one, product}
use Rattle.monomial.specs.Quotients.{variable}
use Rattle.monomial.specs.Ordering.{monomials}
use Rattle.monomial.proofs.OrderLaws.{MonomialOrder}
use Rattle.monomial.proofs.Products.{product-comm, one_product}
use Rattle.groebner.specs.Polynomials.{All, δ, coef}
use Rattle.groebner.specs.Lines.{Line, Reducible}
use Rattle.groebner.specs.Bases.{Groebner}
use Rattle.groebner.specs.Criteria.{Clear, Low}
use Rattle.groebner.specs.Conversions.{Lists}
use Rattle.groebner.specs.MultiplicationRows.{dot, times_variable, RowsCommute, product_at, Filled}
use Rattle.groebner.specs.MultiplicationRows.Filled.{as_unit, as_tail, as_product}
use Rattle.groebner.proofs.Modules.{Module, self, functions, opposite-null}
use Rattle.groebner.proofs.Linear.{all_map}
use Rattle.groebner.proofs.Terms.{δ-same, δ-other, coef-absent}
use Rattle.groebner.proofs.NormalForms.{nf}
use Rattle.groebner.proofs.Ground.{PolynomialRing}
use Rattle.groebner.proofs.Division.{rewriting, reducible?}
use Rattle.groebner.proofs.LinearMaps.{LinearMap}
use Rattle.groebner.proofs.Images.{𝓕}
use Rattle.groebner.proofs.Variables.{apply_all, Commuting, apply-induction}
use Rattle.groebner.proofs.NormalCoefficients.{irreducible-divisor, unit_coefficients, image-unit}
use Rattle.groebner.proofs.Commute.{Rule, unit_rule, tail_rule, product_rule, Multiplication, groebner-of-commuting, operator-image, operator-next, commuting-of-groebner}
use Rattle.groebner.proofs.DotProducts.{dot-on, dot-comm, dot-add, dot-mul, dot-none, dot-only, dot-assoc}
use Rattle.groebner.proofs.ClearLines.{minimal-of-clear, tails-of-clear}

module _ {F : Type 0} {R : Arithmetic F} (n : ℕ) {lt : Row n → Row n → Type 0} (𝓟 : PolynomialRing R (monomials n)) (ord : MonomialOrder (monomials n) lt) (G : List (Line F (Row n))) (low : Low lt G)
    (B : List (Row n)) (d : Row n) where
  open R use {zero as 𝟘, neg}
  open 𝓟 use {field}
  open field use {ring}

  -- w holds the coordinates of the normal form of m.
  abbrev pub NormalRow : Row n → (ℕ → F) → Type 0
  NormalRow m w = (k : ℕ) → k < length B → w k ≡ coef R (monomials n) (nf (rewriting 𝓟 ord G low) m) (get_or B k d)

  module _ (cell : ℕ → ℕ → ℕ → F) (clear : Clear R (monomials n) G) (lists : Lists (λ m. ¬ Reducible (monomials n) G m) B) (filled : (i : ℕ) → i < n → (s : ℕ) → s < length B → Filled R n G B d cell i s) where
    abbrev D : ℕ
    D = length B

    abbrev b : ℕ → Row n
    b s = get_or B s d

    abbrev step : ℕ → (ℕ → F) → ℕ → F
    step = times_variable R D cell

    abbrev e : Row n → Row n → F
    e = unit_coefficients R (monomials n)

    abbrev 𝓒 : Module R (Row n → F)
    𝓒 = 𝓕 𝓟 ord G low

    irreducible-at : (s : ℕ) → s < D → ¬ Reducible (monomials n) G (b s)
    irreducible-at s h = lists.only (b s) (element-in d B s h)

    -- B_s and B_t are equal only where s and t are.
    δ-places : (s t : ℕ) → s < D → t < D → ¬ (s ≡ t) → δ R (monomials n) (b s) (b t) ≡ 𝟘
    δ-places s t h k q = δ-other ring (monomials n) (b s) (b t) (λ p. q (at_once d B lists.once s t h k p))

    -- The coefficients of Σ w(k)·B_k.
    spread : (ℕ → F) → Row n → F
    spread w m = dot R D w (λ k. δ R (monomials n) m (b k))

    spread-on : (v w : ℕ → F) → ((k : ℕ) → k < D → v k ≡ w k) → spread v ≡ spread w
    unfolding spread
    spread-on v w p = fun_ext (λ m. dot-on ring D v w _ _ p (λ k h. refl))

    spread_at : (w : ℕ → F) (k : ℕ) → k < D → spread w (b k) ≡ w k
    unfolding spread
    spread_at w k h = dot-comm ring D w _ ∙ dot-only ring D k (λ j. δ R (monomials n) (b k) (b j)) w h (δ-same ring (monomials n) (b k)) (λ j l q. δ-places k j h l (λ p. q (sym p)))

    -- Coefficients that vanish at the reducible monomials are known from those at B.
    spread-supported : (u : Row n → F) → ((m : Row n) → Reducible (monomials n) G m → u m ≡ 𝟘) → spread (λ k. u (b k)) ≡ u
    unfolding spread
    spread-supported u z = fun_ext (λ m. by_cases (reducible? 𝓟 ord G low m)
        (λ r. dot-comm ring D _ _ ∙ dot-none ring D _ _ (λ k h. δ-other ring (monomials n) m (b k) (λ q. irreducible-at k h (subst (Reducible (monomials n) G) q r))) ∙ sym (z m r))
        (λ s. let p = place_of d (lists.all m s) in subst (λ m. spread (λ k. u (b k)) m ≡ u m) p.2 (spread_at (λ k. u (b k)) p.0 p.1)))

    -- The operator of x_i on coefficients: their coordinates, multiplied by the rows.
    A : ℕ → (Row n → F) → Row n → F
    A i u = spread (step i (λ s. u (b s)))

    A-plus : (i : ℕ) (u v : Row n → F) → A i (𝓒.plus u v) ≡ 𝓒.plus (A i u) (A i v)
    unfolding A spread functions self
    A-plus i u v = fun_ext (λ m. dot-on ring D _ _ _ _ (λ k h. dot-add ring D (λ s. u (b s)) (λ s. v (b s)) (λ r. cell i r k)) (λ k h. refl) ∙ dot-add ring D _ _ _)

    A-act : (i : ℕ) (c : F) (u : Row n → F) → A i (𝓒.act c u) ≡ 𝓒.act c (A i u)
    unfolding A spread functions self
    A-act i c u = fun_ext (λ m. dot-on ring D _ _ _ _ (λ k h. dot-mul ring D c (λ s. u (b s)) (λ r. cell i r k)) (λ k h. refl) ∙ dot-mul ring D c _ _)

    abbrev operator : ℕ → LinearMap 𝓒 𝓒
    operator i = record { apply = A i; apply_plus = A-plus i; apply_act = A-act i }

    A-spread : (i : ℕ) (w : ℕ → F) → A i (spread w) ≡ spread (step i w)
    unfolding A
    A-spread i w = spread-on _ _ (λ k h. dot-on ring D _ _ _ _ (spread_at w) (λ r l. refl))

    A-unit : (i s : ℕ) → s < D → A i (e (b s)) ≡ spread (cell i s)
    unfolding A
    A-unit i s h = spread-on _ _ (λ k l. dot-only ring D s (λ t. δ R (monomials n) (b t) (b s)) (λ r. cell i r k) h (δ-same ring (monomials n) (b s)) (λ t l q. δ-places t s l h q))

    tails : (g : Line F (Row n)) → g ∈ G → All (λ m. ¬ Reducible (monomials n) G m) g.1
    tails = tails-of-clear R (monomials n) G clear ord low

    rule-at : (i s : ℕ) → s < D → Filled R n G B d cell i s → Rule n 𝓟 ord G low operator i (b s)
    unfolding monomials functions self
    rule-at i s h (as_unit t c) = unit_rule t (A-unit i s h ∙ spread-on _ _ c
        ∙ spread-supported (e (product_at R n G B d cell i s)) (λ m r. δ-other ring (monomials n) m _ (λ q. t (subst (Reducible (monomials n) G) q r))))
    rule-at i s h (as_tail g p q c) = tail_rule g p q (A-unit i s h ∙ spread-on _ _ c ∙ spread-supported (λ m. neg (coef R (monomials n) g.1 m))
        (λ m r. ap neg (coef-absent ring (monomials n) g.1 m (all_map (λ k s q. s (subst (Reducible (monomials n) G) (sym q) r)) (tails g p))) ∙ opposite-null (self ring)))
    rule-at i s h (as_product j hj t l q r c) = product_rule j hj (b t) q r (A-unit i s h ∙ spread-on _ _ c ∙ sym (ap (A j) (A-unit i t l) ∙ A-spread j (cell i t)))

    multiplication : Multiplication n 𝓟 ord G low operator
    multiplication = record {
      minimal = minimal-of-clear R (monomials n) G clear;
      tails = tails;
      rule = λ i h m s. let p = place_of d (lists.all m s) in subst (Rule n 𝓟 ord G low operator i) p.2 (rule-at i p.0 p.1 (filled i h p.0 p.1));
    }

    A-twice : (i j s : ℕ) → s < D → A i (A j (e (b s))) ≡ spread (step i (cell j s))
    A-twice i j s h = ap (A i) (A-unit j s h) ∙ A-spread i (cell j s)

    -- Operators whose rows commute commute.
    commuting : RowsCommute R n D cell → Commuting n A
    unfolding A
    commuting c i j hi hj u = A-spread i (step j w) ∙ spread-on _ _ (λ k h. twice i j k ∙ dot-on ring D _ _ _ _ (λ s l. refl) (λ s l. any s l k h) ∙ sym (twice j i k)) ∙ sym (A-spread j (step i w))
      where
        w : ℕ → F
        w s = u (b s)

        twice : (i j k : ℕ) → step i (step j w) k ≡ dot R D w (λ s. step i (cell j s) k)
        twice i j k = dot-assoc ring D D w (cell j) (λ r. cell i r k)

        any : (s : ℕ) → s < D → (k : ℕ) → k < D → step i (cell j s) k ≡ step j (cell i s) k
        any s l k h = by_cases (dec_lt i j) (λ p. c i j p hj s l k h) (λ p. by_cases (dec_lt j i) (λ q. sym (c j i q hi s l k h)) (λ q. let r : i ≡ j = omega arith in rw r))

    pub rows-commute-iff : RowsCommute R n (length B) cell ↔ Groebner R (monomials n) lt G
    rows-commute-iff = (
      λ c. groebner-of-commuting n 𝓟 ord G low operator multiplication (commuting c),
      λ gb i j p hj s h k l. sym (spread_at (step i (cell j s)) k l)
          ∙ ap (λ v. v (b k)) (sym (A-twice i j s h) ∙ commuting-of-groebner n 𝓟 ord G low operator multiplication gb i j (omega arith) hj (b s) (irreducible-at s h) ∙ A-twice j i s h)
          ∙ spread_at (step j (cell i s)) k l,
    )

    module _ (gb : Groebner R (monomials n) lt G) where
      pub row-holds : (i : ℕ) → i < n → (s : ℕ) → s < length B → NormalRow (product n (variable n i) (get_or B s d)) (cell i s)
      unfolding monomials
      row-holds i hi s h k l = sym (spread_at (cell i s) k l) ∙ ap (λ v. v (b k)) (sym (A-unit i s h) ∙ operator-image n 𝓟 ord G low operator multiplication gb i hi (b s) (irreducible-at s h))

      pub row_next : (i : ℕ) → i < n → (m : Row n) (w : ℕ → F) → NormalRow m w → NormalRow (product n (variable n i) m) (times_variable R (length B) cell i w)
      unfolding monomials A
      row_next i hi m w p k l = dot-on ring D _ _ _ _ p (λ r _. refl) ∙ sym (spread_at _ k l) ∙ ap (λ v. v (b k)) (operator-next n 𝓟 ord G low operator multiplication gb i hi m)

      -- The row of 1.
      pub row_one : NormalRow (one n) (λ k. δ R (monomials n) (get_or B k d) (one n))
      unfolding monomials
      row_one k h = ap (λ v. v (b k)) (sym (image-unit 𝓟 ord G low (one n) (irreducible-divisor 𝓟 ord G low (b k) (one n) (sym (product-comm n (b k) (one n) ∙ one_product n (b k))) (irreducible-at k h))))

      pub row-of-product : (m : Row n) → NormalRow m (apply_all n (times_variable R (length B) cell) m (λ k. δ R (monomials n) (get_or B k d) (one n)))
      row-of-product = apply-induction n step NormalRow _ row_one row_next
