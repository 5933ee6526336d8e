-- The variables: operators that stand for them, induction over them, and taking one off a monomial.
--   iterate A k w        A (A (.. w)), k times
--   apply_all n A m w    A_0^(m_0) (A_1^(m_1) (.. w)) for the exponents of m
--   Commuting n A        the operators of the n variables commute
--   apply-one            for the monomial 1 nothing is applied
--   apply-variable       commuting operators: for x_i·m the operator of x_i comes last
--   apply-induction      what holds of 1 and w, and of x_i·m and A_i w where it holds of m and w, holds of m and apply_all n A m w
--   variable-induction   what holds of 1, and of x_i·m where it holds of m, holds of every monomial
--   one-or-variable      a monomial is 1 or a multiple of a variable
--   variable-above       m is smaller than x_i·m
--   product-left-comm    a·(b·c) = b·(a·c)
--   TakenOff n G i b     some x_j divides b, and x_i·b / x_j is reducible
--   take-off             so it is where x_i·b is reducible, and neither is b nor is x_i·b a leading monomial
use mathlib.Core.Path.{◌≡◌, refl, sym, ◌∙◌, ap, ap₂, subst}
use mathlib.Core.List.{List}
use mathlib.Core.Logic.{◌⊎◌, inl, inr, ⊎_elim, by_cases}
use Prim.Native.Nat.{ℕ, zero, suc, ◌≤◌, ◌<◌}
use native.Mathlib.Nat.{zero-add}
use native.Mathlib.Numerals.{one-add}
use native.Mathlib.Decide.{ℕ_discrete, dec_le}
use native.Mathlib.Omega.{arith}
use Rattle.lists.specs.Lists.{◌∈◌}
use Rattle.monomial.specs.Rows.{Row, exponent, one, product}
use Rattle.monomial.specs.Quotients.{quotient, variable}
use Rattle.monomial.specs.Ordering.{Divides, monomials}
use Rattle.monomial.proofs.OrderLaws.{MonomialOrder}
use Rattle.monomial.proofs.Products.{exponent-product, product-assoc, product-comm, one_product, quotient-product, rows-laws}
use Rattle.monomial.proofs.AnyOrder.{divisor-below}
use Rattle.monomial.proofs.Powers.{exponent-power, exponent-power-other, power_divides}
use Rattle.groebner.specs.Lines.{Line, Reducible}

-- Operators, one for each variable.
module _ {W : Type 0} where
  -- A (A (.. w)), k times
  unfoldable pub iterate : (W → W) → ℕ → W → W
  iterate A zero w = w
  iterate A (suc k) w = A (iterate A k w)

  -- A_0^(m_0) (A_1^(m_1) (.. w))
  unfoldable pub apply_all : (n : ℕ) → (ℕ → W → W) → Row n → W → W
  apply_all zero A m w = w
  apply_all (suc n) A m w = iterate (A 0) m.0 (apply_all n (λ i. A (suc i)) m.1 w)

  -- The operators of the n variables commute.
  abbrev pub Commuting : ℕ → (ℕ → W → W) → Type 0
  Commuting n A = (i j : ℕ) → i < n → j < n → (w : W) → A i (A j w) ≡ A j (A i w)

  iterate-past : (A B : W → W) → ((w : W) → A (B w) ≡ B (A w)) → (k : ℕ) (w : W) → iterate A k (B w) ≡ B (iterate A k w)
  unfolding iterate
  iterate-past A B h zero w = refl
  iterate-past A B h (suc k) w = ap A (iterate-past A B h k w) ∙ h (iterate A k w)

  pub apply-one : (n : ℕ) (A : ℕ → W → W) (w : W) → apply_all n A (one n) w ≡ w
  unfolding apply_all iterate one
  apply-one zero A w = refl
  apply-one (suc n) A w = apply-one n (λ i. A (suc i)) w

  pub apply-variable : (n : ℕ) (A : ℕ → W → W) → Commuting n A → (i : ℕ) → i < n → (m : Row n) (w : W) → apply_all n A (product n (variable n i) m) w ≡ A i (apply_all n A m w)
  unfolding apply_all iterate product
  apply-variable zero A c i h m w = absurd (omega arith)
  apply-variable (suc n) A c zero h m w = ap₂ (λ x y. iterate (A 0) x (apply_all n (λ i. A (suc i)) y w)) (one-add m.0) (one_product n m.1)
  apply-variable (suc n) A c (suc i) h m w =
      ap₂ (iterate (A 0)) (zero-add m.0) (apply-variable n (λ i. A (suc i)) (λ i j p q. c (suc i) (suc j) (omega arith) (omega arith)) i (omega arith) m.1 w)
      ∙ iterate-past (A 0) (A (suc i)) (c 0 (suc i) (omega arith) h) m.0 _

  pub apply-induction : (n : ℕ) (A : ℕ → W → W) (P : Row n → W → Type 0) (w : W) → P (one n) w
      → ((i : ℕ) → i < n → (m : Row n) (w : W) → P m w → P (product n (variable n i) m) (A i w)) → (m : Row n) → P m (apply_all n A m w)
  unfolding apply_all iterate one product
  apply-induction zero A P w base step m = base
  apply-induction (suc n) A P w base step m = raise m.0 (apply-induction n (λ i. A (suc i)) (λ r. P (0, r)) w base (λ i h r. step (suc i) (omega arith) (0, r)) m.1)
    where
      v : W
      v = apply_all n (λ i. A (suc i)) m.1 w

      raise : (a : ℕ) → P (0, m.1) v → P (a, m.1) (iterate (A 0) a v)
      raise zero p = p
      raise (suc a) p = subst (λ r. P r (iterate (A 0) (suc a) v)) (ap₂ (λ x y. (x, y)) (one-add a) (one_product n m.1)) (step 0 (omega arith) (a, m.1) (iterate (A 0) a v) (raise a p))

module _ (n : ℕ) where
  pub variable-induction : (P : Row n → Type 0) → P (one n) → ((i : ℕ) → i < n → (m : Row n) → P m → P (product n (variable n i) m)) → (m : Row n) → P m
  variable-induction P base step = apply-induction {W = Unit {0}} n (λ i w. w) (λ m w. P m) tt base (λ i h m w. step i h m)

  pub one-or-variable : (m : Row n) → (m ≡ one n) ⊎ ((j : ℕ) × (j < n) × (c : Row n) × (m ≡ product n (variable n j) c))
  one-or-variable m = variable-induction (λ m. (m ≡ one n) ⊎ ((j : ℕ) × (j < n) × (c : Row n) × (m ≡ product n (variable n j) c))) (inl refl) (λ j h c _. inr (j, h, c, refl)) m

  pub variable-above : {lt : Row n → Row n → Type 0} → MonomialOrder (monomials n) lt → (i : ℕ) → i < n → (m : Row n) → lt m (product n (variable n i) m)
  unfolding monomials
  variable-above ord i h m = ⊎_elim (λ e. absurd (omega (arith, exponent-power n i 1 h, exponent-product n (variable n i) m i, ap (λ x. exponent n x i) e))) (λ l. l)
      (divisor-below (rows-laws n) ord (variable n i, refl))

  product-cancel : (u a b : Row n) → product n u a ≡ product n u b → a ≡ b
  product-cancel u a b e = sym (quotient-product n a u) ∙ ap (λ x. quotient n x u) (product-comm n a u ∙ e ∙ product-comm n u b) ∙ quotient-product n b u

  pub product-left-comm : (a b c : Row n) → product n a (product n b c) ≡ product n b (product n a c)
  product-left-comm a b c = sym (product-assoc n a b c) ∙ ap (λ z. product n z c) (product-comm n a b) ∙ product-assoc n b a c

module _ {F : Type 0} (n : ℕ) (G : List (Line F (Row n))) where
  -- Some x_j divides b, and x_i·b / x_j is reducible.
  abbrev pub TakenOff : ℕ → Row n → Type 0
  TakenOff i b = (j : ℕ) × (j < n) × (c : Row n) × (b ≡ product n (variable n j) c) × Reducible (monomials n) G (product n (variable n i) c)

  -- x_i·b = u·lead g with u = x_j·v: x_j divides b, or j is i and b = v·lead g.
  pub take-off : (i : ℕ) → i < n → (b : Row n) → ¬ Reducible (monomials n) G b → Reducible (monomials n) G (product n (variable n i) b)
      → ((g : Line F (Row n)) → g ∈ G → ¬ (product n (variable n i) b ≡ g.0)) → TakenOff i b
  unfolding monomials
  take-off i hi b irreducible (g, p, (u, q)) other = ⊎_elim (λ r. absurd (other g p (q ∙ ap (λ z. product n z g.0) r ∙ one_product n g.0))) (λ r. lifted_by r.0 r.1 r.2 r.3) (one-or-variable n u)
    where
      x : ℕ → Row n
      x = variable n

      lifted_by : (j : ℕ) → j < n → (v : Row n) → u ≡ product n (x j) v → TakenOff i b
      lifted_by j hj v r = by_cases (dec_le 1 (exponent n b j)) (λ l. divide ((power_divides n j hj 1 b).1 l)) (λ l. by_cases (ℕ_discrete j i) (λ s. absurd (same s)) (λ s. absurd (apart l s)))
        where
          m : Row n
          m = product n v g.0

          lifted : product n (x i) b ≡ product n (x j) m
          lifted = q ∙ ap (λ z. product n z g.0) r ∙ product-assoc n (x j) v g.0

          divide : Divides (monomials n) (x j) b → TakenOff i b
          divide (c, s) = (j, hj, c, t, (g, p, (v, product-cancel n (x j) (product n (x i) c) m (product-left-comm n (x j) (x i) c ∙ ap (product n (x i)) (sym t) ∙ lifted))))
            where
              t : b ≡ product n (x j) c
              t = s ∙ product-comm n c (x j)

          same : j ≡ i → ⊥
          same s = irreducible (g, p, (v, product-cancel n (x i) b m (lifted ∙ ap (λ j. product n (x j) m) s)))

          apart : ¬ (1 ≤ exponent n b j) → ¬ (j ≡ i) → ⊥
          apart l s = omega (arith, exponent-power-other n i 1 j s, exponent-power n j 1 hj, exponent-product n (x i) b j, exponent-product n (x j) m j, ap (λ z. exponent n z j) lifted)
