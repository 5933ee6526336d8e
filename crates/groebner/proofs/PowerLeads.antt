-- As many lines as variables, a power of each among the leading monomials: these are powers of different variables, and coprime.
--   powers-coprime      powers of different variables are coprime
--   Served d xs         xs are d different leading monomials, powers of variables before d
--   served              the leading monomials of the first d variables
--   square-coprime      each two leading monomials are coprime
--   square-groebner     so the lines are a Groebner basis
use mathlib.Core.Path.{◌≡◌, refl, sym, ◌∙◌, ap, subst}
use mathlib.Core.List.Memᴰ
use mathlib.Core.List.{List, [], ◌∷◌, map}
use mathlib.Core.Logic.{◌⊎◌, inl, inr, by_cases, ⊎_elim}
use Prim.Native.Nat.{ℕ, zero, suc, ◌≤◌, ◌<◌}
use native.Mathlib.Decide.{ℕ_discrete, dec_le}
use native.Mathlib.Omega.{arith}
use lib.ListN.{length, length-map}
use Rattle.lists.specs.Lists.{◌∈◌, Once}
use Rattle.lists.specs.Pairs.{Before}
use Rattle.residue.specs.Field.{Arithmetic}
use Rattle.monomial.specs.Rows.{Row, exponent, power}
use Rattle.monomial.specs.Ordering.{Divides, monomials, row?}
use Rattle.monomial.proofs.OrderLaws.{MonomialOrder}
use Rattle.monomial.proofs.Products.{exponent-product, divisible-at}
use Rattle.monomial.proofs.Powers.{exponent-power, exponent-power-other, power_divides}
use Rattle.groebner.specs.Polynomials.{All, all_cons}
use Rattle.groebner.specs.Lines.{Line, polynomial}
use Rattle.groebner.specs.Bases.{Groebner}
use Rattle.groebner.specs.Criteria.{Clear, Low}
use Rattle.groebner.specs.Standard.{ZeroDimensional}
use Rattle.groebner.proofs.Ground.{PolynomialRing}
use Rattle.groebner.proofs.Lists.{pigeon, in_map, of_map}
use Rattle.groebner.proofs.Members.{member?}
use Rattle.groebner.proofs.Buchberger.{before-or, before-in}
use Rattle.groebner.proofs.CoprimeLeads.{Coprime, coprime-groebner}

pub powers-coprime : (n i j e f : ℕ) → ¬ (i ≡ j) → Coprime (monomials n) (power n i e) (power n j f)
unfolding monomials
powers-coprime n i j e f q = record {
  left = (divisible-at n a ((monomials n).mul a b)).1 (λ v _. omega (arith, exponent-product n a b v));
  right = (divisible-at n b ((monomials n).mul a b)).1 (λ v _. omega (arith, exponent-product n a b v));
  least = λ k x y. (divisible-at n ((monomials n).mul a b) k).1 (λ v h. by_cases (ℕ_discrete v i)
      (λ p. omega (arith, exponent-product n a b v, (divisible-at n a k).0 x v h, exponent-power-other n j f v (λ r. q (sym p ∙ r))))
      (λ p. omega (arith, exponent-product n a b v, (divisible-at n b k).0 y v h, exponent-power-other n i e v p)));
}
  where
    a : Row n
    a = power n i e

    b : Row n
    b = power n j f

module _ {F : Type 0} (R : Arithmetic F) (n : ℕ) (G : List (Line F (Row n))) (dimension : ZeroDimensional n G) (clear : Clear R (monomials n) G) where
  leads : List (Row n)
  leads = map (λ (g : Line F (Row n)). g.0) G

  -- Of two lines, no leading monomial divides the other.
  apart : (f g : Line F (Row n)) → Before f g G → (¬ Divides (monomials n) g.0 f.0) × (¬ Divides (monomials n) f.0 g.0)
  unfolding polynomial
  apart f g b = (first f (clear f g b).0, first g (clear f g b).1)
    where
      first : {P : Row n → Type 0} (f : Line F (Row n)) → All P ((R.one, f.0) ∷ f.1) → P f.0
      first f (all_cons h a) = h

  -- x is a leading monomial, and a power of a variable before d.
  abbrev PowerBefore : ℕ → Row n → Type 0
  PowerBefore d x = (i : ℕ) × (i < d) × ((e : ℕ) × (x ≡ power n i e)) × (x ∈ leads)

  -- d different leading monomials, powers of variables before d.
  record Served (d : ℕ) (xs : List (Row n)) : Type 0 where
    size : length xs ≡ d
    once : Once xs
    powers : (x : Row n) → x ∈ xs → PowerBefore d x

  module _ (f g : Line F (Row n)) (b : Before f g G) where
    -- Where there are two lines, no leading monomial is 1.
    not-one : (x : Row n) → x ∈ leads → ¬ ((v : ℕ) → v < n → exponent n x v ≡ 0)
    unfolding leads
    not-one x q z = at (of_map (λ (g : Line F (Row n)). g.0) G q)
      where
        at : (h : Line F (Row n)) × h ∈ G × (x ≡ h.0) → ⊥
        at (h, p, e) = go (before-or h f G p (before-in f g G b).0)
          where
            divides : (m : Row n) → Divides (monomials n) h.0 m
            divides m = (divisible-at n h.0 m).1 (λ v l. omega (arith, z v l, ap (λ y. exponent n y v) e))

            go : (h ≡ f) ⊎ (Before h f G ⊎ Before f h G) → ⊥
            go (inl w) = (apart f g b).1 (subst (λ (y : Line F (Row n)). Divides (monomials n) y.0 g.0) w (divides g.0))
            go (inr (inl w)) = (apart h f w).1 (divides f.0)
            go (inr (inr w)) = (apart f h w).0 (divides f.0)

    served : (d : ℕ) → d ≤ n → (xs : List (Row n)) × Served d xs
    unfolding leads
    served zero h = ([], record { size = refl; once = tt; powers = λ x i. absurd (Memᴰ.not-nil i) })
    served (suc d) h = add (served d (omega arith)) (dimension d (omega arith))
      where
        add : (xs : List (Row n)) × Served d xs → (e : ℕ) × (g : Line F (Row n)) × (g ∈ G) × (g.0 ≡ power n d e) → (xs : List (Row n)) × Served (suc d) xs
        add (xs, r) (e, g, p, q) = (g.0 ∷ xs, record { size = ap suc r.size; once = (λ i. new (r.powers g.0 i), r.once); powers = λ x i. ⊎_elim (here x) (λ j. there x (r.powers x j)) (Memᴰ.cases_cons i) })
          where
            new : ¬ PowerBefore d g.0
            new (i, l, (k, w), j) = not-one g.0 j (λ v _. by_cases (ℕ_discrete v i) (λ t. ap (λ y. exponent n y v) q ∙ exponent-power-other n d e v (λ u. omega arith))
                (λ t. ap (λ y. exponent n y v) w ∙ exponent-power-other n i k v t))

            here : (x : Row n) → x ≡ g.0 → PowerBefore (suc d) x
            here x t = (d, omega arith, (e, t ∙ q), Memᴰ.cast t (in_map (λ (g : Line F (Row n)). g.0) p))

            there : (x : Row n) → PowerBefore d x → PowerBefore (suc d) x
            there x (i, l, w, j) = (i, omega arith, w, j)

  module _ (square : length G ≡ n) where
    pub square-coprime : (f g : Line F (Row n)) → Before f g G → Coprime (monomials n) f.0 g.0
    unfolding leads
    square-coprime f g b = go (each f.0 (in_map (λ (g : Line F (Row n)). g.0) (before-in f g G b).0)) (each g.0 (in_map (λ (g : Line F (Row n)). g.0) (before-in f g G b).1))
      where
        all : (xs : List (Row n)) × Served n xs
        all = served f g b n (omega arith)

        inside : (x : Row n) → x ∈ leads → (y : Row n) → y ∈ (x ∷ all.0) → y ∈ leads
        inside x i y j = ⊎_elim (λ e. Memᴰ.cast e i) (λ k. (all.1.powers y k).3) (Memᴰ.cases_cons j)

        -- By the pigeonhole principle these are all leading monomials.
        each : (x : Row n) → x ∈ leads → PowerBefore n x
        each x i = by_cases (member? (row? n) x all.0) (all.1.powers x)
            (λ new. absurd (omega (arith, pigeon (x ∷ all.0) leads (new, all.1.once) (inside x i), length-map G (λ (g : Line F (Row n)). g.0), all.1.size, square)))

        smaller : (i : ℕ) → i < n → (d e : ℕ) → d ≤ e → Divides (monomials n) (power n i d) (power n i e)
        smaller i l d e h = (power_divides n i l d (power n i e)).1 (omega (arith, exponent-power n i e l))

        go : PowerBefore n f.0 → PowerBefore n g.0 → Coprime (monomials n) f.0 g.0
        go (i, l, (d, p), _) (j, m, (e, q), _) = rw (p, q) (powers-coprime n i j d e (λ t. by_cases (dec_le d e)
            (λ h. (apart f g b).1 (rw (p, q, ← t) (smaller i l d e h))) (λ h. (apart f g b).0 (rw (p, q, ← t) (smaller i l e d (omega arith))))))

    -- The lines are a Groebner basis, with any order.
    pub square-groebner : PolynomialRing R (monomials n) → {lt : Row n → Row n → Type 0} → MonomialOrder (monomials n) lt → Low lt G → Groebner R (monomials n) lt G
    square-groebner 𝓟 ord low = coprime-groebner 𝓟 ord G low square-coprime
