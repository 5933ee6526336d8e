-- Believed. Monomials as a structure, and the orders of document 01 as relations.
--   Monomials M          1, products and a decision of equality on M
--   Divides 𝓜 a b        b is a multiple of a
--   Lcm 𝓜 a b m          m is the least common multiple of a and b
--   row? n               the decision of equality of rows
--   monomials n          the monomials in n variables
--   LessBy compare       the relation "smaller" of a three-way comparison
--   Lex n s, Grevlex n   the orders of document 01 as relations
use Rattle.std.specs.Prelude.{◌≡◌, refl, ℕ, zero, suc, List}
use Rattle.std.proofs.Common.{ap}
use Rattle.std.proofs.Math.Decide.{ℕ_discrete}
use Rattle.monomial.specs.Rows.{Row, one, product}
use Rattle.monomial.specs.Orders.{lex, grevlex}
use Rattle.std.specs.declared.cmp.Ordering.{Ordering}
use Rattle.std.specs.declared.cmp.Ordering.TheVariants.{Less}

-- 1, products, and a decision of equality.
pub record Monomials (M : Type 0) : Type 0 where
  pub one : M
  pub mul : M → M → M
  pub same? : (a b : M) → Dec (a ≡ b)

-- a divides b: b is a product of a.
abbrev pub Divides : {M : Type 0} → Monomials M → M → M → Type 0
Divides {M} 𝓜 a b = (u : M) × (b ≡ 𝓜.mul u a)

-- m is the least common multiple of a and b.
pub record Lcm {M : Type 0} (𝓜 : Monomials M) (a b m : M) : Type 0 where
  pub left : Divides 𝓜 a m
  pub right : Divides 𝓜 b m
  pub least : (k : M) → Divides 𝓜 a k → Divides 𝓜 b k → Divides 𝓜 m k

-- Two pairs, compared part by part.
abbrev pair? : {A B : Type 0} (x y : A × B) → Dec (x.0 ≡ y.0) → Dec (x.1 ≡ y.1) → Dec (x ≡ y)
pair? x y (no p) d = no (λ e. p (ap (λ z. z.0) e))
pair? x y (yes p) (no q) = no (λ e. q (ap (λ z. z.1) e))
pair? x y (yes p) (yes q) = yes (λ i. (p i, q i))

-- Whether two rows are equal.
unfoldable pub row? : (n : ℕ) (a b : Row n) → Dec (a ≡ b)
unfolding ℕ_discrete
row? zero a b = yes refl
row? (suc n) a b = pair? a b (ℕ_discrete a.0 b.0) (row? n a.1 b.1)

-- The monomials in n variables.
unfoldable pub monomials : (n : ℕ) → Monomials (Row n)
unfolding one product row?
monomials n = record { one = one n; mul = product n; same? = row? n }

-- a is smaller than b, by a three-way comparison.
abbrev pub LessBy : {M : Type 0} → (M → M → Ordering) → M → M → Type 0
LessBy compare a b = compare a b ≡ Less

-- a is smaller than b in lex over the variables of the list s, greatest first.
abbrev pub Lex : (n : ℕ) → List ℕ → Row n → Row n → Type 0
Lex n s = LessBy (lex n s)

-- a is smaller than b in grevlex.
abbrev pub Grevlex : (n : ℕ) → Row n → Row n → Type 0
Grevlex n = LessBy (grevlex n)
