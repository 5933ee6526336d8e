-- Two numbers compared, and what decides where they are equal.
--   compared-less       Less says that the first number is smaller
--   compared-equal      Equal says that the numbers are equal
--   compared-greater    Greater says that the first number is larger
--   compared-cmp        the library's comparison, by which exponents are ordered, says the same
--   compared-sum        a number added to both changes no answer
--   equal-not-less      Equal is not Less
--   equal-not-greater   Equal is not Greater
--   then c r            the answer c, or r where c is Equal
--   then_less           Less says: smaller, or equal and then Less
--   then-greater        Greater says: larger, or equal and then Greater
--   then_equal          Equal says: equal and then Equal
--   otherwise           the second case of such a statement, replaced part by part
--   BelowBy f R         smaller by the number f and, where it is equal, by the relation R
--   below-wf            that is well-founded if R is
--   comparison-order    a three-way comparison that gives a monomial ordering
use mathlib.Core.Path.{◌≡◌, refl, sym, ◌∙◌, subst}
use mathlib.Core.Logic.{◌↔◌, ◌⊎◌, inl, inr, ⊎_elim, ⊎_map}
use mathlib.Core.WellFounded.{Acc, WellFounded}
use mathlib.Core.Bool.{Bool, true, false}
use Prim.Native.Nat.{ℕ, ◌+◌, ◌<◌}
use native.Mathlib.Omega.{arith}
use lib.Dec.{ltb}
use lib.WfN.{lt-wf_rel}
use borrow.Author.Tests.{ltb-true, ltb-false, lt-ltb, le-ltb}
use Rattle.monomial.specs.Orders.{compared}
use Rattle.monomial.specs.Ordering.{Monomials, LessBy}
use Rattle.monomial.proofs.OrderLaws.{MonomialOrder}
use Rattle.std.specs.declared.cmp.Ordering.{Ordering}
use Rattle.std.specs.Ordering.{MatchOrdering, nat_cmp}
use Rattle.std.specs.Cmp.{nat_cmp_is}
use Rattle.std.specs.declared.cmp.Ordering.TheVariants.{Less, Equal, Greater}
use Rattle.monomial.proofs.AnyOrder.{transitive-of}

-- What an answer says of the two numbers.
abbrev Says : ℕ → ℕ → Ordering → Type 0
Says x y c = MatchOrdering c (x < y) (x ≡ y) (y < x)

compared-says : (x y : ℕ) → Says x y (compared x y)
unfolding compared
compared-says x y = go (ltb x y) (ltb y x) refl refl
  where
    go : (t u : Bool) → ltb x y ≡ t → ltb y x ≡ u → Says x y (elim t [ true ↦ Less | false ↦ elim u [ true ↦ Greater | false ↦ Equal ] ])
    go true u p q = ltb-true x y p
    go false true p q = ltb-true y x q
    go false false p q = omega (arith, ltb-false x y p, ltb-false y x q)

says-compared : (x y : ℕ) (c : Ordering) → Says x y c → compared x y ≡ c
unfolding compared
says-compared x y Less l = rw (compared, lt-ltb x y l)
says-compared x y Equal e = rw (compared, le-ltb x y (omega arith), le-ltb y x (omega arith))
says-compared x y Greater l = rw (compared, le-ltb x y (omega arith), lt-ltb y x l)

compared-iff : (x y : ℕ) (c : Ordering) → (compared x y ≡ c) ↔ Says x y c
compared-iff x y c = (λ e. subst (Says x y) e (compared-says x y), says-compared x y c)

module _ (x y : ℕ) where
  pub compared-less : (compared x y ≡ Less) ↔ (x < y)
  compared-less = compared-iff x y Less

  pub compared-equal : (compared x y ≡ Equal) ↔ (x ≡ y)
  compared-equal = compared-iff x y Equal

  pub compared-greater : (compared x y ≡ Greater) ↔ (y < x)
  compared-greater = compared-iff x y Greater

-- The library's comparison of two numbers.
pub compared-cmp : (x y : ℕ) → nat_cmp x y ≡ compared x y
compared-cmp x y = sym (nat_cmp_is x y (compared x y) (compared-says x y))

pub compared-sum : (k x y : ℕ) → compared (k + x) (k + y) ≡ compared x y
compared-sum k x y = says-compared (k + x) (k + y) (compared x y) (add (compared x y) (compared-says x y))
  where
    add : (c : Ordering) → Says x y c → Says (k + x) (k + y) c
    add Less l = omega arith
    add Equal e = omega arith
    add Greater l = omega arith

pub equal-not-less : ¬ (Equal ≡ Less)
equal-not-less e = let l = subst (Says 0 0) e refl in omega arith

pub equal-not-greater : ¬ (Equal ≡ Greater)
equal-not-greater e = let l = subst (Says 0 0) e refl in omega arith

-- The answer c, or r where c is Equal.
abbrev pub then : Ordering → Ordering → Ordering
then c r = elim c [ Less ↦ Less | Equal ↦ r | Greater ↦ Greater ]

module _ (x y : ℕ) (r : Ordering) where
  pub then_less : (then (compared x y) r ≡ Less) ↔ ((x < y) ⊎ ((x ≡ y) × (r ≡ Less)))
  then_less = go (compared x y) (compared-says x y)
    where
      go : (c : Ordering) → Says x y c → (then c r ≡ Less) ↔ ((x < y) ⊎ ((x ≡ y) × (r ≡ Less)))
      go Less l = (λ e. inl l, λ d. refl)
      go Equal q = (λ e. inr (q, e), ⊎_elim (λ l. absurd (omega arith)) (λ p. p.1))
      go Greater g = (λ e. inl (subst (Says x y) e g), ⊎_elim (λ l. absurd (omega arith)) (λ p. absurd (omega arith)))

  pub then-greater : (then (compared x y) r ≡ Greater) ↔ ((y < x) ⊎ ((x ≡ y) × (r ≡ Greater)))
  then-greater = go (compared x y) (compared-says x y)
    where
      go : (c : Ordering) → Says x y c → (then c r ≡ Greater) ↔ ((y < x) ⊎ ((x ≡ y) × (r ≡ Greater)))
      go Less l = (λ e. inl (subst (Says x y) e l), ⊎_elim (λ g. absurd (omega arith)) (λ p. absurd (omega arith)))
      go Equal q = (λ e. inr (q, e), ⊎_elim (λ g. absurd (omega arith)) (λ p. p.1))
      go Greater g = (λ e. inl g, λ d. refl)

  pub then_equal : (then (compared x y) r ≡ Equal) ↔ ((x ≡ y) × (r ≡ Equal))
  then_equal = go (compared x y) (compared-says x y)
    where
      go : (c : Ordering) → Says x y c → (then c r ≡ Equal) ↔ ((x ≡ y) × (r ≡ Equal))
      go Less l = (λ e. let q = subst (Says x y) e l in absurd (omega arith), λ p. absurd (omega arith))
      go Equal q = (λ e. (q, e), λ p. p.1)
      go Greater g = (λ e. let q = subst (Says x y) e g in absurd (omega arith), λ p. absurd (omega arith))

pub otherwise : {A B C D E : Type 0} → B ↔ D → C ↔ E → (A ⊎ (B × C)) ↔ (A ⊎ (D × E))
otherwise f g = (⊎_map (λ a. a) (λ p. (f.0 p.0, g.0 p.1)), ⊎_map (λ a. a) (λ p. (f.1 p.0, g.1 p.1)))

-- Smaller by f and, where f is equal, by R.
abbrev pub BelowBy : {M : Type 0} → (M → ℕ) → (M → M → Type 0) → M → M → Type 0
BelowBy f R a b = (f a < f b) ⊎ ((f a ≡ f b) × R a b)

module _ {M : Type 0} (f : M → ℕ) {R : M → M → Type 0} (wf : WellFounded R) where
  -- At the value k of f, given all below k: by induction on R.
  at_value : (k : ℕ) → ((a : M) → f a < k → Acc (BelowBy f R) a) → {a : M} → Acc R a → f a ≡ k → Acc (BelowBy f R) a
  at_value k lower (Acc.intro a h) e = Acc.intro a (λ b. ⊎_elim (λ l. lower b (omega arith)) (λ p. at_value k lower (h b p.1) (p.0 ∙ e)))

  -- At every value: by induction on k.
  at-every-value : {k : ℕ} → Acc ◌<◌ k → (a : M) → f a ≡ k → Acc (BelowBy f R) a
  at-every-value (Acc.intro k h) a e = at_value k (λ b l. at-every-value (h (f b) l) b refl) (wf.apply a) e

  pub below-wf : WellFounded (BelowBy f R)
  below-wf = record { apply = λ a. at-every-value (lt-wf_rel.wf.apply (f a)) a refl }

-- It calls only equals equal, turns round with its arguments, is unchanged by products, and is well-founded.
module _ {M : Type 0} (𝓜 : Monomials M) (compare : M → M → Ordering) where
  pub comparison-order : ((a b : M) → compare a b ≡ Equal → a ≡ b) → ((a b : M) → compare a b ≡ Greater → compare b a ≡ Less)
      → ((u a b : M) → compare (𝓜.mul u a) (𝓜.mul u b) ≡ compare a b) → WellFounded (LessBy compare) → MonomialOrder 𝓜 (LessBy compare)
  comparison-order equal flip product wf = record { total = total; trans = transitive-of total wf; mono = λ u {a} {b} l. product u a b ∙ l; wf = wf }
    where
      total : (a b : M) → LessBy compare a b ⊎ ((a ≡ b) ⊎ LessBy compare b a)
      total a b = go (compare a b) refl
        where
          go : (c : Ordering) → compare a b ≡ c → LessBy compare a b ⊎ ((a ≡ b) ⊎ LessBy compare b a)
          go Less e = inl e
          go Equal e = inr (inl (equal a b e))
          go Greater e = inr (inr (flip a b e))
