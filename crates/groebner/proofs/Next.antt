-- The next monomial in lex that is not excluded, for every ranking s of the variables.
--   next-append             a successor found among the last variables is the successor
--   carried_here            the exponent of v in carried
--   carried-zero            those of s
--   next-lex                where s ranks the n variables, next finds the smallest monomial above m that is not excluded
--   variables-ranking       x1, .., xn is a ranking of the n variables
use mathlib.Core.Path.{◌≡◌, refl, sym, ◌∙◌, ap, subst}
use mathlib.Core.Bool.{Bool, true, false}
use mathlib.Core.List.Memᴰ
use mathlib.Core.List.{List, [], ◌∷◌, ◌++◌}
use mathlib.Core.Logic.{◌⊎◌, inl, inr, ⊎_elim}
use mathlib.Core.Option.{Option, none, some}
use Prim.Native.Nat.{ℕ, zero, suc, ◌+◌, ◌≤◌, ◌<◌}
use native.Mathlib.Decide.{ℕ_discrete}
use native.Mathlib.Omega.{arith}
use Rattle.lists.specs.Lists.{◌∈◌, Once}
use Rattle.monomial.specs.Rows.{Row, exponent}
use Rattle.monomial.specs.Orders.{lex, variables_from, variables}
use Rattle.monomial.specs.Ordering.{Divides, monomials, LessBy}
use Rattle.std.specs.declared.cmp.Ordering.TheVariants.{Less}
use Rattle.monomial.proofs.Products.{divisible-at}
use Rattle.monomial.proofs.Comparisons.{equal-not-less}
use Rattle.monomial.proofs.LexOrder.{lex-cons-less, variables-rank}
use Rattle.groebner.specs.Next.{clear, RanksOnce, carried, next}
use Rattle.groebner.proofs.Exponents.{raise-same, raise-other, clear_in, clear-out}
use Rattle.groebner.proofs.Successors.{Closed, Successor, Successors}

pub next-append : (n : ℕ) (t s : List ℕ) (excluded : Row n → Bool) (m r : Row n) → next n s excluded m ≡ some r → next n (t ++ s) excluded m ≡ some r
unfolding next
next-append n [] s excluded m r e = e
next-append n (v ∷ t) s excluded m r e = rw (next-append n t s excluded m r e)

-- What lex over v and then s calls less.
abbrev LessAt : (n v : ℕ) → List ℕ → Row n → Row n → Type 0
LessAt n v s a b = (exponent n a v < exponent n b v) ⊎ ((exponent n a v ≡ exponent n b v) × (lex n s a b ≡ Less))

-- Where the exponents of r are 0, nothing is less.
zero-least : (n : ℕ) (s : List ℕ) (k r : Row n) → ((i : ℕ) → i ∈ s → exponent n r i ≡ 0) → ¬ (lex n s k r ≡ Less)
unfolding lex
zero-least n [] k r z l = equal-not-less l
zero-least n (v ∷ s) k r z l = at ((lex-cons-less n v s k r).0 l) (zero-least n s k r (λ i h. z i (Memᴰ.tail h)))
  where
    at : LessAt n v s k r → ¬ (lex n s k r ≡ Less) → ⊥
    at (inl h) _ = omega (arith, z v (Memᴰ.head refl))
    at (inr p) rest = rest p.1

not-cons : {i v : ℕ} {s : List ℕ} → ¬ (i ≡ v) → ¬ (i ∈ s) → ¬ (i ∈ (v ∷ s))
not-cons p q h = ⊎_elim p q (Memᴰ.cases_cons h)

member? : (i : ℕ) (s : List ℕ) → Dec (i ∈ s)
member? i [] = no Memᴰ.not-nil
member? i (v ∷ s) = at (ℕ_discrete i v) (member? i s)
  where
    at : Dec (i ≡ v) → Dec (i ∈ s) → Dec (i ∈ (v ∷ s))
    at (yes e) _ = yes (Memᴰ.head e)
    at (no p) (yes h) = yes (Memᴰ.tail h)
    at (no p) (no q) = no (not-cons p q)

-- Outside the variables of s the exponents of m and k are equal.
abbrev Agree : (n : ℕ) → List ℕ → Row n → Row n → Type 0
Agree n s m k = (i : ℕ) → i < n → ¬ (i ∈ s) → exponent n k i ≡ exponent n m i

-- The law of next, among the monomials that agree with m outside s.
abbrev Follows : (n : ℕ) → List ℕ → (Row n → Bool) → Row n → Option (Row n) → Type 0
Follows n s excluded m none = (k : Row n) → Agree n s m k → lex n s m k ≡ Less → excluded k ≡ true
Follows n s excluded m (some r) = Agree n s m r × (lex n s m r ≡ Less) × (excluded r ≡ false)
    × ((k : Row n) → Agree n s m k → lex n s m k ≡ Less → lex n s k r ≡ Less → excluded k ≡ true)

module _ (n : ℕ) (m : Row n) (v : ℕ) (s : List ℕ) (within : v < n) (apart : ¬ (v ∈ s)) where
  pub carried_here : exponent n (carried n v s m) v ≡ suc (exponent n m v)
  unfolding carried
  carried_here = raise-same n v (clear n s m) within ∙ ap suc (clear-out n m s v apart)

  pub carried-zero : (i : ℕ) → i ∈ s → exponent n (carried n v s m) i ≡ 0
  unfolding carried
  carried-zero i h = raise-other n v (clear n s m) i (λ e. apart (subst (λ x. x ∈ s) e h)) ∙ clear_in n m s i h

  carried-agrees : Agree n (v ∷ s) m (carried n v s m)
  unfolding carried
  carried-agrees i l h = raise-other n v (clear n s m) i (λ e. h (Memᴰ.head e)) ∙ clear-out n m s i (λ j. h (Memᴰ.tail j))

  -- It divides all that agree with m outside v and s and have a higher exponent of v.
  carried-divides : (k : Row n) → Agree n (v ∷ s) m k → exponent n m v < exponent n k v → Divides (monomials n) (carried n v s m) k
  carried-divides k a h = (divisible-at n (carried n v s m) k).1 (λ i l. at i l (ℕ_discrete i v) (member? i s))
    where
      at : (i : ℕ) → i < n → Dec (i ≡ v) → Dec (i ∈ s) → exponent n (carried n v s m) i ≤ exponent n k i
      at i l (yes e) _ = rw e (omega (arith, carried_here))
      at i l (no p) (yes j) = omega (arith, carried-zero i j)
      at i l (no p) (no q) = omega (arith, carried-agrees i l (not-cons p q), a i l (not-cons p q))

  agree-rest : (k : Row n) → Agree n (v ∷ s) m k → exponent n m v ≡ exponent n k v → Agree n s m k
  agree-rest k a e i l q = at (ℕ_discrete i v)
    where
      at : Dec (i ≡ v) → exponent n k i ≡ exponent n m i
      at (yes p) = rw p (sym e)
      at (no p) = a i l (not-cons p q)

  module _ (excluded : Row n → Bool) where
    -- All above m that agree with it at v too are excluded: the exponent of v is raised.
    carry : Closed (monomials n) excluded → Follows n s excluded m none → (b : Bool) → excluded (carried n v s m) ≡ b
        → Follows n (v ∷ s) excluded m (elim b [ true ↦ none | false ↦ some (carried n v s m) ])
    carry closed f true e = λ k a l. at k a ((lex-cons-less n v s m k).0 l)
      where
        at : (k : Row n) → Agree n (v ∷ s) m k → LessAt n v s m k → excluded k ≡ true
        at k a (inl h) = closed (carried n v s m) k (carried-divides k a h) e
        at k a (inr p) = f k (agree-rest k a p.0) p.1
    carry closed f false e = (
      carried-agrees,
      (lex-cons-less n v s m (carried n v s m)).1 (inl (omega (arith, carried_here))),
      e,
      λ k a l g. at k a ((lex-cons-less n v s m k).0 l) ((lex-cons-less n v s k (carried n v s m)).0 g),
    )
      where
        at : (k : Row n) → Agree n (v ∷ s) m k → LessAt n v s m k → LessAt n v s k (carried n v s m) → excluded k ≡ true
        at k a (inl h) (inl q) = absurd (omega (arith, carried_here))
        at k a (inl h) (inr q) = absurd (zero-least n s k (carried n v s m) carried-zero q.1)
        at k a (inr p) _ = f k (agree-rest k a p.0) p.1

    -- The successor among those that agree with m at v too.
    stay : (r : Row n) → Follows n s excluded m (some r) → Follows n (v ∷ s) excluded m (some r)
    stay r f = (
      λ i l h. f.0 i l (λ j. h (Memᴰ.tail j)),
      (lex-cons-less n v s m r).1 (inr (sym same, f.1)),
      f.2,
      λ k a l g. at k a ((lex-cons-less n v s m k).0 l) ((lex-cons-less n v s k r).0 g),
    )
      where
        same : exponent n r v ≡ exponent n m v
        same = f.0 v within apart

        at : (k : Row n) → Agree n (v ∷ s) m k → LessAt n v s m k → LessAt n v s k r → excluded k ≡ true
        at k a (inl h) (inl q) = absurd (omega (arith, same))
        at k a (inl h) (inr q) = absurd (omega (arith, same, q.0))
        at k a (inr p) (inl q) = absurd (omega (arith, same, p.0))
        at k a (inr p) (inr q) = f.3 k (agree-rest k a p.0) p.1 q.1

next-follows : (n : ℕ) (s : List ℕ) → Once s → ((i : ℕ) → i ∈ s → i < n) → (excluded : Row n → Bool) → Closed (monomials n) excluded → (m : Row n)
    → Follows n s excluded m (next n s excluded m)
unfolding next lex
next-follows n [] once only excluded closed m = λ k a l. absurd (equal-not-less l)
next-follows n (v ∷ s) once only excluded closed m = at (next n s excluded m) (next-follows n s once.1 (λ i h. only i (Memᴰ.tail h)) excluded closed m)
  where
    within : v < n
    within = only v (Memᴰ.head refl)

    at : (x : Option (Row n)) → Follows n s excluded m x
        → Follows n (v ∷ s) excluded m (elim x [ none ↦ let r = carried n v s m in elim (excluded r) [ true ↦ none | false ↦ some r ] | some r ↦ some r ])
    at none f = carry n m v s within once.0 excluded closed f (excluded (carried n v s m)) refl
    at (some r) f = stay n m v s within once.0 excluded r f

pub next-lex : (n : ℕ) (s : List ℕ) → RanksOnce n s → Successors (monomials n) (LessBy (lex n s)) (next n s)
next-lex n s ranking excluded closed m = at (next n s excluded m) (next-follows n s ranking.once ranking.only excluded closed m)
  where
    agree : (k : Row n) → Agree n s m k
    agree k i l h = absurd (h (ranking.all i l))

    at : (x : Option (Row n)) → Follows n s excluded m x → Successor (LessBy (lex n s)) excluded m x
    at none f = λ k l. f k (agree k) l
    at (some r) f = (f.1, f.2, λ k l g. f.3 k (agree k) l g)

variables-from-bounds : (k i v : ℕ) → v ∈ variables_from i k → (i ≤ v) × (v < i + k)
unfolding variables_from
variables-from-bounds zero i v h = absurd (Memᴰ.not-nil h)
variables-from-bounds (suc k) i v h = at (Memᴰ.cases_cons h) (variables-from-bounds k (suc i) v)
  where
    at : (v ≡ i) ⊎ v ∈ variables_from (suc i) k → (v ∈ variables_from (suc i) k → (suc i ≤ v) × (v < suc i + k)) → (i ≤ v) × (v < i + suc k)
    at (inl e) r = (omega arith, omega arith)
    at (inr j) r = (omega (arith, (r j).0), omega (arith, (r j).1))

variables-from-once : (k i : ℕ) → Once (variables_from i k)
unfolding variables_from
variables-from-once zero i = tt
variables-from-once (suc k) i = (λ h. omega (arith, (variables-from-bounds k (suc i) i h).0), variables-from-once k (suc i))

pub variables-ranking : (n : ℕ) → RanksOnce n (variables n)
unfolding variables
variables-ranking n = record { once = variables-from-once n 0; all = λ i l. variables-rank n i l; only = λ i h. omega (arith, (variables-from-bounds n 0 i h).1) }
