-- Decisions over lists and numbers, and the list of finitely many elements.
--   among?         whether an element of a list has a decided property
--   below?         whether each number below n has a decided property
--   finite-list    of finitely many elements with a decided property, the list of them, each once
use mathlib.Core.Path.{◌≡◌, refl, sym, subst}
use mathlib.Core.List.Memᴰ
use mathlib.Core.List.{List, [], ◌∷◌}
use mathlib.Core.Logic.{⊎_elim, by_cases}
use Prim.Native.Nat.{ℕ, zero, suc, ◌<◌}
use native.Mathlib.Decide.{ℕ_discrete}
use native.Mathlib.Omega.{arith}
use Rattle.lists.specs.Lists.{◌∈◌}
use Rattle.groebner.specs.Standard.{Finite}
use Rattle.groebner.specs.Conversions.{Lists}
use Rattle.groebner.proofs.Members.{member?}

unfoldable pub among? : {A : Type 0} {P : A → Type 0} → ((x : A) → Dec (P x)) → (l : List A) → Dec ((x : A) × (x ∈ l) × P x)
among? P? [] = no (λ t. Memᴰ.not-nil t.1)
among? {A} {P} P? (y ∷ l) = go (P? y) (among? P? l)
  where
    go : Dec (P y) → Dec ((x : A) × (x ∈ l) × P x) → Dec ((x : A) × (x ∈ (y ∷ l)) × P x)
    go (yes h) r = yes (y, Memᴰ.head refl, h)
    go (no h) (yes t) = yes (t.0, Memᴰ.tail t.1, t.2)
    go (no h) (no r) = no (λ t. ⊎_elim (λ e. h (subst P e t.2)) (λ p. r (t.0, p, t.2)) (Memᴰ.cases_cons t.1))

unfoldable pub below? : {P : ℕ → Type 0} → ((i : ℕ) → Dec (P i)) → (n : ℕ) → Dec ((i : ℕ) → i < n → P i)
below? P? zero = yes (λ i h. absurd (omega arith))
below? {P} P? (suc n) = go (P? n) (below? P? n)
  where
    go : Dec (P n) → Dec ((i : ℕ) → i < n → P i) → Dec ((i : ℕ) → i < suc n → P i)
    go (yes p) (yes q) = yes (λ i h. by_cases (ℕ_discrete i n) (λ e. subst P (sym e) p) (λ e. q i (omega arith)))
    go (yes p) (no q) = no (λ a. q (λ i h. a i (omega arith)))
    go (no p) q = no (λ a. p (a n (omega arith)))

-- From a list that holds all elements with P to the list of them, each once.
module _ {A : Type 0} (same? : (x y : A) → Dec (x ≡ y)) {P : A → Type 0} (P? : (x : A) → Dec (P x)) where
  within : (l : List A) → (k : List A) × Lists (λ x. P x × x ∈ l) k
  within [] = ([], record { once = tt; all = λ x p. p.1; only = λ x i. absurd (Memᴰ.not-nil i) })
  within (y ∷ l) = go (within l) (P? y)
    where
      keep : (k : List A) → Lists (λ x. P x × x ∈ l) k → ((x : A) → (x ≡ y) → P x → x ∈ k) → Lists (λ x. P x × x ∈ (y ∷ l)) k
      keep k r h = record {
        once = r.once;
        all = λ x p. ⊎_elim (λ e. h x e p.0) (λ i. r.all x (p.0, i)) (Memᴰ.cases_cons p.1);
        only = λ x i. ((r.only x i).0, Memᴰ.tail (r.only x i).1);
      }

      add : (k : List A) → Lists (λ x. P x × x ∈ l) k → P y → ¬ (y ∈ k) → Lists (λ x. P x × x ∈ (y ∷ l)) (y ∷ k)
      add k r h new = record {
        once = (new, r.once);
        all = λ x p. ⊎_elim (λ e. Memᴰ.head e) (λ i. Memᴰ.tail (r.all x (p.0, i))) (Memᴰ.cases_cons p.1);
        only = λ x i. ⊎_elim (λ e. (subst P (sym e) h, Memᴰ.head e)) (λ j. ((r.only x j).0, Memᴰ.tail (r.only x j).1)) (Memᴰ.cases_cons i);
      }

      go : (k : List A) × Lists (λ x. P x × x ∈ l) k → Dec (P y) → (k : List A) × Lists (λ x. P x × x ∈ (y ∷ l)) k
      go (k, r) (no h) = (k, keep k r (λ x e p. absurd (h (subst P e p))))
      go (k, r) (yes h) = by_cases (member? same? y k) (λ i. (k, keep k r (λ x e p. Memᴰ.cast e i))) (λ new. (y ∷ k, add k r h new))

  pub finite-list : Finite P → (l : List A) × Lists P l
  finite-list f = let r = within f.0 in (r.0, record { once = r.1.once; all = λ x p. r.1.all x (p, f.1 x p); only = λ x i. (r.1.only x i).0 })
