-- Decisions and searches to compute with: what a decision says where it computes to yes, and decisions of compound statements.
--   HoldsTrue d, decided             the decision d is yes; then what it decides holds
--   Decided o, decided-found         the search o has found something; what that is
--   not?, both?, either?, implies?   decisions of ¬ A, A × B, A ⊎ B, A → B
--   as?                              the decision of an equivalent statement
--   each?, pairs?, once?             of each element of a list, of each earlier and later one, that none stands twice
use mathlib.Core.Path.{◌≡◌, refl, sym, subst}
use mathlib.Core.List.Memᴰ
use mathlib.Core.List.{List, [], ◌∷◌}
use mathlib.Core.Logic.{◌⊎◌, inl, inr}
use mathlib.Core.Option.{Option, none, some}
use Rattle.lists.specs.Lists.{◌∈◌, Once}
use Rattle.lists.specs.Pairs.{Before}

-- The decision is yes.
abbrev pub HoldsTrue : {A : Type 0} → Dec A → Type 0
HoldsTrue (yes a) = Unit
HoldsTrue (no n) = ⊥

pub decided : {A : Type 0} (d : Dec A) → HoldsTrue d → A
decided (yes a) h = a
decided (no n) h = absurd h

-- The search has found something.
abbrev pub Decided : {A : Type 0} → Option A → Type 0
Decided none = ⊥
Decided (some a) = Unit

pub decided-found : {A : Type 0} (o : Option A) → Decided o → A
decided-found none h = absurd h
decided-found (some a) h = a

unfoldable pub not? : {A : Type 0} → Dec A → Dec (¬ A)
not? (yes a) = no (λ n. n a)
not? (no n) = yes n

unfoldable pub both? : {A B : Type 0} → Dec A → Dec B → Dec (A × B)
both? (no n) d = no (λ x. n x.0)
both? (yes a) (no n) = no (λ x. n x.1)
both? (yes a) (yes b) = yes (a, b)

unfoldable pub either? : {A B : Type 0} → Dec A → Dec B → Dec (A ⊎ B)
either? (yes a) d = yes (inl a)
either? (no n) (yes b) = yes (inr b)
either? {A} {B} (no n) (no k) = no neither
  where
    neither : A ⊎ B → ⊥
    neither (inl a) = n a
    neither (inr b) = k b

unfoldable pub implies? : {A B : Type 0} → Dec A → Dec B → Dec (A → B)
implies? (no n) d = yes (λ a. absurd (n a))
implies? (yes a) (yes b) = yes (λ x. b)
implies? (yes a) (no k) = no (λ i. k (i a))

-- An equivalent statement.
unfoldable pub as? : {A B : Type 0} → (A → B) → (B → A) → Dec A → Dec B
as? to back (yes a) = yes (to a)
as? to back (no n) = no (λ b. n (back b))

module _ {A : Type 0} where
  unfoldable pub each? : {P : A → Type 0} → ((x : A) → Dec (P x)) → (l : List A) → Dec ((x : A) → x ∈ l → P x)
  unfolding both? as?
  each? P? [] = yes (λ x i. absurd (Memᴰ.not-nil i))
  each? {P} P? (h ∷ l) = as? (λ b x i. at b x (Memᴰ.cases_cons i)) (λ e. (e h (Memᴰ.head refl), λ x i. e x (Memᴰ.tail i))) (both? (P? h) (each? P? l))
    where
      at : P h × ((x : A) → x ∈ l → P x) → (x : A) → (x ≡ h) ⊎ (x ∈ l) → P x
      at b x (inl e) = subst P (sym e) b.0
      at b x (inr i) = b.1 x i

  unfoldable pub pairs? : {P : A → A → Type 0} → ((x y : A) → Dec (P x y)) → (l : List A) → Dec ((x y : A) → Before x y l → P x y)
  unfolding both? as? each?
  pairs? P? [] = yes (λ x y b. absurd b)
  pairs? {P} P? (h ∷ l) = as? at (λ e. (λ y i. e h y (inl (refl, i)), λ x y b. e x y (inr b))) (both? (each? (P? h) l) (pairs? P? l))
    where
      at : ((y : A) → y ∈ l → P h y) × ((x y : A) → Before x y l → P x y) → (x y : A) → Before x y (h ∷ l) → P x y
      at b x y (inl e) = subst (λ z. P z y) (sym e.0) (b.0 y e.1)
      at b x y (inr e) = b.1 x y e

  unfoldable pub once? : ((x y : A) → Dec (x ≡ y)) → (l : List A) → Dec (Once l)
  unfolding not? both? as? each?
  once? equal? [] = yes tt
  once? equal? (h ∷ l) = both? (as? (λ e i. e h i refl) (λ n y i q. n (subst (λ z. z ∈ l) (sym q) i)) (each? (λ y. not? (equal? h y)) l)) (once? equal? l)
