-- Searches among the elements of a list, or the first ones of an array, and tests of all numbers below n.
--   any-iff      an element of a list passes a test, by places
--   any-places   it does so too where its places are tried
--   passes-iff   an element of the first ones passes a test, by places
--   each-iff     all numbers below n have P
use mathlib.Core.Path.{◌≡◌, refl, sym, ◌∙◌, ap, ap₂, subst}
use mathlib.Core.Bool.{Bool, true, false, false≢true, ◌||◌}
use mathlib.Core.List.{List, [], ◌∷◌}
use mathlib.Core.Logic.{◌↔◌}
use Prim.Native.Nat.{ℕ, zero, suc, ◌+◌, ◌≤◌, ◌<◌}
use native.Mathlib.Numerals.{add-one}
use native.Mathlib.Omega.{arith}
use lib.ListN.{length, get_or, take}
use lib.Seq.{length-take-le, get_or-take}
use Rattle.std.specs.List.{list_any, range_with_len, AllWithin, HoldsAt}
use Rattle.std.specs.Bool.{MatchBool}
use Rattle.std.proofs.lemmas.List.{get_or_default}
use Rattle.std.proofs.lemmas.List.FromFn.{get_or-range_with_len, length-range_with_len}
use Rattle.std.proofs.lemmas.List.Folds.{Any-from_list_any, list_any_at}

pub any-iff : {A : Type 0} (p : A → Bool) (xs : List A) (d : A) {t : Bool} → t ≡ list_any p xs → (t ≡ true) ↔ ((j : ℕ) × (j < length xs) × (p (get_or xs j d) ≡ true))
any-iff p xs d e = (
  λ q. let (j, x, l, s, o) = Any-from_list_any p xs (sym e ∙ q) in (j, omega (arith, l), ap p (get_or_default xs j d x (omega (arith, l)) ∙ s) ∙ o),
  λ (j, l, o). e ∙ list_any_at p xs j d (omega (arith, l)) o,
)

any-after : (p : ℕ → Bool) (a n : ℕ) → list_any p (range_with_len (a + 1) n) ≡ list_any (λ k. p (suc k)) (range_with_len a n)
any-after p a zero = refl
any-after p a (suc n) = ap₂ (λ t u. t || u) (ap p (add-one a)) (any-after p (a + 1) n)

pub any-places : {A : Type 0} (p : A → Bool) (xs : List A) (d : A) → list_any (λ k. p (get_or xs k d)) (range_with_len 0 (length xs)) ≡ list_any p xs
any-places p [] d = refl
any-places p (x ∷ xs) d = ap (λ t. p x || t) (any-after (λ k. p (get_or (x ∷ xs) k d)) 0 (length xs) ∙ any-places p xs d)

pub passes-iff : {A : Type 0} (p : A → Bool) (xs : List A) (count : ℕ) (d : A) {t : Bool} → count ≤ length xs → t ≡ list_any p (take count xs)
    → (t ≡ true) ↔ ((j : ℕ) × (j < count) × (p (get_or xs j d) ≡ true))
passes-iff p xs count d {t} h e =
    let i : (t ≡ true) ↔ ((j : ℕ) × (j < length (take count xs)) × (p (get_or (take count xs) j d) ≡ true)) = any-iff p (take count xs) d e in (
      λ q. let (j, l, o) = i.0 q in let l' : j < count = omega (arith, l, length-take-le count xs h) in (j, l', ap p (sym (get_or-take count xs j d l')) ∙ o),
      λ (j, l, o). i.1 (j, omega (arith, l, length-take-le count xs h), ap p (get_or-take count xs j d l) ∙ o),
    )

module _ (P : ℕ → Type 0) (n : ℕ) where
  number : (k : ℕ) → k < n → get_or (range_with_len 0 n) k 0 ≡ k
  number k l = omega (arith, get_or-range_with_len 0 n k 0 l)

  pub each-iff : (t : Bool)
      → MatchBool t (AllWithin (λ v. (true ≡ true) ↔ P v) (range_with_len 0 n) 0 (length (range_with_len 0 n)))
      ((k : ℕ) × (k < length (range_with_len 0 n)) × HoldsAt (λ v. (false ≡ true) ↔ P v) (range_with_len 0 n) k)
      → (t ≡ true) ↔ ((v : ℕ) → v < n → P v)
  each-iff true a = (λ _ v l. (subst (λ u. (true ≡ true) ↔ P u) (number v l) (a v 0 (omega arith) (omega (arith, l, length-range_with_len 0 n)))).0 refl, λ _. refl)
  each-iff false (k, l, f) =
      let l' : k < n = omega (arith, l, length-range_with_len 0 n) in
      (λ z. absurd (false≢true z), λ a. (subst (λ u. (false ≡ true) ↔ P u) (number k l') (f 0)).1 (a k l'))
