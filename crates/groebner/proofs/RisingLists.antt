-- Rising lists of monomials, for any order.
--   rising-append        a rising list, and a greater element at its end
--   rising-once          no element stands twice in a rising list
--   rising-unique        rising lists with the same elements are equal
--   rising-lines-unique  lines that rise likewise
--   lists-once           it lists each once
--   lists-unique         at most one list does so
--   leads-append         those of the lines G and of one more
--   rising-leads         lines rise by leading monomial if their leading monomials do
use mathlib.Core.Path.{◌≡◌, refl, sym, ◌∙◌, ap, ap₂, subst}
use mathlib.Core.List.Memᴰ
use mathlib.Core.List.{List, [], ◌∷◌, ◌++◌}
use mathlib.Core.Logic.{◌⊎◌, inl, inr}
use Rattle.lists.specs.Lists.{◌∈◌, Once}
use Rattle.monomial.specs.Ordering.{Monomials}
use Rattle.monomial.proofs.OrderLaws.{MonomialOrder}
use Rattle.monomial.proofs.AnyOrder.{asymmetric, irreflexive}
use Rattle.groebner.specs.Lines.{Line, Rising, RisingList}
use Rattle.groebner.specs.Conversions.{Lists}
use Rattle.groebner.specs.RisingLists.{ListsRising, leads}
use Rattle.groebner.proofs.Lists.{in_map}

pub rising-append : {M : Type 0} (lt : M → M → Type 0) (l : List M) (z : M) → RisingList lt l → ((y : M) → y ∈ l → lt y z) → RisingList lt (l ++ (z ∷ []))
rising-append lt [] z r h = (λ y i. absurd (Memᴰ.not-nil i), tt)
rising-append {M} lt (x ∷ l) z r h = (λ y i. at y (Memᴰ.append_cases l i), rising-append lt l z r.1 (λ y i. h y (Memᴰ.tail i)))
  where
    at : (y : M) → y ∈ l ⊎ y ∈ (z ∷ []) → lt x y
    at y (inl i) = r.0 y i
    at y (inr i) = rw (Memᴰ.eq_of_singleton i) (h x (Memᴰ.head refl))

-- Any relation that holds of no element and itself, and not both ways.
module _ {A : Type 0} {lt : A → A → Type 0} (never : (x : A) → ¬ lt x x) (one_way : (x y : A) → lt x y → ¬ lt y x) where
  -- What stands in a list behind its first element x, and in another whose first element is x, stands behind it there too.
  behind : (x y : A) (l k : List A) → x ≡ y → RisingList lt (x ∷ l) → ((z : A) → z ∈ (x ∷ l) → z ∈ (y ∷ k)) → (z : A) → z ∈ l → z ∈ k
  behind x y l k e r h z i = at (Memᴰ.cases_cons (h z (Memᴰ.tail i)))
    where
      at : (z ≡ y) ⊎ z ∈ k → z ∈ k
      at (inl q) = absurd (never x (subst (lt x) (q ∙ sym e) (r.0 z i)))
      at (inr j) = j

  same-elements : (l k : List A) → RisingList lt l → RisingList lt k → ((z : A) → z ∈ l → z ∈ k) → ((z : A) → z ∈ k → z ∈ l) → l ≡ k
  same-elements [] [] p q f g = refl
  same-elements [] (y ∷ k) p q f g = absurd (Memᴰ.not-nil (g y (Memᴰ.head refl)))
  same-elements (x ∷ l) [] p q f g = absurd (Memᴰ.not-nil (f x (Memᴰ.head refl)))
  same-elements (x ∷ l) (y ∷ k) p q f g = ap₂ ◌∷◌ same (same-elements l k p.1 q.1 (behind x y l k same p f) (behind y x k l (sym same) q g))
    where
      at : (x ≡ y) ⊎ x ∈ k → (y ≡ x) ⊎ y ∈ l → x ≡ y
      at (inl e) _ = e
      at (inr i) (inl e) = sym e
      at (inr i) (inr j) = absurd (one_way x y (p.0 y j) (q.0 x i))

      same : x ≡ y
      same = at (Memᴰ.cases_cons (f x (Memᴰ.head refl))) (Memᴰ.cases_cons (g y (Memᴰ.head refl)))

-- Lines that rise, as a rising list.
as-list : {F M : Type 0} (lt : M → M → Type 0) (G : List (Line F M)) → Rising lt G → RisingList (λ g h. lt g.0 h.0) G
as-list lt [] r = tt
as-list lt (g ∷ G) r = (r.0, as-list lt G r.1)

module _ {M : Type 0} {𝓜 : Monomials M} {lt : M → M → Type 0} (ord : MonomialOrder 𝓜 lt) where
  pub rising-once : (l : List M) → RisingList lt l → Once l
  rising-once [] r = tt
  rising-once (x ∷ l) r = (λ i. irreflexive ord (r.0 x i), rising-once l r.1)

  pub rising-unique : (l k : List M) → RisingList lt l → RisingList lt k → ((z : M) → z ∈ l → z ∈ k) → ((z : M) → z ∈ k → z ∈ l) → l ≡ k
  rising-unique = same-elements (λ x. irreflexive ord) (λ x y. asymmetric ord)

  pub rising-lines-unique : {F : Type 0} (G H : List (Line F M)) → Rising lt G → Rising lt H → ((g : Line F M) → g ∈ G → g ∈ H) → ((g : Line F M) → g ∈ H → g ∈ G) → G ≡ H
  rising-lines-unique G H a b = same-elements (λ x. irreflexive ord) (λ x y. asymmetric ord) G H (as-list lt G a) (as-list lt H b)

  pub lists-once : (P : M → Type 0) (l : List M) → ListsRising lt P l → Lists P l
  lists-once P l r = record { once = rising-once l r.rising; all = r.all; only = r.only }

  pub lists-unique : (P : M → Type 0) (l k : List M) → ListsRising lt P l → ListsRising lt P k → l ≡ k
  lists-unique P l k p q = rising-unique l k p.rising q.rising (λ z i. q.all z (p.only z i)) (λ z i. p.all z (q.only z i))

module _ {F M : Type 0} where
  pub leads-append : (G : List (Line F M)) (g : Line F M) → leads (G ++ (g ∷ [])) ≡ leads G ++ (g.0 ∷ [])
  leads-append [] g = refl
  leads-append (h ∷ G) g = ap (◌∷◌ h.0) (leads-append G g)

  pub rising-leads : (lt : M → M → Type 0) (G : List (Line F M)) → RisingList lt (leads G) → Rising lt G
  rising-leads lt [] r = tt
  rising-leads lt (g ∷ G) r = (λ h i. r.0 h.0 (in_map (λ g. g.0) i), rising-leads lt G r.1)
