-- What is known of the lines and the standard monomials found while monomials are visited in rising order, for any monomial ordering.
--   FoundLine n 𝓥 L lt B g     what is known of a line g: its tail, its image, the divisors of its leading monomial
--   Seen n 𝓥 L lt P G B        what is known of the lines G and the standard monomials B when the monomials that have P are seen
--   SeenBelow, AllSeen         all monomials smaller than m are seen; all monomials are seen
--   Downward lt P              with a monomial all smaller ones have P
--   line-dependent             the leading monomial of a line is dependent
--   seen-lead                  what is known of a leading monomial
--   reducible-dependent        what a leading monomial divides is dependent
--   seen-span                  the images of what is seen are combinations of those of B
--   seen-line                  a visited monomial whose image depends on those of B makes a line
--   seen-standard              a visited monomial whose image does not joins B
--   seen-onward                on to the next monomial to visit, or to the end
--   visited-divisors           the proper divisors of a visited monomial are in B
--   seen-divisors              and so are those of the leading monomials and of B's elements
--   found-few, visited-few     bounds on the number of lines and standard monomials, at any time and before a visit
use mathlib.Core.Path.{◌≡◌, refl, sym, ◌∙◌, ap, ap₂}
use mathlib.Core.Bool.{true}
use mathlib.Core.List.Memᴰ
use mathlib.Core.List.{List, [], ◌∷◌, ◌++◌}
use mathlib.Core.Logic.{◌⊎◌, inl, inr, ⊎_elim}
use mathlib.Core.Option.{Option}
use mathlib.Core.WellFounded.{induction}
use Prim.Native.Nat.{ℕ, ◌+◌, ◌*◌, ◌≤◌}
use native.Mathlib.Omega.{arith}
use lib.ListN.{length, length-append, length-map}
use Rattle.lists.specs.Lists.{◌∈◌, Once}
use Rattle.residue.specs.Field.{Arithmetic}
use Rattle.monomial.specs.Rows.{Row}
use Rattle.monomial.specs.Ordering.{Divides, monomials}
use Rattle.monomial.proofs.OrderLaws.{MonomialOrder}
use Rattle.monomial.proofs.AnyOrder.{irreflexive, divisor-below}
use Rattle.monomial.proofs.Products.{rows-laws}
use Rattle.groebner.specs.Polynomials.{Poly, All, negate}
use Rattle.groebner.specs.Lines.{Line, polynomial, Reducible, RisingList}
use Rattle.groebner.specs.RisingLists.{leads}
use Rattle.groebner.proofs.Modules.{Module, opposite-unique}
use Rattle.groebner.proofs.Ground.{divides-trans}
use Rattle.groebner.proofs.Linear.{all_map, all-scale, lin, lin-negate}
use Rattle.groebner.proofs.Lists.{once-append, of_map}
use Rattle.groebner.proofs.Spans.{LinearSpan, span-one, span-trans, Dependent, Shifts, dependent-up}
use Rattle.groebner.proofs.RisingLists.{rising-append, rising-once, leads-append}
use Rattle.groebner.proofs.Counting.{Divisors, few-above}
use Rattle.groebner.proofs.Successors.{Successor, UpTo, Precedes, precedes-of-up-to, up-to-of-precedes}
use Rattle.groebner.proofs.ReducibleTest.{reducible, reducible-iff}

-- With a monomial all smaller ones have P.
abbrev pub Downward : {M : Type 0} → (M → M → Type 0) → (M → Type 0) → Type 0
Downward {M} lt P = (y k : M) → lt y k → P k → P y

module _ {F : Type 0} {R : Arithmetic F} (n : ℕ) {W : Type 0} (𝓥 : Module R W) (L : Row n → W) where
  -- m - f, where m and f have the same image.
  image-zero : (m : Row n) (f : Poly F (Row n)) → L m ≡ lin 𝓥 L f → lin 𝓥 L (polynomial R (m, negate R f)) ≡ 𝓥.null
  unfolding lin polynomial
  image-zero m f e = ap₂ 𝓥.plus (𝓥.act_one (L m) ∙ e) (lin-negate 𝓥 L f) ∙ 𝓥.plus_opposite (lin 𝓥 L f)

  module _ (lt : Row n → Row n → Type 0) where
    -- A line found: its tail is a combination of smaller elements of B, its image is zero, and the proper divisors of its leading monomial are in B.
    pub record FoundLine (B : List (Row n)) (g : Line F (Row n)) : Type 0 where
      pub tail : All (λ k. (k ∈ B) × lt k g.0) g.1
      pub image : lin 𝓥 L (polynomial R g) ≡ 𝓥.null
      pub divisors : Divisors n g.0 B

    -- The monomials that have P are seen: each is in B or a multiple of a leading monomial.
    pub record Seen (P : Row n → Type 0) (G : List (Line F (Row n))) (B : List (Row n)) : Type 0 where
      pub cover : (k : Row n) → P k → (k ∈ B) ⊎ Reducible (monomials n) G k
      pub standard : (b : Row n) → b ∈ B → P b × ¬ Dependent 𝓥 L lt b
      pub lines : (g : Line F (Row n)) → g ∈ G → P g.0 × FoundLine B g
      pub rising_standard : RisingList lt B
      pub rising_lines : RisingList lt (leads G)

    -- All monomials smaller than m are seen.
    abbrev pub SeenBelow : Row n → List (Line F (Row n)) → List (Row n) → Type 0
    SeenBelow m G B = Seen (λ k. lt k m) G B

    -- All monomials are seen.
    abbrev pub AllSeen : List (Line F (Row n)) → List (Row n) → Type 0
    AllSeen G B = Seen (λ _. Unit) G B

    -- The leading monomial of a line equals the negated tail.
    pub line-dependent : (B : List (Row n)) (g : Line F (Row n)) → FoundLine B g → Dependent 𝓥 L lt g.0
    unfolding lin polynomial negate
    line-dependent B g f = (negate R g.1, all-scale R (R.neg R.one) (all_map (λ k p. p.1) f.tail), equal)
      where
        equal : L g.0 ≡ lin 𝓥 L (negate R g.1)
        equal = opposite-unique 𝓥 (lin 𝓥 L g.1) (L g.0) (𝓥.plus_comm _ _ ∙ ap (λ x. 𝓥.plus x (lin 𝓥 L g.1)) (sym (𝓥.act_one (L g.0))) ∙ f.image)
            ∙ sym (lin-negate 𝓥 L g.1)

    found-more : (B : List (Row n)) (m : Row n) (g : Line F (Row n)) → FoundLine B g → FoundLine (B ++ (m ∷ [])) g
    found-more B m g f = record {
      tail = all_map (λ k p. (Memᴰ.append_left (m ∷ []) p.0, p.1)) f.tail;
      image = f.image;
      divisors = λ d p q. Memᴰ.append_left (m ∷ []) (f.divisors d p q);
    }

    -- A leading monomial is dependent, and its proper divisors are in B.
    pub seen-lead : (P : Row n → Type 0) (G : List (Line F (Row n))) (B : List (Row n)) → Seen P G B → (k : Row n) → k ∈ leads G → P k × Dependent 𝓥 L lt k × Divisors n k B
    seen-lead P G B v k i = at (of_map (λ g. g.0) G i)
      where
        at : (g : Line F (Row n)) × g ∈ G × (k ≡ g.0) → P k × Dependent 𝓥 L lt k × Divisors n k B
        at (g, j, e) = let f = v.lines g j in rw e (f.0, line-dependent B g f.1, f.1.divisors)

    -- A visited monomial whose image depends on those of B makes a line.
    pub seen-line : (m : Row n) (G : List (Line F (Row n))) (B : List (Row n)) → SeenBelow m G B → Divisors n m B
        → (f : Poly F (Row n)) → All (λ k. k ∈ B) f → L m ≡ lin 𝓥 L f → Seen (UpTo lt m) (G ++ ((m, negate R f) ∷ [])) B
    unfolding negate
    seen-line m G B v divisors f a e = record {
      cover = reach;
      standard = λ b i. (inr (v.standard b i).0, (v.standard b i).1);
      lines = λ h i. at h (Memᴰ.append_cases G i);
      rising_standard = v.rising_standard;
      rising_lines = rw (leads-append G g) (rising-append lt (leads G) m v.rising_lines (λ k i. (seen-lead _ G B v k i).0));
    }
      where
        g : Line F (Row n)
        g = (m, negate R f)

        reach : (k : Row n) → UpTo lt m k → (k ∈ B) ⊎ Reducible (monomials n) (G ++ (g ∷ [])) k
        reach k (inl q) = inr (g, Memᴰ.append_right G (Memᴰ.head refl), ((monomials n).one, q ∙ sym ((rows-laws n).one_mul m)))
        reach k (inr l) = elim (v.cover k l) [ inl i ↦ inl i | inr r ↦ inr (r.0, Memᴰ.append_left (g ∷ []) r.1, r.2) ]

        new : FoundLine B g
        new = record { tail = all-scale R (R.neg R.one) (all_map (λ k i. (i, (v.standard k i).0)) a); image = image-zero m f e; divisors = divisors }

        at : (h : Line F (Row n)) → (h ∈ G) ⊎ (h ∈ (g ∷ [])) → UpTo lt m h.0 × FoundLine B h
        at h (inl i) = (inr (v.lines h i).0, (v.lines h i).1)
        at h (inr i) = rw (Memᴰ.eq_of_singleton i) (inl refl, new)

  module _ {lt : Row n → Row n → Type 0} (ord : MonomialOrder (monomials n) lt) where
    -- On to the next monomial to visit, or to the end.
    pub seen-onward : (m : Row n) (G : List (Line F (Row n))) (B : List (Row n)) → Seen lt (UpTo lt m) G B
        → (x : Option (Row n)) → Successor lt (reducible n G) m x → Seen lt (Precedes lt x) G B
    seen-onward m G B v x s = record {
      cover = λ k p. at k (up-to-of-precedes ord (reducible n G) m x s k p);
      standard = λ b i. (on b (v.standard b i).0, (v.standard b i).1);
      lines = λ g i. (on g.0 (v.lines g i).0, (v.lines g i).1);
      rising_standard = v.rising_standard;
      rising_lines = v.rising_lines;
    }
      where
        on : (k : Row n) → UpTo lt m k → Precedes lt x k
        on = precedes-of-up-to ord (reducible n G) m x s

        at : (k : Row n) → UpTo lt m k ⊎ (reducible n G k ≡ true) → (k ∈ B) ⊎ Reducible (monomials n) G k
        at k (inl u) = v.cover k u
        at k (inr e) = inr ((reducible-iff n G k).0 e)

    -- Where all that is smaller than k is in B or reducible, and no divisor of k is reducible.
    divisors-among : (k : Row n) (G : List (Line F (Row n))) (B : List (Row n)) → ((d : Row n) → lt d k → (d ∈ B) ⊎ Reducible (monomials n) G d)
        → ((d : Row n) → Divides (monomials n) d k → ¬ Reducible (monomials n) G d) → Divisors n k B
    divisors-among k G B cover free d p q = at (divisor-below (rows-laws n) ord p)
      where
        at : (d ≡ k) ⊎ lt d k → d ∈ B
        at (inl e) = absurd (q e)
        at (inr l) = ⊎_elim (λ i. i) (λ r. absurd (free d p r)) (cover d l)

    -- m is visited where all smaller monomials are seen and no leading monomial divides m.
    pub visited-divisors : (m : Row n) (G : List (Line F (Row n))) (B : List (Row n)) → SeenBelow lt m G B → ¬ Reducible (monomials n) G m → Divisors n m B
    visited-divisors m G B v free = divisors-among m G B v.cover (λ d p r. free (r.0, r.1, divides-trans (rows-laws n) r.2 p))

    module _ (shifts : Shifts 𝓥 L (monomials n)) where
      pub reducible-dependent : (P : Row n → Type 0) (G : List (Line F (Row n))) (B : List (Row n)) → Seen lt P G B → (k : Row n) → Reducible (monomials n) G k → Dependent 𝓥 L lt k
      reducible-dependent P G B v k r = dependent-up 𝓥 L ord shifts r.0.0 k r.2 (line-dependent lt B r.0 (v.lines r.0 r.1).1)

      -- The images of what is seen are combinations of those of B.
      pub seen-span : (P : Row n → Type 0) → Downward lt P → (G : List (Line F (Row n))) (B : List (Row n)) → Seen lt P G B
          → (k : Row n) → P k → LinearSpan 𝓥 L (λ b. b ∈ B) (L k)
      seen-span P down G B v k = induction ord.wf {C = λ k. P k → LinearSpan 𝓥 L (λ b. b ∈ B) (L k)} k each
        where
          each : (k : Row n) → ((y : Row n) → lt y k → P y → LinearSpan 𝓥 L (λ b. b ∈ B) (L y)) → P k → LinearSpan 𝓥 L (λ b. b ∈ B) (L k)
          each k below p = at (v.cover k p)
            where
              at : (k ∈ B) ⊎ Reducible (monomials n) G k → LinearSpan 𝓥 L (λ b. b ∈ B) (L k)
              at (inl i) = span-one 𝓥 L k i
              at (inr r) = span-trans 𝓥 L (λ y l. below y l (down y k l p)) (reducible-dependent P G B v k r)

      -- A visited monomial whose image does not depend on those of B joins B.
      pub seen-standard : (m : Row n) (G : List (Line F (Row n))) (B : List (Row n)) → SeenBelow lt m G B
          → ¬ LinearSpan 𝓥 L (λ k. k ∈ B) (L m) → Seen lt (UpTo lt m) G (B ++ (m ∷ []))
      seen-standard m G B v h = record {
        cover = reach;
        standard = λ b i. at b (Memᴰ.append_cases B i);
        lines = λ g i. (inr (v.lines g i).0, found-more lt B m g (v.lines g i).1);
        rising_standard = rising-append lt B m v.rising_standard (λ b i. (v.standard b i).0);
        rising_lines = v.rising_lines;
      }
        where
          reach : (k : Row n) → UpTo lt m k → (k ∈ (B ++ (m ∷ []))) ⊎ Reducible (monomials n) G k
          reach k (inl e) = inl (Memᴰ.append_right B (Memᴰ.head e))
          reach k (inr l) = elim (v.cover k l) [ inl i ↦ inl (Memᴰ.append_left (m ∷ []) i) | inr r ↦ inr r ]

          new : ¬ Dependent 𝓥 L lt m
          new s = h (span-trans 𝓥 L (seen-span (λ k. lt k m) (λ y k l p. ord.trans l p) G B v) s)

          at : (b : Row n) → (b ∈ B) ⊎ (b ∈ (m ∷ [])) → UpTo lt m b × ¬ Dependent 𝓥 L lt b
          at b (inl i) = (inr (v.standard b i).0, (v.standard b i).1)
          at b (inr i) = rw (Memᴰ.eq_of_singleton i) (inl refl, new)

      module _ (P : Row n → Type 0) (down : Downward lt P) (G : List (Line F (Row n))) (B : List (Row n)) (v : Seen lt P G B) where
        standard-divisors : (b : Row n) → b ∈ B → Divisors n b B
        standard-divisors b i = divisors-among b G B (λ d l. v.cover d (down d b l (v.standard b i).0))
            (λ d p r. (v.standard b i).1 (dependent-up 𝓥 L ord shifts d b p (reducible-dependent P G B v d r)))

        -- The proper divisors of what is found are in B.
        pub seen-divisors : (k : Row n) → k ∈ (leads G ++ B) → Divisors n k B
        seen-divisors k i = at (Memᴰ.append_cases (leads G) i)
          where
            at : (k ∈ leads G) ⊎ (k ∈ B) → Divisors n k B
            at (inl j) = (seen-lead lt P G B v k j).2
            at (inr j) = standard-divisors k j

        seen-once : Once (leads G ++ B)
        seen-once = once-append (leads G) B (rising-once ord (leads G) v.rising_lines) (rising-once ord B v.rising_standard)
            (λ k i j. (v.standard k j).1 (seen-lead lt P G B v k i).1)

        length_found : length (leads G ++ B) ≡ length G + length B
        length_found = omega (arith, length-append (leads G) B, length-map G (λ g. g.0))

        -- The bound at any time.
        pub found-few : length G + length B ≤ 1 + n * length B
        found-few = omega (arith, length_found, few-above n B (leads G ++ B) seen-once seen-divisors)

      -- Before a visit there is room for one more.
      pub visited-few : (m : Row n) (G : List (Line F (Row n))) (B : List (Row n)) → SeenBelow lt m G B → ¬ Reducible (monomials n) G m → length G + length B ≤ n * length B
      visited-few m G B v free = omega (arith, length_found P down G B v, few-above n B (m ∷ (leads G ++ B)) (new, seen-once P down G B v) divisors)
        where
          P : Row n → Type 0
          P k = lt k m

          down : Downward lt P
          down y k l p = ord.trans l p

          found : (k : Row n) → k ∈ (leads G ++ B) → lt k m
          found k i = at (Memᴰ.append_cases (leads G) i)
            where
              at : (k ∈ leads G) ⊎ (k ∈ B) → lt k m
              at (inl j) = (seen-lead lt P G B v k j).0
              at (inr j) = (v.standard k j).0

          new : ¬ (m ∈ (leads G ++ B))
          new i = irreflexive ord (found m i)

          divisors : (k : Row n) → k ∈ (m ∷ (leads G ++ B)) → Divisors n k B
          divisors k i = at (Memᴰ.cases_cons i)
            where
              at : (k ≡ m) ⊎ (k ∈ (leads G ++ B)) → Divisors n k B
              at (inl e) = rw e (visited-divisors m G B v free)
              at (inr j) = seen-divisors P down G B v k j
