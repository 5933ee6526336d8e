-- What the enumeration finds: the lines G and the standard monomials B when all monomials are seen, for any monomial ordering.
--   MinimalDependent n 𝓥 L lt m   m is dependent, and none of its proper divisors is
--   found-standard-iff            B has the monomials that are not dependent
--   standard-irreducible          they are those that no leading monomial divides
--   dependent-iff                 the dependent monomials are those that a leading monomial divides
--   standard-list                 B lists them in rising order
--   standard-span                 every image is a combination of those of B
--   lead-iff                      the leading monomials are the minimal dependent monomials
--   lead-list                     and stand in rising order
--   lines-rising                  the lines rise by leading monomial
--   found-divisors                the proper divisors of standard monomials and of leading monomials are in B
--   found-exponents               no exponent of these passes a bound on the length of B
--   lines-few                     with at most D standard monomials there are at most 1 + (n - 1)·D lines
use mathlib.Core.Path.{◌≡◌, sym}
use mathlib.Core.List.Memᴰ
use mathlib.Core.List.{List, ◌++◌}
use mathlib.Core.Logic.{◌↔◌, ⊎_elim}
use Prim.Native.Nat.{ℕ, ◌+◌, ◌*◌, ◌≤◌, ◌<◌}
use native.Mathlib.Omega.{arith}
use lib.ListN.{length}
use Rattle.lists.specs.Lists.{◌∈◌}
use Rattle.residue.specs.Field.{Arithmetic}
use Rattle.monomial.specs.Rows.{Row, exponent}
use Rattle.monomial.specs.Ordering.{Divides, monomials}
use Rattle.monomial.proofs.OrderLaws.{MonomialOrder}
use Rattle.groebner.specs.Lines.{Line, Reducible, Rising}
use Rattle.groebner.specs.RisingLists.{ListsRising, leads}
use Rattle.groebner.proofs.Modules.{Module}
use Rattle.groebner.proofs.Lists.{in_map}
use Rattle.groebner.proofs.Spans.{LinearSpan, Dependent, Shifts}
use Rattle.groebner.proofs.RisingLists.{rising-leads}
use Rattle.groebner.proofs.Counting.{Divisors, exponent-bounded, bound-monotone}
use Rattle.groebner.proofs.Seen.{Downward, AllSeen, seen-lead, seen-span, seen-divisors, found-few, line-dependent, reducible-dependent}

module _ {F : Type 0} {R : Arithmetic F} (n : ℕ) {W : Type 0} (𝓥 : Module R W) (L : Row n → W) where
  -- m is dependent, and no proper divisor of m is.
  abbrev pub MinimalDependent : (Row n → Row n → Type 0) → Row n → Type 0
  MinimalDependent lt m = Dependent 𝓥 L lt m × ((d : Row n) → Divides (monomials n) d m → ¬ (d ≡ m) → ¬ Dependent 𝓥 L lt d)

  module _ {lt : Row n → Row n → Type 0} (ord : MonomialOrder (monomials n) lt) (shifts : Shifts 𝓥 L (monomials n))
      (G : List (Line F (Row n))) (B : List (Row n)) (v : AllSeen n 𝓥 L lt G B) where
    every : Downward lt (λ _. Unit)
    every y k l p = tt

    reducible-dependent-all : (k : Row n) → Reducible (monomials n) G k → Dependent 𝓥 L lt k
    reducible-dependent-all = reducible-dependent n 𝓥 L ord shifts (λ _. Unit) G B v

    -- The standard monomials found are those that are not dependent.
    pub found-standard-iff : (k : Row n) → (k ∈ B) ↔ (¬ Dependent 𝓥 L lt k)
    found-standard-iff k = (λ i. (v.standard k i).1, λ h. ⊎_elim (λ i. i) (λ r. absurd (h (reducible-dependent-all k r))) (v.cover k tt))

    -- They are those that no leading monomial divides.
    pub standard-irreducible : (k : Row n) → (k ∈ B) ↔ (¬ Reducible (monomials n) G k)
    standard-irreducible k = (λ i r. (v.standard k i).1 (reducible-dependent-all k r), λ h. ⊎_elim (λ i. i) (λ r. absurd (h r)) (v.cover k tt))

    -- The others are those that a leading monomial divides.
    pub dependent-iff : (k : Row n) → Dependent 𝓥 L lt k ↔ Reducible (monomials n) G k
    dependent-iff k = (λ s. ⊎_elim (λ i. absurd ((v.standard k i).1 s)) (λ r. r) (v.cover k tt), reducible-dependent-all k)

    pub standard-list : ListsRising lt (λ k. ¬ Dependent 𝓥 L lt k) B
    standard-list = record { rising = v.rising_standard; all = λ k. (found-standard-iff k).1; only = λ k. (found-standard-iff k).0 }

    -- The leading monomials are the minimal dependent monomials.
    pub lead-iff : (k : Row n) → (k ∈ leads G) ↔ MinimalDependent lt k
    lead-iff k = (minimal, found)
      where
        minimal : k ∈ leads G → MinimalDependent lt k
        minimal i = let s = seen-lead n 𝓥 L lt (λ _. Unit) G B v k i in (s.1, λ d p q. (v.standard d (s.2 d p q)).1)

        found : MinimalDependent lt k → k ∈ leads G
        found h = at ((dependent-iff k).0 h.0)
          where
            at : Reducible (monomials n) G k → k ∈ leads G
            at (g, i, d) = same ((monomials n).same? g.0 k)
              where
                same : Dec (g.0 ≡ k) → k ∈ leads G
                same (yes e) = Memᴰ.cast (sym e) (in_map (λ g. g.0) i)
                same (no e) = absurd (h.1 g.0 d e (line-dependent n 𝓥 L lt B g (v.lines g i).1))

    pub lead-list : ListsRising lt (MinimalDependent lt) (leads G)
    lead-list = record { rising = v.rising_lines; all = λ k. (lead-iff k).1; only = λ k. (lead-iff k).0 }

    -- The lines rise by leading monomial.
    pub lines-rising : Rising lt G
    lines-rising = rising-leads lt G v.rising_lines

    -- The proper divisors of the standard monomials and of the leading monomials are standard monomials.
    pub found-divisors : (k : Row n) → k ∈ (leads G ++ B) → Divisors n k B
    found-divisors = seen-divisors n 𝓥 L ord shifts (λ _. Unit) every G B v

    -- Every image is a combination of those of the standard monomials.
    pub standard-span : (k : Row n) → LinearSpan 𝓥 L (λ b. b ∈ B) (L k)
    standard-span k = seen-span n 𝓥 L ord shifts (λ _. Unit) every G B v k tt

    module _ (D : ℕ) (few : length B ≤ D) where
      -- No exponent of a standard monomial or of a leading monomial passes D.
      pub found-exponents : (k : Row n) → k ∈ (leads G ++ B) → (i : ℕ) → i < n → exponent n k i ≤ D
      found-exponents k j i l = omega (arith, exponent-bounded n k B (found-divisors k j) i l)

      -- There are at most 1 + (n - 1)·D lines.
      pub lines-few : 0 < n → length G + D ≤ 1 + n * D
      lines-few h = bound-monotone n 1 (length G) (length B) D (found-few n 𝓥 L ord shifts (λ _. Unit) every G B v) few h
