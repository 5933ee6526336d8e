-- The FGLM enumeration as a function, for any monomial ordering with a successor function.
-- Monomials are visited in rising order from 1, without the multiples of leading monomials found before (document 01; 001, 002). One whose
-- image depends on those of the standard monomials found before makes a line; any other is a standard monomial.
--   Progress n E                                                          the state of the elimination, the lines and the standard monomials found so far
--   visited n E p                                                         how many monomials are visited so far
--   extend n E p m a                                                      p with the elimination's answer a to m
--   visit n E p m                                                         p after a visit to m
--   begin n E                                                             nothing is found
--   after_visit n E next p m                                              the monomial to visit after m
--   run_from n E next fuel p m                                            the visits from m on, at most fuel of them
--   ToVisit n E lt p m                                                    what is known before a visit to m
--   Visited n E lt p m                                                    what is known after it
--   Complete n E lt p                                                     what is known at the end
--   Proceeds n E lt p x                                                   what is known where x is the next to visit, or none is left
--   standard_few                                                          at the end there are at most D standard monomials
--   to-visit-divisors, to-visit-exponents, to-visit-few, to-visit-lines   consequences of ToVisit
--   begin-to-visit                                                        the enumeration begins with a visit to 1
--   visit-visited                                                         a visit does what it should
--   visit-proceeds                                                        and then the next monomial is to be visited, or none is left
--   run_ends                                                              from each visit on the enumeration ends
--   enumeration                                                           it ends after at most 1 + n·D visits; EnumerationResult says what it has found
use mathlib.Core.Path.{◌≡◌, refl}
use mathlib.Core.Bool.{Bool}
use mathlib.Core.List.Memᴰ
use mathlib.Core.List.{List, [], ◌∷◌, ◌++◌}
use mathlib.Core.Logic.{◌⊎◌, inl, inr}
use mathlib.Core.Option.{Option, none, some}
use Prim.Native.Nat.{ℕ, zero, suc, ◌+◌, ◌*◌, ◌≤◌, ◌<◌}
use native.Mathlib.Nat.{mul-le-mul_left}
use native.Mathlib.Omega.{arith}
use lib.ListN.{length, length-append}
use Rattle.residue.specs.Field.{Arithmetic}
use Rattle.monomial.specs.Rows.{Row, one, exponent}
use Rattle.monomial.specs.Ordering.{monomials}
use Rattle.monomial.proofs.OrderLaws.{MonomialOrder}
use Rattle.monomial.proofs.AnyOrder.{one-least}
use Rattle.monomial.proofs.Products.{rows-laws}
use Rattle.groebner.specs.Polynomials.{Poly, negate}
use Rattle.groebner.specs.Lines.{Line, Reducible}
use Rattle.groebner.proofs.Modules.{Module}
use Rattle.groebner.proofs.Spans.{Shifts}
use Rattle.groebner.proofs.Elimination.{AddedVector, Elimination}
use Rattle.groebner.proofs.Counting.{Divisors, exponent-bounded, bound-monotone}
use Rattle.groebner.proofs.Successors.{Successor, Successors, UpTo}
use Rattle.groebner.proofs.ReducibleTest.{reducible, irreducible-iff, reducible-closed}
use Rattle.groebner.proofs.Seen.{Seen, SeenBelow, AllSeen, seen-line, seen-standard, seen-onward, visited-divisors, visited-few}

module _ {F : Type 0} {R : Arithmetic F} (n : ℕ) {W : Type 0} {𝓥 : Module R W} {L : Row n → W} {D : ℕ} (E : Elimination 𝓥 L D) where
  open E use {State, start, add, Holds, start_holds, add_holds, room}

  -- What is found so far, and the state of the elimination.
  pub record Progress : Type 0 where
    pub state : State
    pub lines : List (Line F (Row n))
    pub standard : List (Row n)

  -- How many monomials are visited.
  abbrev pub visited : Progress → ℕ
  visited p = length p.lines + length p.standard

  -- m equals a combination f of standard monomials, and m - f is a line; or m is a standard monomial.
  unfoldable pub extend : Progress → Row n → Poly F (Row n) ⊎ State → Progress
  unfolding negate
  extend p m (inl f) = record { state = p.state; lines = p.lines ++ ((m, negate R f) ∷ []); standard = p.standard }
  extend p m (inr s) = record { state = s; lines = p.lines; standard = p.standard ++ (m ∷ []) }

  -- The elimination tells which of the two.
  unfoldable pub visit : Progress → Row n → Progress
  unfolding extend
  visit p m = extend p m (add p.state p.standard m)

  -- Nothing is found.
  abbrev pub begin : Progress
  begin = record { state = start; lines = []; standard = [] }

  module _ (next : (Row n → Bool) → Row n → Option (Row n)) where
    -- The monomial to visit after m.
    abbrev pub after_visit : Progress → Row n → Option (Row n)
    after_visit p m = next (reducible n (visit p m).lines) m

    -- From m on, with at most that many visits.
    unfoldable pub run_from : ℕ → Progress → Row n → Option Progress
    unfolding visit reducible
    run_from zero p m = none
    run_from (suc fuel) p m = let q = visit p m in elim (next (reducible n q.lines) m) [ none ↦ some q | some r ↦ run_from fuel q r ]

  module _ (lt : Row n → Row n → Type 0) where
    -- m is to be visited: all smaller monomials are seen, and no leading monomial divides m.
    pub record ToVisit (p : Progress) (m : Row n) : Type 0 where
      pub seen : SeenBelow n 𝓥 L lt m p.lines p.standard
      pub free : ¬ Reducible (monomials n) p.lines m
      pub holds : Holds p.state p.standard

    -- m is visited: it and all smaller monomials are seen.
    pub record Visited (p : Progress) (m : Row n) : Type 0 where
      pub seen : Seen n 𝓥 L lt (UpTo lt m) p.lines p.standard
      pub holds : Holds p.state p.standard

    -- All monomials are seen.
    pub record Complete (p : Progress) : Type 0 where
      pub seen : AllSeen n 𝓥 L lt p.lines p.standard
      pub holds : Holds p.state p.standard

    -- Another monomial is to be visited, or all are seen.
    abbrev pub Proceeds : Progress → Option (Row n) → Type 0
    Proceeds p none = Complete p
    Proceeds p (some r) = ToVisit p r

    -- At most D standard monomials are found.
    pub standard_few : (p : Progress) → Complete p → length p.standard ≤ D
    standard_few p c = room p.state p.standard c.holds

  module _ {lt : Row n → Row n → Type 0} (ord : MonomialOrder (monomials n) lt) (shifts : Shifts 𝓥 L (monomials n)) where
    -- What is known of the next monomial to visit.
    module _ (p : Progress) (m : Row n) (v : ToVisit lt p m) where
      -- Its proper divisors are standard monomials found before.
      pub to-visit-divisors : Divisors n m p.standard
      to-visit-divisors = visited-divisors n 𝓥 L ord m p.lines p.standard v.seen v.free

      pub to-visit-exponents : (i : ℕ) → i < n → exponent n m i ≤ D
      to-visit-exponents i l = omega (arith, exponent-bounded n m p.standard to-visit-divisors i l, room p.state p.standard v.holds)

      -- At most n·D monomials are visited so far, and lines are few enough for one more.
      few : visited p ≤ n * length p.standard
      few = visited-few n 𝓥 L ord shifts m p.lines p.standard v.seen v.free

      pub to-visit-few : visited p ≤ n * D
      to-visit-few = omega (arith, few, mul-le-mul_left n (room p.state p.standard v.holds))

      pub to-visit-lines : 0 < n → length p.lines + D ≤ n * D
      to-visit-lines h = omega (arith, bound-monotone n 0 (length p.lines) (length p.standard) D (omega (arith, few)) (room p.state p.standard v.holds) h)

    pub visit-visited : (p : Progress) (m : Row n) → ToVisit lt p m → Visited lt (visit p m) m × (visited (visit p m) ≡ suc (visited p))
    unfolding visit extend
    visit-visited p m v = at (add p.state p.standard m) (add_holds p.state p.standard m v.holds)
      where
        at : (a : Poly F (Row n) ⊎ State) → AddedVector 𝓥 L Holds p.standard m a → Visited lt (extend p m a) m × (visited (extend p m a) ≡ suc (visited p))
        at (inl f) h = (
          record { seen = seen-line n 𝓥 L lt m p.lines p.standard v.seen (to-visit-divisors p m v) f h.0 h.1; holds = v.holds },
          omega (arith, length-append p.lines ((m, negate R f) ∷ [])),
        )
        at (inr s) h = (
          record { seen = seen-standard n 𝓥 L ord shifts m p.lines p.standard v.seen h.1; holds = h.0 },
          omega (arith, length-append p.standard (m ∷ [])),
        )

    pub begin-to-visit : ToVisit lt begin (one n)
    unfolding monomials
    begin-to-visit = record {
      seen = record {
        cover = λ k l. absurd (one-least (rows-laws n) ord k l);
        standard = λ b i. absurd (Memᴰ.not-nil i);
        lines = λ g i. absurd (Memᴰ.not-nil i);
        rising_standard = tt;
        rising_lines = tt;
      };
      free = λ r. Memᴰ.not-nil r.1;
      holds = start_holds;
    }

    module _ (next : (Row n → Bool) → Row n → Option (Row n)) (successors : Successors (monomials n) lt next) where
      pub visit-proceeds : (p : Progress) (m : Row n) → ToVisit lt p m → Proceeds lt (visit p m) (after_visit next p m)
      visit-proceeds p m v = at (after_visit next p m) (successors (reducible n G) (reducible-closed n G) m)
        where
          G : List (Line F (Row n))
          G = (visit p m).lines

          w : Visited lt (visit p m) m
          w = (visit-visited p m v).0

          at : (x : Option (Row n)) → Successor lt (reducible n G) m x → Proceeds lt (visit p m) x
          at none s = record { seen = seen-onward n 𝓥 L ord m G (visit p m).standard w.seen none s; holds = w.holds }
          at (some r) s = record { seen = seen-onward n 𝓥 L ord m G (visit p m).standard w.seen (some r) s; free = (irreducible-iff n G r).0 s.1; holds = w.holds }

      pub run_ends : (fuel : ℕ) (p : Progress) (m : Row n) → ToVisit lt p m → n * D < visited p + fuel → (q : Progress) × (run_from next fuel p m ≡ some q) × Complete lt q
      unfolding run_from
      run_ends zero p m v l = absurd (omega (arith, to-visit-few p m v))
      run_ends (suc fuel) p m v l = at (after_visit next p m) (visit-proceeds p m v) (run_ends fuel (visit p m))
        where
          at : (x : Option (Row n)) → Proceeds lt (visit p m) x
              → ((r : Row n) → ToVisit lt (visit p m) r → n * D < visited (visit p m) + fuel → (q : Progress) × (run_from next fuel (visit p m) r ≡ some q) × Complete lt q)
              → (q : Progress) × (elim x [ none ↦ some (visit p m) | some r ↦ run_from next fuel (visit p m) r ] ≡ some q) × Complete lt q
          at none c rest = (visit p m, refl, c)
          at (some r) w rest = rest r w (omega (arith, (visit-visited p m v).1))

      -- The enumeration ends, after at most 1 + n·D visits.
      pub enumeration : (q : Progress) × (run_from next (1 + n * D) begin (one n) ≡ some q) × Complete lt q
      enumeration = run_ends (1 + n * D) begin (one n) begin-to-visit (omega arith)
