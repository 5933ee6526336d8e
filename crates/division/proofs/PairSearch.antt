-- The pairs of lines in turn, by later line and then by earlier line, until one fails.
--   EarlierPassed b j w i                 the pairs of line j with the first i lines passed, and the array holds zero
--   earlier-start                         before the first turn
--   earlier-turn, earlier-found           a turn whose pair passes, and one whose pair fails
--   earlier-stop                          the end
--   LinesPassed b w j                     the pairs of the first j lines with earlier lines passed; likewise
--   lines_start                           before the first turn
--   lines-turn, lines-found, lines-stop   a turn whose line passes, one whose line fails, and the end
use mathlib.Core.Path.{◌≡◌, refl, sym, ◌∙◌}
use mathlib.Core.Bool.{Bool, true, false, false≢true}
use mathlib.Core.List.{List}
use Prim.Native.Nat.{ℕ, ◌+◌, ◌≤◌, ◌<◌}
use native.Mathlib.Omega.{arith}
use Rattle.std.specs.Prelude.{Some, None}
use borrow.Author.Count.{below_more}
use lib.ListN.{length, get_or}
use Rattle.lines.specs.declared.StoredBasis.{StoredBasis}
use Rattle.staircase.proofs.SmallestLine.{smallest-found, smallest-none}
use Rattle.division.specs.GrevlexPlace.{place, space}
use Rattle.division.specs.CoefficientArray.{Work}
use Rattle.division.specs.PairRemainders.{Pairable, PairableOn, PairFails, PairSays, EarlierSays, FirstFailing}
use Rattle.division.proofs.FailingPlaces.{failing-places}

pub record EarlierPassed (b : StoredBasis) (j : ℕ) (w : List ℕ) (i : ℕ) : Type 0 where
  pub ready : PairableOn b w
  pub passed : (k : ℕ) → k < i → (h : 1 < b.p) → ¬ PairFails b h k j

pub earlier-start : {b : StoredBasis} {j : ℕ} {w : List ℕ} → PairableOn b w → EarlierPassed b j w 0
earlier-start q = record { ready = q; passed = λ k l. absurd (omega arith) }

module _ {b : StoredBasis} {j : ℕ} {w : List ℕ} {i : ℕ} (s : EarlierPassed b j w i) where
  module _ {w' : List ℕ} {r : Bool} (l : i < j) (a : PairSays b i j w' r) where
    pub earlier-turn : r ≡ false → EarlierPassed b j w' (i + 1)
    earlier-turn q = record {
      ready = record { pairs = s.ready.pairs; work = a.work; zero = a.zero q };
      passed = below_more _ _ s.passed (λ h f. false≢true (sym q ∙ (a.verdict h).1 f));
    }

    pub earlier-found : r ≡ true → EarlierSays b j w' true
    earlier-found q = record { verdict = λ h. (λ _. (i, l, (a.verdict h).0 q), λ _. refl); work = a.work; zero = λ e. absurd (false≢true (sym e)) }

  pub earlier-stop : j ≤ i → EarlierSays b j w false
  earlier-stop l = record {
    verdict = λ h. (λ e. absurd (false≢true e), λ f. absurd (s.passed f.0 (omega (arith, f.1)) h f.2));
    work = s.ready.work;
    zero = λ _. s.ready.zero;
  }

pub record LinesPassed (b : StoredBasis) (w : List ℕ) (j : ℕ) : Type 0 where
  pub ready : PairableOn b w
  pub passed : (k : ℕ) → k < j → (h : 1 < b.p) → ¬ ((i : ℕ) × (i < k) × PairFails b h i k)

pub lines_start : {b : StoredBasis} (w : List ℕ) → Pairable b → space ≤ length w → ((k : ℕ) → get_or w k 0 ≡ 0) → LinesPassed b w 0
lines_start {b} w q room z = record {
  ready = record { pairs = q; work = work; zero = λ a. z (place b.n a) };
  passed = λ k l. absurd (omega arith);
}
  where
    h : 1 < b.p
    h = q.sound.modulus.prime.above_one

    work : Work b.p b.n w
    work = record {
      modulus = q.sound.modulus;
      variables = q.sound.variables;
      room = room;
      residues = λ a. rw (z (place b.n a)) (omega (arith, h));
    }

module _ {b : StoredBasis} {w : List ℕ} {j : ℕ} (s : LinesPassed b w j) where
  module _ {w' : List ℕ} {r : Bool} (l : j < length b.lines.items) (a : EarlierSays b j w' r) where
    pub lines-turn : r ≡ false → LinesPassed b w' (j + 1)
    lines-turn q = record {
      ready = record { pairs = s.ready.pairs; work = a.work; zero = a.zero q };
      passed = below_more _ _ s.passed (λ h f. false≢true (sym q ∙ (a.verdict h).1 f));
    }

    pub lines-found : r ≡ true → FirstFailing b (Some (j + 2))
    lines-found q h = smallest-found (failing-places b h) j l ((a.verdict h).0 q) (λ k i. s.passed k i h)

  pub lines-stop : length b.lines.items ≤ j → FirstFailing b None
  lines-stop l h = smallest-none (failing-places b h) (λ k i. s.passed k (omega arith) h)
