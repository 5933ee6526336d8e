-- The checks of a line are those of the model.
--   Models check c     c is the one outcome of the check
--   refuse-iff         the model of one check, and those after it
--   header-iff         of the basis line
--   term-iff           of a term
--   terms-iff          of the later terms of a poly line
--   generator-iff      of a poly line
--   end-iff            of the end line
use Prim.Native.Nat.{ℕ, suc}
use mathlib.Core.Bool.{Bool, not}
use mathlib.Core.List.{List, [], ◌∷◌}
use mathlib.Core.Logic.{inl, inr, ◌↔◌}
use mathlib.Core.Option.{Option, none, some}
use mathlib.Core.Path.{◌≡◌, sym}
use Rattle.lists.specs.Lists.{Bytes}
use Rattle.monomial.specs.Sizes.{most_exponent}
use Rattle.answer.specs.Outcomes.{refuse◌if◌else◌}
use Rattle.lines.specs.Sizes.{most_lines, most_terms}
use Rattle.lines.specs.Terms.{Term, as_row}
use Rattle.tabtext.specs.Text.{bytes}
use Rattle.checks.specs.Checks.{check_header, check_term, check_terms, check_generator, check_end}
use Rattle.checks.proofs.Tests.{Decides, holds, fails, not-decides, both-decides, le-decides, eq-decides, each-decides, same-decides, modulus-decides, count-decides, smaller-decides}
use Rattle.checks.proofs.Model.{refuse◌when◌else◌, judge_header, judge_term, judge_terms, judge_generator, judge_end}

abbrev pub Models : (Option ℕ → Type 0) → Option ℕ → Type 0
Models check c = (o : Option ℕ) → check o ↔ (c ≡ o)

-- A check that has one outcome and no condition.
only-iff : (c : Option ℕ) → Models (λ o. o ≡ c) c
only-iff c o = (λ e. sym e, λ e. sym e)

pub refuse-iff : {P : Type 0} {later : Option ℕ → Type 0} {b : Bool} {c : Option ℕ} (number : ℕ) → Decides P b → Models later c
    → Models (refuse number if P else later) (refuse number when b else c)
refuse-iff {P} {later} number (holds h) m o = (from, λ e. inl (h, sym e))
  where
    from : (refuse number if P else later) o → some number ≡ o
    from (inl q) = sym q.1
    from (inr q) = absurd (q.0 h)
refuse-iff {P} {later} {c} number (fails n) m o = (from, λ e. inr (n, (m o).1 e))
  where
    from : (refuse number if P else later) o → c ≡ o
    from (inl q) = absurd (n q.0)
    from (inr q) = (m o).0 q.1

-- A check that refuses unless P holds.
unless-iff : {P : Type 0} {later : Option ℕ → Type 0} {b : Bool} {c : Option ℕ} (number : ℕ) → Decides P b → Models later c
    → Models (refuse number if ¬ P else later) (refuse number when not b else c)
unless-iff number d m = refuse-iff number (not-decides d) m

pub header-iff : (order : Bytes) (p n : ℕ) → Models (check_header order p n) (judge_header order p n)
unfolding judge_header
header-iff order p n =
    unless-iff 3 (same-decides order (bytes "grevlex"))
    (unless-iff 4 (modulus-decides p)
    (unless-iff 5 (count-decides n)
    (only-iff none)))

pub term-iff : {later : Option ℕ → Type 0} {c : Option ℕ} (p : ℕ) (t : Term) → Models later c → Models (check_term p t later) (judge_term p t c)
unfolding judge_term
term-iff p t m =
    unless-iff 6 (both-decides (le-decides 1 t.0) (le-decides (suc t.0) p))
    (unless-iff 7 (each-decides (λ e. le-decides e most_exponent) t.1)
    m)

pub terms-iff : (p n j : ℕ) (before : Term) (ts : List Term) → Models (check_terms p n j before ts) (judge_terms p n j before ts)
unfolding judge_terms
terms-iff p n j before [] = only-iff none
terms-iff p n j before (t ∷ ts) =
    refuse-iff 10 (le-decides (suc most_terms) j)
    (term-iff p t
    (unless-iff 8 (smaller-decides n (as_row n t.1) (as_row n before.1))
    (terms-iff p n (suc j) t ts)))

pub generator-iff : (p n k : ℕ) (ts : List Term) → Models (check_generator p n k ts) (judge_generator p n k ts)
unfolding judge_generator
generator-iff p n k [] = only-iff (some 2)
generator-iff p n k (t ∷ ts) =
    refuse-iff 10 (le-decides (suc most_lines) k)
    (term-iff p t
    (unless-iff 9 (eq-decides t.0 1)
    (terms-iff p n 2 t ts)))

pub end-iff : (k count : ℕ) → Models (check_end k count) (judge_end k count)
unfolding judge_end
end-iff k count = unless-iff 11 (eq-decides count k) (only-iff none)
