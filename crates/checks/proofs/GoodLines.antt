-- The basis lines that pass checks 3 to 5, and the poly lines that pass checks 6 to 10.
--   GoodHeader          the order word is grevlex, p and n are allowed
--   passes-header       a basis line that passes is good
--   GoodTerm p t        the coefficient is 1 to p - 1, and no exponent is over 32
--   FallingTerms n ts   each term is smaller in grevlex than the one before it
--   GoodLine p n ts     a poly line of the form, of good terms, monic, falling, of at most 33 terms
--   skipped, required   of a check that passes the condition does not hold; what it requires does
--   met                 a check passes if what it requires holds
--   passes-term         a term that passes is good
--   passes-good         a poly line of the form that passes is good, and one of the first 97
--   good-passes         a good line passes, if it is one of the first 97
use Prim.Native.Nat.{ℕ, suc, ◌+◌, ◌≤◌, ◌<◌}
use mathlib.Core.Bool.{Bool}
use mathlib.Core.List.{List, [], ◌∷◌}
use mathlib.Core.Logic.{◌⊎◌, inl, inr}
use mathlib.Core.Option.{Option, none, some}
use mathlib.Core.Path.{◌≡◌, refl}
use native.Mathlib.Omega.{arith}
use lib.ListN.{length}
use Rattle.lists.specs.Lists.{Bytes, Each}
use Rattle.residue.specs.Prime.{Modulus}
use Rattle.monomial.specs.Sizes.{VariableCount, most_exponent}
use Rattle.monomial.specs.Ordering.{Grevlex}
use Rattle.lines.specs.Sizes.{most_lines, most_terms}
use Rattle.lines.specs.Terms.{Term, as_row}
use Rattle.lines.specs.LineTerms.{Monic}
use Rattle.tabtext.specs.Text.{bytes, generator, Form}
use Rattle.checks.specs.Checks.{check_header, check_term, check_terms, check_generator}
use Rattle.checks.proofs.Tests.{Decides, holds, fails, both-decides, le-decides, eq-decides, each-decides, same-decides, modulus-decides, count-decides, smaller-decides}

abbrev pub GoodTerm : ℕ → Term → Type 0
GoodTerm p t = (1 ≤ t.0) × (t.0 < p) × Each (λ e. e ≤ most_exponent) t.1

abbrev pub FallingTerms : ℕ → List Term → Type 0
FallingTerms n [] = Unit
FallingTerms n (t ∷ []) = Unit
FallingTerms n (t ∷ u ∷ ts) = Grevlex n (as_row n u.1) (as_row n t.1) × FallingTerms n (u ∷ ts)

pub record GoodLine (p n : ℕ) (ts : List Term) : Type 0 where
  pub form : Form n (generator ts)
  pub terms : Each (GoodTerm p) ts
  pub monic : Monic ts
  pub falling : FallingTerms n ts
  pub size : length ts ≤ most_terms

-- A check that passes: its condition does not hold, and the checks after it pass.
pub skipped : {P Later : Type 0} {number : ℕ} → (P × (◌≡◌ {A = Option ℕ} none (some number))) ⊎ ((¬ P) × Later) → (¬ P) × Later
skipped (inl q) = let e = q.1 in let z : ◌≡◌ {A = ℕ} 0 1 = cc in absurd (omega arith)
skipped (inr q) = q

-- A check that requires P.
pub required : {P Later : Type 0} {b : Bool} {number : ℕ} → Decides P b → ((¬ P) × (◌≡◌ {A = Option ℕ} none (some number))) ⊎ ((¬ ¬ P) × Later) → P × Later
required (holds h) c = (h, (skipped c).1)
required (fails n) c = absurd ((skipped c).0 n)

-- A check passes if what it requires holds.
pub met : {P Later Refused : Type 0} → P → Later → ((¬ P) × Refused) ⊎ ((¬ ¬ P) × Later)
met h l = inr (λ n. n h, l)

pub record GoodHeader (order : Bytes) (p n : ℕ) : Type 0 where
  pub word : order ≡ bytes "grevlex"
  pub modulus : Modulus p
  pub variables : VariableCount n

pub passes-header : (order : Bytes) (p n : ℕ) → check_header order p n none → GoodHeader order p n
passes-header order p n c =
    let x = required (same-decides order (bytes "grevlex")) c in
    let y = required (modulus-decides p) x.1 in
    let z = required (count-decides n) y.1 in
    record { word = x.0; modulus = y.0; variables = z.0 }

pub passes-term : {Later : Type 0} (p : ℕ) (t : Term) → check_term p t (λ _. Later) none → GoodTerm p t × Later
passes-term p t c =
    let x = required (both-decides (le-decides 1 t.0) (le-decides (suc t.0) p)) c in
    let y = required (each-decides (λ e. le-decides e most_exponent) t.1) x.1 in
    ((x.0.0, x.0.1, y.0), y.1)

term-passes : {Later : Type 0} (p : ℕ) (t : Term) → GoodTerm p t → Later → check_term p t (λ _. Later) none
term-passes p t g l = met (g.0, g.1) (met g.2 l)

passes-terms : (p n j : ℕ) (before : Term) (ts : List Term) → j ≤ suc most_terms → check_terms p n j before ts none
    → Each (GoodTerm p) ts × FallingTerms n (before ∷ ts) × (length ts + j ≤ suc most_terms)
passes-terms p n j before [] h c = (tt, tt, omega arith)
passes-terms p n j before (t ∷ ts) h c =
    let x = skipped c in
    let y = passes-term p t x.1 in
    let z = required (smaller-decides n (as_row n t.1) (as_row n before.1)) y.1 in
    let w = passes-terms p n (suc j) t ts (omega (arith, x.0)) z.1 in
    ((y.0, w.0), (z.0, w.1), omega (arith, w.2))

terms-pass : (p n j : ℕ) (before : Term) (ts : List Term) → Each (GoodTerm p) ts → FallingTerms n (before ∷ ts) → length ts + j ≤ suc most_terms → check_terms p n j before ts none
terms-pass p n j before [] g f h = refl
terms-pass p n j before (t ∷ ts) g f h =
    inr (omega arith, term-passes p t g.0 (met f.0 (terms-pass p n (suc j) t ts g.1 f.1 (omega arith))))

pub passes-good : (p n k : ℕ) (ts : List Term) → Form n (generator ts) → check_generator p n k ts none → (k ≤ most_lines) × GoodLine p n ts
passes-good p n k [] form c = absurd (omega (arith, form.0))
passes-good p n k (t ∷ ts) form c =
    let x = skipped c in
    let y = passes-term p t x.1 in
    let z = required (eq-decides t.0 1) y.1 in
    let w = passes-terms p n 2 t ts (omega arith) z.1 in
    (omega (arith, x.0), record { form = form; terms = (y.0, w.0); monic = z.0; falling = w.1; size = omega (arith, w.2) })

pub good-passes : (p n k : ℕ) (ts : List Term) → k ≤ most_lines → GoodLine p n ts → check_generator p n k ts none
good-passes p n k [] h g = absurd g.monic
good-passes p n k (t ∷ ts) h g =
    inr (omega arith, term-passes p t g.terms.0 (met g.monic (terms-pass p n 2 t ts g.terms.1 g.falling (omega (arith, g.size)))))
