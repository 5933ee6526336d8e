-- Inner contracts. The basis that a value of the code holds, and what the answers of the code say.
--   basis_of b        the basis that b holds
--   Ahead n s terms   the terms stand at the front of s
--   LaterSays         what the answer to the later terms of a poly line says
--   GeneratorSays     what the answer to a poly line says
--   Stops             the verdict on the lines that come after k poly lines
--   EndSays           what the answer to the end line says
--   PassedLine        a poly line stands at a place, and passes
--   LineSays          what the answer to a line after the basis line says
--   LinesSays         what the answer to the lines after the basis line says
--   BasisSays         what the answer to a text says
use Rattle.std.specs.Prelude.{ℕ, suc, ◌≤◌, ◌<◌, ◌≡◌, List, [], ◌∷◌, true, false, length, drop, ⊤, Result, Ok, Err, Option, Some, None}
use Rattle.std.proofs.Math.Option.{none, some}
use Rattle.arrayvec.specs.ArrayVec.{ArrayVec}
use Rattle.lists.specs.Lists.{Bytes}
use Rattle.answer.specs.Verdicts.{judged}
use Rattle.answer.specs.Outcomes.{refused, passed}
use Rattle.answer.specs.Refusals.{number}
use Rattle.answer.specs.declared.Refusal.{Refusal}
use Rattle.answer.specs.declared.Refused.{Refused}
use Rattle.lines.specs.Bases.{PaddedLine, PaddedBasis, generators_in}
use Rattle.lines.specs.Terms.{Term}
use Rattle.lines.specs.LineTerms.{term_of, terms_in}
use Rattle.lines.specs.declared.line.LineTerm.{LineTerm}
use Rattle.lines.specs.declared.StoredBasis.{StoredBasis}
use Rattle.tabtext.specs.Text.{generator, end}
use Rattle.tabtext.specs.Readers.{got, starts_with, read_term}
use Rattle.checks.specs.Checks.{check_terms, check_generator, Front, Remaining, Checked}
use Rattle.checks.specs.Checks as checks

-- The basis that a value holds.
unfoldable pub basis_of : StoredBasis → checks.Basis
unfolding generators_in
basis_of b = record { p = b.p; n = b.n; generators = generators_in b }

-- The terms stand at the front of s, a tab before each, and no tab after them.
abbrev pub Ahead : ℕ → Bytes → List Term → Type 0
Ahead n s [] = starts_with 9 s ≡ false
Ahead n s (t ∷ ts) = (rest : Bytes) × (starts_with 9 s ≡ true) × (read_term n (drop 1 s) ≡ got t rest) × Ahead n rest ts

-- The answer to the terms after the first, which is `before` as it was read: the outcome of their checks, and all terms if they pass.
abbrev pub LaterSays : (p n : ℕ) → LineTerm → Term → List Term → Result (ArrayVec LineTerm) Refusal → Type 0
LaterSays p n first before left (Ok r) = check_terms p n 2 before left none × (terms_in n r.items ≡ term_of n first ∷ left) × PaddedLine n r.items
LaterSays p n first before left (Err k) = check_terms p n 2 before left (some (number k))

-- The answer to the k-th poly line, with the given terms: the outcome of its checks, and the terms if it passes.
abbrev pub GeneratorSays : (p n k : ℕ) → List Term → Result (ArrayVec LineTerm) Refusal → Type 0
GeneratorSays p n k terms (Ok g) = check_generator p n k terms none × (terms_in n g.items ≡ terms) × PaddedLine n g.items
GeneratorSays p n k terms (Err r) = check_generator p n k terms (some (number r))

-- v is the verdict on the lines s that come after k poly lines, whatever these are.
abbrev pub Stops : (p n k : ℕ) → Bytes → Result ⊤ Refused → Type 0
Stops p n k s v = (got : List (List Term)) → length got ≡ k → Remaining p n (judged v (record { p = p; n = n; generators = got })) got s

-- The answer to the end line after k poly lines, with the given count; `rest` is what stands after it.
abbrev pub EndSays : (k count : ℕ) → Bytes → Result ⊤ Refused → Type 0
EndSays k count rest v = (p n : ℕ) (s : Bytes) → Front n s (end count) rest → Stops p n k s v

-- At the place `at`, after k poly lines, stands the poly line g, and passes; the text goes on at i.
pub record PassedLine (p n k : ℕ) (s : Bytes) (at i : ℕ) (g : List LineTerm) : Type 0 where
  pub front : Front n (drop at s) (generator (terms_in n g)) (drop i s)
  pub passes : check_generator p n (suc k) (terms_in n g) none
  pub padded : PaddedLine n g
  pub after : at < i
  pub inside : i ≤ length s

-- The answer to the line at a place, after k poly lines: a poly line that passes, and the place after it; or the verdict.
abbrev pub LineSays : (p n k : ℕ) → Bytes → ℕ → Result (Option (ArrayVec LineTerm × ℕ)) Refused → Type 0
LineSays p n k s at (Ok (Some (g, i))) = PassedLine p n k s at i g.items
LineSays p n k s at (Ok None) = Stops p n k (drop at s) (Ok tt)
LineSays p n k s at (Err e) = Stops p n k (drop at s) (Err e)

-- The answer to the lines s after the basis line: they pass, and ls are the lines of the basis; or the refusal.
abbrev pub LinesSays : (p n : ℕ) → Bytes → Result ⊤ Refused → ArrayVec (ArrayVec LineTerm) → Type 0
LinesSays p n s (Ok _) ls = let b : StoredBasis = record { p = p; n = n; lines = ls } in Remaining p n (passed (basis_of b)) [] s × PaddedBasis b
LinesSays p n s (Err e) ls = Remaining p n (refused (number e.refusal) e.line) [] s

-- The answer to a text: the outcome of checks 2 to 11, and the basis b if it passes. If it is refused, b is free.
abbrev pub BasisSays : Bytes → Result ⊤ Refused → StoredBasis → Type 0
BasisSays s (Ok _) b = Checked s (passed (basis_of b)) × PaddedBasis b
BasisSays s (Err e) b = Checked s (refused (number e.refusal) e.line)
