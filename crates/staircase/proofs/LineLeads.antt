-- The leading monomials of the lines of a basis of the code.
--   line-lead    the leading monomial of a line is its first monomial
--   lines-lead   so it is of line k
--   leads-held   the leading monomials of the lines are those of the basis
--   leads-length there are as many as lines
--   leads-more   the first of these, with one more
use mathlib.Core.Path.{◌≡◌, refl, sym, ◌∙◌, ap}
use mathlib.Core.List.{List, [], ◌∷◌, ◌++◌, map}
use Prim.Native.Nat.{ℕ, suc, ◌<◌}
use native.Mathlib.Omega.{arith}
use lib.ListN.{length, get_or, take, length-map, get_or-map}
use lib.Seq.{take-suc}
use Rattle.arrayvec.specs.ArrayVec.{ArrayVec}
use Rattle.monomial.specs.Rows.{one}
use Rattle.monomial.specs.Represented.{row}
use Rattle.monomial.specs.declared.Monomial.{Monomial}
use Rattle.lines.specs.LineTerms.{term_of, terms_in, terms_of_lines, no_term, monomial_at}
use Rattle.lines.specs.Bases.{generators_in}
use Rattle.lines.specs.declared.line.LineTerm.{LineTerm}
use Rattle.lines.specs.declared.StoredBasis.{StoredBasis}
use Rattle.lines.proofs.AsRow.{as_row-exponents}
use Rattle.staircase.specs.TermLines.{line_of, lines_of}
use Rattle.staircase.specs.StoredLines.{stored_lines}
use Rattle.staircase.specs.Leads.{rows_of, leads_in, LeadsOf}
use Rattle.staircase.specs.Sound.{generator_at}
use Rattle.staircase.proofs.ArrayRows.{row-one}
use Rattle.staircase.proofs.LineElements.{line-at}

pub line-lead : (p : ℕ) (h : 1 < p) (n : ℕ) (g : List LineTerm) → (line_of p h n (terms_in n g)).0 ≡ row n (monomial_at g 0)
unfolding line_of terms_in term_of monomial_at no_term
line-lead p h n [] = sym (row-one n)
line-lead p h n (t ∷ g) = as_row-exponents n t.monomial

pub lines-lead : (b : StoredBasis) (h : 1 < b.p) (k : ℕ) → (get_or (stored_lines b h) k (one b.n, [])).0 ≡ row b.n (monomial_at (generator_at b k) 0)
lines-lead b h k = ap (λ g. g.0) (line-at b h k) ∙ line-lead b.p h b.n (generator_at b k)

rows-of-leads : (p : ℕ) (h : 1 < p) (n : ℕ) (ls : List (ArrayVec LineTerm))
    → rows_of n (map (λ (g : ArrayVec LineTerm). monomial_at g.items 0) ls) ≡ map (λ g. g.0) (lines_of p h n (terms_of_lines n ls))
unfolding rows_of lines_of terms_of_lines
rows-of-leads p h n [] = refl
rows-of-leads p h n (g ∷ ls) = λ i. sym (line-lead p h n g.items) i ∷ rows-of-leads p h n ls i

pub leads-held : (b : StoredBasis) → LeadsOf b (leads_in b)
unfolding leads_in stored_lines generators_in
leads-held b = (length-map b.lines.items (λ (g : ArrayVec LineTerm). monomial_at g.items 0), λ h. rows-of-leads b.p h b.n b.lines.items)

pub leads-length : (b : StoredBasis) → length (leads_in b) ≡ length b.lines.items
leads-length b = (leads-held b).0

pub leads-more : (b : StoredBasis) (k : ℕ) → k < length b.lines.items → take (suc k) (leads_in b) ≡ take k (leads_in b) ++ (monomial_at (generator_at b k) 0 ∷ [])
unfolding leads_in generator_at
leads-more b k l =
    let first : ArrayVec LineTerm → Monomial = λ g. monomial_at g.items 0 in
    take-suc (leads_in b) k (monomial_at [] 0) (omega (arith, l, leads-length b))
    ∙ ap (λ (m : Monomial). take k (leads_in b) ++ (m ∷ [])) (get_or-map first b.lines.items k (record { items = [] }))
