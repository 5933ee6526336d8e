-- A basis of the code that passed checks 2 to 11 is sound.
--   term-at          term k of a line, as a term of the text
--   good-sound       a line whose terms make a good line of a text is sound
--   checked-sound    so is a basis of the code that checks 2 to 11 pass
use mathlib.Core.Path.{◌≡◌, sym, ◌∙◌, ap, subst, subst₂}
use mathlib.Core.List.{List, [], ◌∷◌}
use Prim.Native.Nat.{ℕ, zero, suc, ◌≤◌, ◌<◌}
use native.Mathlib.Nat.{le_refl}
use native.Mathlib.Omega.{arith}
use lib.ListN.{length, get_or, get_or-map}
use lib.Seq.{take-length}
use Rattle.lists.specs.Lists.{Bytes, Each}
use Rattle.lists.proofs.EachElement.{each_take}
use Rattle.monomial.specs.Sizes.{most_exponent}
use Rattle.monomial.specs.Rows.{Row, exponent}
use Rattle.monomial.specs.Ordering.{Grevlex}
use Rattle.monomial.specs.Represented.{row}
use Rattle.answer.specs.Outcomes.{passed}
use Rattle.lines.specs.Terms.{Term, as_row}
use Rattle.lines.specs.LineTerms.{exponents_of, term_of, terms_in, no_term, coefficient_at, monomial_at, Monic}
use Rattle.lines.specs.declared.line.LineTerm.{LineTerm}
use Rattle.lines.specs.declared.StoredBasis.{StoredBasis}
use Rattle.lines.proofs.AsRow.{as_row-exponents}
use Rattle.checks.specs.Checks.{Checked}
use Rattle.checks.specs.Answers.{basis_of}
use Rattle.checks.proofs.GoodLines.{GoodTerm, FallingTerms, GoodLine}
use Rattle.checks.proofs.Passes.{good-text-iff}
use Rattle.staircase.specs.Sound.{generator_at, SoundLine, Sound}
use Rattle.staircase.proofs.LineElements.{generators-length, generator-terms, terms-length}

each_at : {A : Type 0} (P : A → Type 0) (d : A) (l : List A) → Each P l → (i : ℕ) → i < length l → P (get_or l i d)
each_at P d l e = (each_take P d (length l) l (le_refl _)).0 (rw take-length e)

-- Past the end of the exponents the row has 0.
exponents-at : (n most : ℕ) (l : List ℕ) → Each (λ e. e ≤ most) l → (i : ℕ) → exponent n (as_row n l) i ≤ most
unfolding as_row exponent
exponents-at zero most l e i = omega arith
exponents-at (suc n) most [] e zero = omega arith
exponents-at (suc n) most [] e (suc i) = exponents-at n most [] tt i
exponents-at (suc n) most (x ∷ l) e zero = e.0
exponents-at (suc n) most (x ∷ l) e (suc i) = exponents-at n most l e.1 i

monic-at : (d : Term) (ts : List Term) → Monic ts → (get_or ts 0 d).0 ≡ 1
monic-at d [] m = absurd m
monic-at d (t ∷ ts) m = m

falling-at : (n : ℕ) (d : Term) (ts : List Term) → FallingTerms n ts → (k : ℕ) → suc k < length ts → Grevlex n (as_row n (get_or ts (suc k) d).1) (as_row n (get_or ts k d).1)
falling-at n d [] f k h = absurd (omega arith)
falling-at n d (t ∷ []) f k h = absurd (omega arith)
falling-at n d (t ∷ u ∷ ts) f zero h = f.0
falling-at n d (t ∷ u ∷ ts) f (suc k) h = falling-at n d (u ∷ ts) f.1 k (omega arith)

module _ (p n : ℕ) (g : List LineTerm) where
  abbrev terms : List Term
  terms = terms_in n g

  -- Past the end of the line stands no_term.
  abbrev none : Term
  none = term_of n no_term

  pub term-at : (k : ℕ) → get_or terms k none ≡ (coefficient_at g k, exponents_of n (monomial_at g k))
  unfolding terms_in term_of coefficient_at monomial_at
  term-at k = get_or-map (term_of n) g k no_term

  row-of-term : (k : ℕ) → as_row n (get_or terms k none).1 ≡ row n (monomial_at g k)
  row-of-term k = ap (λ (t : Term). as_row n t.1) (term-at k) ∙ as_row-exponents n (monomial_at g k)

  pub good-sound : GoodLine p n terms → SoundLine p n g
  good-sound good = record {
    some = omega (arith, good.form.0, many);
    few = omega (arith, good.size, many);
    monic = sym (ap (λ (t : Term). t.0) (term-at 0)) ∙ monic-at none terms good.monic;
    coefficients = λ k l. let t = term k l in (t.0, t.1);
    exponents = λ k l i _. subst (λ (r : Row n). exponent n r i ≤ most_exponent) (as_row-exponents n (monomial_at g k)) (exponents-at n most_exponent _ (term k l).2 i);
    falling = λ k l. subst₂ (Grevlex n) (row-of-term (suc k)) (row-of-term k) (falling-at n none terms good.falling k (omega (arith, many)));
  }
    where
      many : length terms ≡ length g
      many = terms-length n g

      term : (k : ℕ) → k < length g → GoodTerm p (coefficient_at g k, exponents_of n (monomial_at g k))
      term k l = subst (GoodTerm p) (term-at k) (each_at (GoodTerm p) none terms good.terms k (omega (arith, many)))

pub checked-sound : (b : StoredBasis) (s : Bytes) → Checked s (passed (basis_of b)) → Sound b
unfolding basis_of
checked-sound b s c =
    let w = (good-text-iff s (basis_of b)).0 c in
    let many = generators-length b in
    record {
      modulus = w.modulus;
      variables = w.variables;
      few = omega (arith, w.size, many);
      lines = λ k l. good-sound b.p b.n (generator_at b k)
          (subst (GoodLine b.p b.n) (generator-terms b k) (each_at (GoodLine b.p b.n) [] (basis_of b).generators w.good k (omega (arith, many))));
    }
