-- The rows of the products x_i·B_s commute exactly if the lines of the basis are a Groebner basis, and as many lines as variables are one.
--   candidate-fillable  such a basis can have its rows filled
--   acceptance          the answer of `is_groebner`, by those of `fill` and `commute`
--   square-acceptance   the answer yes where there are as many lines as variables
use mathlib.Core.Path.{◌≡◌, ◌∙◌, subst}
use mathlib.Core.Bool.{Bool, true}
use mathlib.Core.List.{List}
use mathlib.Core.Logic.Iff
use mathlib.Core.Logic.{◌↔◌}
use Prim.Native.Nat.{◌<◌}
use native.Mathlib.Omega.{arith}
use lib.ListN.{length}
use Rattle.residue.specs.Prime.{Prime}
use Rattle.residue.specs.Field.{modulo}
use Rattle.monomial.specs.Rows.{one}
use Rattle.monomial.specs.Ordering.{monomials, Grevlex}
use Rattle.monomial.proofs.GrevlexOrder.{grevlex-order}
use Rattle.groebner.specs.Lines.{Reducible}
use Rattle.groebner.specs.Criteria.{Low}
use Rattle.groebner.specs.Bases.{Groebner}
use Rattle.groebner.specs.MultiplicationRows.{RowsCommute}
use Rattle.groebner.proofs.Instance.{ground, criterion}
use Rattle.groebner.proofs.MultiplicationRows.{rows-commute-iff}
use Rattle.groebner.proofs.PowerLeads.{square-groebner}
use Rattle.groebner.proofs.RisingLists.{lists-once}
use Rattle.lines.specs.declared.StoredBasis.{StoredBasis}
use Rattle.staircase.specs.StoredLines.{stored_lines}
use Rattle.staircase.specs.Sound.{Sound}
use Rattle.staircase.specs.Listed.{listed}
use Rattle.monomial.specs.declared.Monomial.{Monomial}
use Rattle.staircase.proofs.ArrayRows.{rows-length}
use Rattle.staircase.proofs.LineElements.{stored-lines-length}
use Rattle.multiplication.specs.Rows.{cell_of}
use Rattle.multiplication.specs.declared.rows.Tables.{Tables}
use Rattle.multiplication.specs.Filling.{Fillable, FilledRows}
use Rattle.multiplication.specs.Criterion.{Candidate, Acceptance}

abbrev prime_at : (b : StoredBasis) → Sound b → 1 < b.p → Prime b.p
prime_at b sound h = record { above_one = h; no_divisor = sound.modulus.prime.no_divisor }

module _ {b : StoredBasis} {l : List Monomial} (candidate : Candidate b l) where
  open candidate use {sound, irreducibles, lines, clear, zero_dimensional}

  low : (h : 1 < b.p) → Low (Grevlex b.n) (stored_lines b h)
  low h g q = ((lines h).falling g q).0

  pub candidate-fillable : Fillable b l
  candidate-fillable = record { sound = sound; irreducibles = irreducibles; low = low }

  module _ {t : Tables} (rows : FilledRows b l t) (r : Bool) where
    rows-decide : (h : 1 < b.p)
        → RowsCommute (modulo b.p h) b.n (length l) (cell_of b.p h t) ↔ Groebner (modulo b.p h) (monomials b.n) (Grevlex b.n) (stored_lines b h)
    rows-decide h =
        let size = rows-length b.n l in
        subst (λ d. RowsCommute (modulo b.p h) b.n d (cell_of b.p h t) ↔ Groebner (modulo b.p h) (monomials b.n) (Grevlex b.n) (stored_lines b h)) size
        (rows-commute-iff b.n (ground b.p (prime_at b sound h) b.n) (grevlex-order b.n) (stored_lines b h) (low h) (listed b.n l) (one b.n) (cell_of b.p h t) (clear h)
        (lists-once (grevlex-order b.n) (λ m. ¬ Reducible (monomials b.n) (stored_lines b h) m) (listed b.n l) (irreducibles.lists h))
        (λ i u s v. rows.filled h i u s (omega (arith, size))))

    answered : ((h : 1 < b.p) → (r ≡ true) ↔ Groebner (modulo b.p h) (monomials b.n) (Grevlex b.n) (stored_lines b h)) → Acceptance b l r t
    answered groebner = record {
      groebner = groebner;
      buchberger = λ h. Iff.trans (groebner h) (Iff.symm (criterion b.p (prime_at b sound h) b.n (stored_lines b h) (lines h)));
      below = rows.below;
      filled = rows.filled;
    }

    pub acceptance : ((h : 1 < b.p) → (r ≡ true) ↔ RowsCommute (modulo b.p h) b.n (length l) (cell_of b.p h t)) → Acceptance b l r t
    acceptance test = answered (λ h. Iff.trans (test h) (rows-decide h))

    pub square-acceptance : length b.lines.items ≡ b.n → r ≡ true → Acceptance b l r t
    square-acceptance square e = answered (λ h. (
      λ _. square-groebner (modulo b.p h) b.n (stored_lines b h) (zero_dimensional h) (clear h) (stored-lines-length b h ∙ square)
          (ground b.p (prime_at b sound h) b.n) (grevlex-order b.n) (low h),
      λ _. e,
    ))
