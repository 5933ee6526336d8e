-- The rows below the cursors, filled one after another.
--   cursor_room l n   what is left of the numbers of l up to n, together
--   room-less         one of them raised
--   put-rows          what holds of the rows and of one that is stored holds of all
--   Filling b l t c   the rows below the cursors c are filled in the tables t
--   filling-none      at first none
--   filling-more      one row more
--   filling-all       all of them
use mathlib.Core.Path.{◌≡◌, refl, sym, ◌∙◌, ap, subst, subst₂}
use mathlib.Core.List.{List, [], ◌∷◌}
use mathlib.Core.Logic.{by_cases}
use Prim.Native.Nat.{ℕ, zero, suc, ◌+◌, ◌-◌, ◌<◌}
use native.Mathlib.Numerals.{add-one}
use native.Mathlib.Decide.{ℕ_discrete}
use native.Mathlib.Omega.{arith}
use lib.ListN.{length, get_or, set, replicate, length-set, length-replicate}
use lib.Seq.{get_or-set_same, get_or-set_other}
use Rattle.std.specs.Prelude.{Option, None}
use Rattle.lists.proofs.Storing.{zeros-at}
use Rattle.residue.specs.Field.{modulo, residue}
use Rattle.residue.proofs.ResidueField.{residue-ring}
use Rattle.monomial.specs.Sizes.{most_variables}
use Rattle.monomial.specs.Rows.{one}
use Rattle.monomial.specs.Ordering.{Grevlex}
use Rattle.monomial.proofs.GrevlexOrder.{grevlex-order}
use Rattle.lines.specs.declared.StoredBasis.{StoredBasis}
use Rattle.staircase.specs.StoredLines.{stored_lines}
use Rattle.staircase.specs.Listed.{listed}
use Rattle.monomial.specs.declared.Monomial.{Monomial}
use Rattle.staircase.proofs.ArrayRows.{rows-length}
use Rattle.coordinates.specs.Vectors.{coordinate, coordinates_of}
use Rattle.coordinates.specs.declared.Coordinates.{Coordinates}
use Rattle.multiplication.specs.Rows.{NoRows, RowPut, table_row, AllBelow, cell_of}
use Rattle.multiplication.specs.declared.rows.Tables.{Tables}
use Rattle.multiplication.specs.Filling.{Fillable, AllFilled}
use Rattle.multiplication.specs.declared.fill.Cursors.{Cursors}
use Rattle.multiplication.proofs.NewRows.{RowFor}
use Rattle.multiplication.proofs.NextProducts.{cursor, BestAt, Best}
use Rattle.multiplication.proofs.RowFilling.{RowProgress, progress-none, progress-more}
use Rattle.multiplication.proofs.RowRules.{listed-irreducible}
use Rattle.multiplication.proofs.Merging.{best-smaller}

unfoldable pub cursor_room : List ℕ → ℕ → ℕ
cursor_room [] n = 0
cursor_room (a ∷ l) n = (n - a) + cursor_room l n

pub room-less : (l : List ℕ) (n i : ℕ) → i < length l → get_or l i 0 < n → cursor_room (set l i (get_or l i 0 + 1)) n < cursor_room l n
unfolding cursor_room
room-less [] n i h u = absurd (omega arith)
room-less (a ∷ l) n zero h u = omega arith
room-less (a ∷ l) n (suc i) h u = omega (arith, room-less l n i (omega arith) u)

pub put-rows : {t t' : Tables} {i s : ℕ} {w : Coordinates} (P : Coordinates → Type 0) → RowPut t i s w t' → P w → ((j r : ℕ) → P (table_row t j r))
    → (j r : ℕ) → P (table_row t' j r)
put-rows {t} {t'} {i} {s} P put here all j r = by_cases (ℕ_discrete j i)
    (λ e. by_cases (ℕ_discrete r s) (λ f. subst₂ (λ (a b : ℕ). P (table_row t' a b)) (sym e) (sym f) (subst P (sym put.own) here)) (λ n. other (λ (_, f). n f)))
    (λ n. other (λ (e, _). n e))
  where
    other : ¬ ((j ≡ i) × (r ≡ s)) → P (table_row t' j r)
    other n = subst P (sym (put.others j r n)) (all j r)

pub record Filling (b : StoredBasis) (l : List Monomial) (t : Tables) (c : Cursors) : Type 0 where
  pub below : AllBelow b.p t
  pub cursors : length c.at ≡ most_variables
  pub progress : (h : 1 < b.p) → RowProgress (modulo b.p h) b.n (stored_lines b h) (listed b.n l) (one b.n) (Grevlex b.n) (cell_of b.p h t) (cursor c)

pub filling-none : {b : StoredBasis} {l : List Monomial} {t : Tables} {c : Cursors} → 0 < b.p → NoRows t → c.at ≡ replicate most_variables 0 → Filling b l t c
filling-none {b} {l} {t} {c} o e f = record {
  below = record { cell = λ i s k. omega (arith, o, e i s k) };
  cursors = ap length f ∙ length-replicate {A = ℕ} most_variables 0;
  progress = λ h. progress-none (modulo b.p h) b.n (stored_lines b h) (listed b.n l) (one b.n) (Grevlex b.n) (cell_of b.p h t) (cursor c)
      (λ i u. ap (λ (a : List ℕ). get_or a i 0) f ∙ zeros-at most_variables i 0);
}

module _ {b : StoredBasis} {l : List Monomial} {t : Tables} {c : Cursors} (so_far : Filling b l t c) (given : Fillable b l) where
  open given use {sound, irreducibles, low}

  module _ {i : ℕ} (best : BestAt b.n l c i) where
    hi : i < b.n
    hi = best.within

    module _ {w : Coordinates} (new : RowFor b l t i (cursor c i) w) {t' : Tables} (put : RowPut t i (cursor c i) w t') where
      c' : Cursors
      c' = record { at = set c.at i (cursor c i + 1) }

      pub filling-more : Filling b l t' (record { at = set c.at i (cursor c i + 1) })
      unfolding c' cell_of coordinates_of
      filling-more = record {
        below = record { cell = put-rows (λ v. (k : ℕ) → coordinate v k < b.p) put new.below.below so_far.below.cell };
        cursors = length-set c.at i _ ∙ so_far.cursors;
        progress = λ h. progress-more (residue-ring b.p h) b.n (grevlex-order b.n) (stored_lines b h) (low h) (listed b.n l) (one b.n)
            (λ k u. listed-irreducible b l irreducibles h k (omega (arith, rows-length b.n l))) (so_far.progress h)
            i (cursor c i) hi (omega (arith, best.has, rows-length b.n l)) refl
            (best-smaller h b.n (stored_lines b h) l c i (irreducibles.lists h).rising best)
            (coordinates_of b.p h w) (new.rule h) (cell_of b.p h t')
            (λ k u. ap (λ v. residue b.p h (coordinate v k)) put.own)
            (λ j r hj hr k u. ap (λ v. residue b.p h (coordinate v k)) (put.others j r (λ (e, f). omega (arith, f, ap (cursor c) e, hr))))
            (cursor c') (get_or-set_same c.at i _ 0 (omega (arith, so_far.cursors, sound.variables.most)) ∙ add-one _) (λ j hj q. get_or-set_other c.at i j _ 0 q);
      }

  pub filling-all : {best : Option ℕ} → Best b.n l c best → best ≡ None → (h : 1 < b.p) → AllFilled b h l t
  filling-all best e h j hj r hr = (so_far.progress h).filled j r hj (omega (arith, best.none e j hj))
