-- The merge of the next products.
--   best-smaller   what is smaller than the smallest next product has its row
use mathlib.Core.Path.{sym, subst}
use mathlib.Core.List.{List}
use mathlib.Core.Logic.{by_cases}
use Prim.Native.Nat.{ℕ, ◌<◌}
use native.Mathlib.Decide.{ℕ_discrete, dec_lt}
use native.Mathlib.Omega.{arith}
use Rattle.residue.specs.Field.{ZMod, modulo}
use Rattle.monomial.specs.Rows.{Row, one, product}
use Rattle.monomial.specs.Quotients.{variable}
use Rattle.monomial.specs.Ordering.{Grevlex, monomials}
use Rattle.monomial.proofs.GrevlexOrder.{grevlex-order}
use Rattle.groebner.specs.Lines.{Line, RisingList}
use Rattle.staircase.specs.Listed.{listed, listed_at}
use Rattle.monomial.specs.declared.Monomial.{Monomial}
use Rattle.staircase.proofs.ArrayRows.{rows-length}
use Rattle.staircase.proofs.RisingPlaces.{rising-at}
use Rattle.multiplication.proofs.NextProducts.{cursor, next_product, BestAt}
use Rattle.multiplication.specs.declared.fill.Cursors.{Cursors}
use Rattle.multiplication.proofs.RowFilling.{SmallerFilled}

pub best-smaller : {p : ℕ} (h : 1 < p) (n : ℕ) (G : List (Line (ZMod p) (Row n))) (l : List Monomial) (c : Cursors) (i : ℕ) → RisingList (Grevlex n) (listed n l)
    → BestAt n l c i → SmallerFilled (modulo p h) n G (listed n l) (one n) (Grevlex n) (cursor c) i (cursor c i)
unfolding monomials
best-smaller h n G l c i rising best j r hj hr lt = by_cases (dec_lt r (cursor c j)) (λ u. u) (λ u. absurd (best.least j hj (omega (arith, rows-length n l)) (below u)))
  where
    below : ¬ (r < cursor c j) → Grevlex n (next_product n l c j) (next_product n l c i)
    below u = by_cases (ℕ_discrete (cursor c j) r)
        (λ q. subst (λ k. Grevlex n (product n (variable n j) (listed_at n l k)) (next_product n l c i)) (sym q) lt)
        (λ q. (grevlex-order n).trans ((grevlex-order n).mono (variable n j) (rising-at (Grevlex n) (listed n l) (one n) rising (cursor c j) r (omega arith) hr)) lt)
