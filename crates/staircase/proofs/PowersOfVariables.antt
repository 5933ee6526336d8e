-- Check 13: a leading monomial that is a power, for each variable.
--   power-in-iff     a power of v among the monomials of a list, by places
--   power-of-leads   the leading monomials have a power of each variable: the lines are zero-dimensional
use mathlib.Core.Path.{◌≡◌, sym, ◌∙◌, ap}
use mathlib.Core.List.{List, map}
use mathlib.Core.Bool.{true}
use mathlib.Core.Logic.Iff
use mathlib.Core.Logic.{◌↔◌}
use Prim.Native.Nat.{ℕ, ◌<◌}
use native.Mathlib.Omega.{arith}
use lib.ListN.{length, get_or}
use Rattle.lists.specs.Lists.{◌∈◌}
use Rattle.lists.proofs.Elements.{element-in, place_of}
use Rattle.monomial.specs.Rows.{Row, one}
use Rattle.monomial.specs.Quotients.{is_power}
use Rattle.monomial.specs.Represented.{row}
use Rattle.monomial.specs.declared.Monomial.{Monomial}
use Rattle.groebner.specs.Lines.{Line}
use Rattle.groebner.specs.Standard.{ZeroDimensional}
use Rattle.groebner.proofs.Lists.{in_map, of_map}
use Rattle.groebner.proofs.ZeroDimension.{zero-dimensional-tested}
use Rattle.staircase.specs.Leads.{rows_of, PowerIn, Powers}
use Rattle.staircase.proofs.ArrayRows.{no_monomial, rows-length, rows_at}

pub power-in-iff : (n v : ℕ) (ms : List Monomial) → PowerIn n v (rows_of n ms) ↔ ((j : ℕ) × (j < length ms) × (is_power n v (row n (get_or ms j no_monomial)) ≡ true))
power-in-iff n v ms = (
  λ p.
      let (j, l, e) = place_of (one n) p.1 in
      (j, omega (arith, l, rows-length n ms), ap (is_power n v) (sym (rows_at n ms j) ∙ e) ∙ p.2),
  λ q. (
    get_or (rows_of n ms) q.0 (one n),
    element-in (one n) (rows_of n ms) q.0 (omega (arith, rows-length n ms, q.1)),
    ap (is_power n v) (rows_at n ms q.0) ∙ q.2,
  ),
)

pub power-of-leads : {F : Type 0} (n : ℕ) (G : List (Line F (Row n))) → Powers n (map (λ g. g.0) G) ↔ ZeroDimensional n G
power-of-leads {F} n G = Iff.trans {B = (i : ℕ) → i < n → (g : Line F (Row n)) × (g ∈ G) × (is_power n i g.0 ≡ true)} tested (Iff.symm (zero-dimensional-tested n G))
  where
    tested : Powers n (map (λ g. g.0) G) ↔ ((i : ℕ) → i < n → (g : Line F (Row n)) × (g ∈ G) × (is_power n i g.0 ≡ true))
    tested = (
      λ p v h. let (m, q, t) = p v h in let (g, r, e) = of_map (λ g. g.0) G q in (g, r, ap (is_power n v) (sym e) ∙ t),
      λ z v h. let (g, r, t) = z v h in (g.0, in_map (λ g. g.0) r, t),
    )
