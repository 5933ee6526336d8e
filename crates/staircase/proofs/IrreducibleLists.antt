-- The list that `list_irreducibles` makes of the leading monomials of a basis has the irreducible monomials, and `by_grevlex` puts it in the order that `fill` asks for.
--   multiple-leads         the multiples of the leading monomials are the reducible monomials
--   counted-irreducibles   the list that was counted has the irreducible monomials, in rising lex order
--   exponents-bounded      no exponent of an irreducible monomial passes their number
--   sorted-irreducibles    in rising grevlex order, it is the list that `fill` asks for
use mathlib.Core.Path.{◌≡◌, refl, sym, ◌∙◌, ap, subst, fun_ext}
use mathlib.Core.Bool.{true, false}
use mathlib.Core.List.{List, [], ◌∷◌, map}
use Prim.Native.Nat.{ℕ, ◌≤◌, ◌<◌}
use native.Mathlib.Omega.{arith}
use lib.ListN.{length}
use Rattle.std.specs.Prelude.{Some}
use Rattle.lists.specs.Lists.{◌∈◌}
use Rattle.lists.proofs.Elements.{element-in}
use Rattle.monomial.specs.Represented.{most_entry}
use Rattle.monomial.specs.Rows.{Row, one, exponent}
use Rattle.monomial.specs.Quotients.{divides}
use Rattle.monomial.specs.Orders.{variables}
use Rattle.monomial.specs.Ordering.{monomials, Lex, Grevlex}
use Rattle.monomial.specs.declared.Monomial.{Monomial}
use Rattle.monomial.proofs.Products.{rows-laws}
use Rattle.monomial.proofs.LexOrder.{lex-order}
use Rattle.groebner.specs.Lines.{Line, Reducible}
use Rattle.groebner.specs.RisingLists.{ListsRising}
use Rattle.groebner.specs.Next.{next, irreducibles}
use Rattle.groebner.proofs.Ground.{divides-trans}
use Rattle.groebner.proofs.Counting.{exponent-bounded}
use Rattle.groebner.proofs.ReducibleTest.{reducible}
use Rattle.groebner.proofs.RisingLists.{lists-once}
use Rattle.groebner.proofs.Next.{next-lex, variables-ranking}
use Rattle.groebner.proofs.IrreducibleList.{Counts, irreducibles-of-lines}
use Rattle.lines.specs.Sizes.{most_standard}
use Rattle.lines.specs.declared.StoredBasis.{StoredBasis}
use Rattle.staircase.specs.StoredLines.{stored_lines}
use Rattle.staircase.specs.Leads.{rows_of, LeadsOf, multiple, CountIs}
use Rattle.staircase.specs.Sound.{Sound}
use Rattle.staircase.specs.Listed.{listed, listed_at, ListsIrreducibles}
use Rattle.staircase.specs.Sorted.{Sorted}
use Rattle.staircase.proofs.ArrayRows.{rows-length}
use Rattle.staircase.proofs.SortedLists.{sorted-lists}

multiple-test : {F : Type 0} (n : ℕ) (G : List (Line F (Row n))) (m : Row n) → multiple n (map (λ g. g.0) G) m ≡ reducible n G m
unfolding multiple reducible
multiple-test n [] m = refl
multiple-test n (g ∷ G) m = ap (λ t. elim (divides n g.0 m) [ true ↦ true | false ↦ t ]) (multiple-test n G m)

pub multiple-leads : {F : Type 0} (n : ℕ) (G : List (Line F (Row n))) → multiple n (map (λ g. g.0) G) ≡ reducible n G
multiple-leads n G = fun_ext (multiple-test n G)

module _ {F : Type 0} (n : ℕ) (G : List (Line F (Row n))) where
  -- m is irreducible.
  abbrev Irreducible : Row n → Type 0
  Irreducible m = ¬ Reducible (monomials n) G m

  pub counted-irreducibles : (L B : List (Row n)) → L ≡ map (λ g. g.0) G → (most : ℕ) → CountIs n (variables n) (multiple n L) most (Some B)
      → (length B ≤ most) × ListsRising (Lex n (variables n)) Irreducible B
  counted-irreducibles L B e most counted = subst (Counts (Lex n (variables n)) Irreducible most)
      (ap (λ f. irreducibles n (next n (variables n)) f most) (sym (ap (multiple n) e ∙ multiple-leads n G)) ∙ counted)
      (irreducibles-of-lines n (lex-order n (variables n) (variables-ranking n).all) (next n (variables n)) (next-lex n (variables n) (variables-ranking n)) G most)

  pub exponents-bounded : (B : List (Row n)) → ((m : Row n) → Irreducible m → m ∈ B) → (m : Row n) → Irreducible m → (i : ℕ) → i < n → exponent n m i ≤ length B
  exponents-bounded B all m p = exponent-bounded n m B (λ d q _. all d (λ r. p (r.0, r.1, divides-trans (rows-laws n) r.2 q)))

-- l is the answer of `list_irreducibles`, and r that of `by_grevlex`.
pub sorted-irreducibles : (b : StoredBasis) → Sound b → (ms : List Monomial) → LeadsOf b ms → (l r : List Monomial)
    → CountIs b.n (variables b.n) (multiple b.n (rows_of b.n ms)) most_standard (Some (listed b.n l)) → length l ≤ most_standard → Sorted b.n l r → ListsIrreducibles b r
sorted-irreducibles b sound ms leads l r counted few sorted = record { few = omega (arith, sorted.few); exponents = exponents; lists = lists }
  where
    lists : (h : 1 < b.p) → ListsRising (Grevlex b.n) (Irreducible b.n (stored_lines b h)) (listed b.n r)
    lists h = sorted-lists sorted (Irreducible b.n (stored_lines b h))
        (lists-once (lex-order b.n (variables b.n) (variables-ranking b.n).all) (Irreducible b.n (stored_lines b h)) (listed b.n l)
        (counted-irreducibles b.n (stored_lines b h) (rows_of b.n ms) (listed b.n l) (leads.1 h) most_standard counted).1)

    exponents : (k : ℕ) → k < length r → (i : ℕ) → i < b.n → exponent b.n (listed_at b.n r k) i < most_entry
    exponents k u i v =
        let h = sound.modulus.prime.above_one in
        let w = lists h in
        let inside = w.only _ (element-in (one b.n) (listed b.n r) k (omega (arith, rows-length b.n r))) in
        omega (arith, exponents-bounded b.n (stored_lines b h) (listed b.n r) w.all (listed_at b.n r k) inside i v, rows-length b.n r, sorted.few)
