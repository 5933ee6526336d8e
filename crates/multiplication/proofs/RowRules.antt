-- The three rules for the row of x_i·B_s, by the answers of the code.
--   listed-length        the list has as many monomials as the code has
--   listed-irreducible   what is listed is irreducible
--   irreducible-listed   what is irreducible is listed
--   listed-once          no monomial stands twice in the list
--   reducible-outside    what is not listed is reducible
--   place_inside         what is irreducible has a place in the list
--   row-unit             x_i·B_s is listed
--   row-tail             x_i·B_s is a leading monomial
--   no_lead              it is none
--   passes-some          some x_j divides B_s with x_i·B_s / x_j reducible, where x_i·B_s is neither listed nor a leading monomial
--   divisor-listed       B_s / x_j is listed
--   row-product          x_j divides B_s, and x_i·B_s / x_j is reducible
--   comes-through        where x_i·B_s is neither listed nor a leading monomial, it comes through such an x_j
--   row_made             the row that the code makes is one by the rules
--   row-led              so is minus the tail of the line that leads with x_i·B_s
use mathlib.Core.Path.{◌≡◌, sym, ◌∙◌, ap, subst}
use mathlib.Core.Bool.{Bool-discrete, true}
use mathlib.Core.List.{List, []}
use mathlib.Core.Logic.Dec
use mathlib.Core.Logic.{by_cases}
use Prim.Native.Nat.{ℕ, ◌≤◌, ◌<◌}
use native.Mathlib.Decide.{ℕ_discrete}
use native.Mathlib.Omega.{arith}
use lib.ListN.{length, get_or, get_or-map}
use Rattle.std.specs.Prelude.{None}
use Rattle.lists.specs.Lists.{◌∈◌}
use Rattle.lists.proofs.Elements.{element-in, place_of, at_once}
use Rattle.residue.specs.Field.{ZMod, modulo, residue}
use Rattle.residue.proofs.ResidueField.{residue-ring}
use Rattle.residue.proofs.Residues.{residue-zero, residue-one}
use Rattle.monomial.specs.Rows.{Row, one, product}
use Rattle.monomial.specs.Quotients.{quotient, variable}
use Rattle.monomial.specs.Ordering.{monomials}
use Rattle.monomial.proofs.Products.{product-comm, product-assoc, product-quotient, quotient-product, divides-iff}
use Rattle.monomial.proofs.GrevlexOrder.{grevlex-order}
use Rattle.groebner.specs.Polynomials.{δ}
use Rattle.groebner.specs.Lines.{Line, Reducible}
use Rattle.groebner.specs.MultiplicationRows.{times_variable}
use Rattle.groebner.proofs.Terms.{δ-same, δ-other}
use Rattle.groebner.proofs.RisingLists.{rising-once}
use Rattle.groebner.proofs.ReducibleTest.{reducible-iff}
use Rattle.groebner.proofs.Variables.{take-off}
use Rattle.lines.specs.Sizes.{most_standard}
use Rattle.lines.specs.LineTerms.{terms_in}
use Rattle.lines.specs.declared.StoredBasis.{StoredBasis}
use Rattle.staircase.specs.TermLines.{line_of}
use Rattle.staircase.specs.StoredLines.{stored_lines}
use Rattle.staircase.specs.Leads.{rows_of, leads_in}
use Rattle.staircase.specs.Sound.{Sound, generator_at}
use Rattle.staircase.specs.Listed.{listed, listed_at, PlaceAt, Place, ListsIrreducibles}
use Rattle.monomial.specs.declared.Monomial.{Monomial}
use Rattle.staircase.proofs.ArrayRows.{rows-length}
use Rattle.staircase.proofs.LineElements.{stored-lines-length, line-at}
use Rattle.staircase.proofs.LineLeads.{leads-length, leads-held}
use Rattle.coordinates.specs.Vectors.{coordinate, indicator, coordinates_of}
use Rattle.coordinates.specs.declared.Coordinates.{Coordinates}
use Rattle.coordinates.proofs.UnitRows.{indicator-same, indicator-other}
use Rattle.multiplication.specs.Rows.{table_row, cell_of, Multiplied}
use Rattle.multiplication.specs.declared.rows.Tables.{Tables}
use Rattle.multiplication.specs.Tails.{TailRow}
use Rattle.multiplication.specs.Passes.{Detour}
use Rattle.multiplication.specs.Rules.{Unlisted, Through, MadeBy, MadeRow}
use Rattle.multiplication.specs.Rules.MadeBy.{by_unit, by_product}
use Rattle.multiplication.proofs.NewRows.{NewRow, RowFor}
use Rattle.multiplication.proofs.NewRows.NewRow.{new_unit, new_tail, new_product}
use Rattle.multiplication.proofs.RowSums.{multiply-row}

module _ (b : StoredBasis) (l : List Monomial) (irreducibles : ListsIrreducibles b l) (h : 1 < b.p) where
  abbrev n : ℕ
  n = b.n

  abbrev G : List (Line (ZMod b.p) (Row n))
  G = stored_lines b h

  abbrev B : List (Row n)
  B = listed n l

  abbrev at : ℕ → Row n
  at k = listed_at n l k

  pub listed-length : length B ≡ length l
  listed-length = rows-length n l

  pub listed-irreducible : (k : ℕ) → k < length l → ¬ Reducible (monomials n) G (at k)
  listed-irreducible k m = (irreducibles.lists h).only (at k) (element-in (one n) B k (omega (arith, m, rows-length n l)))

  pub irreducible-listed : (m : Row n) → ¬ Reducible (monomials n) G m → (k : ℕ) × (k < length l) × (at k ≡ m)
  irreducible-listed m r = let p = place_of (one n) ((irreducibles.lists h).all m r) in (p.0, omega (arith, p.1, rows-length n l), p.2)

  pub listed-once : (j k : ℕ) → j < length l → k < length l → at j ≡ at k → j ≡ k
  listed-once j k u v e = at_once (one n) B (rising-once (grevlex-order n) B (irreducibles.lists h).rising) j k (omega (arith, u, rows-length n l)) (omega (arith, v, rows-length n l)) e

  reducible-dec : (m : Row n) → Dec (Reducible (monomials n) G m)
  reducible-dec m = Dec.of_iff (reducible-iff n G m) (Bool-discrete _ true)

  pub reducible-outside : (m : Row n) → ((k : ℕ) → k < length l → ¬ (at k ≡ m)) → Reducible (monomials n) G m
  reducible-outside m out = by_cases (reducible-dec m) (λ r. r) (λ r. let (k, u, e) = irreducible-listed m r in absurd (out k u e))

  pub place_inside : {m : Row n} → ¬ Reducible (monomials n) G m → ¬ Place n B m None
  place_inside {m} u none = u (reducible-outside m (λ k v. none k (omega (arith, v, rows-length n l))))

  module _ (cell : ℕ → ℕ → ℕ → ZMod b.p) (i s : ℕ) where
    abbrev x : Row n
    x = product n (variable n i) (at s)

    -- The row w of x_i·B_s by one of the rules.
    abbrev RuleFor : Coordinates → Type 0
    RuleFor w = NewRow (modulo b.p h) n G B (one n) cell i s (coordinates_of b.p h w)

    pub row-unit : (k : ℕ) → k < length l → at k ≡ x → (w : Coordinates) → ((j : ℕ) → coordinate w j ≡ indicator j k) → RuleFor w
    unfolding coordinates_of
    row-unit k u here w c = new_unit (subst (λ m. ¬ Reducible (monomials n) G m) here (listed-irreducible k u))
        (λ j v. ap (residue b.p h) (c j) ∙ by_cases (ℕ_discrete j k)
        (λ p. rw p (ap (residue b.p h) (indicator-same k) ∙ residue-one b.p h
        ∙ sym (ap (δ (modulo b.p h) (monomials n) (at k)) (sym here) ∙ δ-same (residue-ring b.p h) (monomials n) (at k))))
        (λ p. ap (residue b.p h) (indicator-other j k p) ∙ residue-zero b.p h
        ∙ sym (δ-other (residue-ring b.p h) (monomials n) (at j) x (λ f. p (listed-once j k (omega (arith, v, rows-length n l)) u (f ∙ sym here))))))

    line : ℕ → Line (ZMod b.p) (Row n)
    line g = line_of b.p h n (terms_in n (generator_at b g))

    line-in : (g : ℕ) → g < length b.lines.items → line g ∈ G
    unfolding line
    line-in g u = subst (λ f. f ∈ G) (line-at b h g) (element-in (one n, []) G g (omega (arith, stored-lines-length b h)))

    line_first : (g : ℕ) → get_or (rows_of n (leads_in b)) g (one n) ≡ (line g).0
    unfolding line
    line_first g = ap (λ (L : List (Row n)). get_or L g (one n)) ((leads-held b).1 h)
        ∙ get_or-map (λ (f : Line (ZMod b.p) (Row n)). f.0) G g (one n, []) ∙ ap (λ (f : Line (ZMod b.p) (Row n)). f.0) (line-at b h g)

    pub row-tail : {k : ℕ} → PlaceAt n (rows_of n (leads_in b)) x k → {w : Coordinates} → TailRow b.p n (generator_at b k) l w → RuleFor w
    unfolding line
    row-tail {k} place t = let u : k < length b.lines.items = omega (arith, leads-length b, place.within, rows-length n (leads_in b)) in
        new_tail (line k) (line-in k u) (sym place.found ∙ line_first k) (λ k v. t.coefficients h k (omega (arith, v, rows-length n l)))

    pub no_lead : Place n (rows_of n (leads_in b)) x None → (f : Line (ZMod b.p) (Row n)) → f ∈ G → ¬ (x ≡ f.0)
    unfolding line
    no_lead none f p q =
        let (j, v, d) = place_of (one n, []) p in
        let u : j < length b.lines.items = omega (arith, v, stored-lines-length b h) in
        none j (omega (arith, u, leads-length b, rows-length n (leads_in b))) (line_first j ∙ ap (λ (f : Line (ZMod b.p) (Row n)). f.0) (sym (line-at b h j) ∙ d) ∙ sym q)

    pub passes-some : i < n → s < length l → Reducible (monomials n) G x → ((f : Line (ZMod b.p) (Row n)) → f ∈ G → ¬ (x ≡ f.0)) → (j : ℕ) × (j < n) × Detour n l (at s) i j
    unfolding monomials
    passes-some hi hs r other =
        let (j, hj, c, e, red) = take-off n G i hi (at s) (listed-irreducible s hs) r other in
        let f : at s ≡ product n c (variable n j) = e ∙ product-comm n (variable n j) c in
        let q : quotient n (at s) (variable n j) ≡ c = ap (λ m. quotient n m (variable n j)) f ∙ quotient-product n c (variable n j) in (
          j,
          hj,
          record {
            divisor = (divides-iff n (variable n j) (at s)).1 (c, f);
            outside = λ k u d. listed-irreducible k u (subst (Reducible (monomials n) G) (sym (d ∙ ap (product n (variable n i)) q)) red);
          },
        )

  module _ (i s : ℕ) (hs : s < length l) (j : ℕ) (passes : Detour n l (at s) i j) where
    c : Row n
    c = quotient n (at s) (variable n j)

    taken : at s ≡ product n (variable n j) c
    unfolding c
    taken = sym (product-quotient n (at s) (variable n j) passes.divisor) ∙ product-comm n _ _

    pub divisor-listed : ¬ Place n B (quotient n (at s) (variable n j)) None
    unfolding c monomials
    divisor-listed = place_inside (λ (g, p, (u, e)). listed-irreducible s hs
        (g, p, (product n (variable n j) u, taken ∙ ap (product n (variable n j)) e ∙ sym (product-assoc n (variable n j) u g.0))))

    pub row-product : {t : ℕ} → PlaceAt n B (quotient n (at s) (variable n j)) t → j < n → length l ≤ most_standard → {tables : Tables} {w : Coordinates}
        → Multiplied b.p tables j (table_row tables i t) (length l) w → RuleFor (cell_of b.p h tables) i s w
    unfolding c
    row-product {t} place hj few {tables} {w} r = new_product j hj t place.within
        (taken ∙ ap (product n (variable n j)) (sym here))
        (subst (λ m. Reducible (monomials n) G (product n (variable n i) m)) (sym here) (reducible-outside _ passes.outside))
        (λ k v. subst (λ d. coordinates_of b.p h w k ≡ times_variable (modulo b.p h) d (cell_of b.p h tables) j (cell_of b.p h tables i t) k) (sym (rows-length n l))
        (r.coordinates h k (omega (arith, v, rows-length n l)) ∙ multiply-row tables i t b.p h (length l) few j k))
      where
        here : at t ≡ quotient n (at s) (variable n j)
        here = place.found

-- The row that the code makes for x_i·B_s, by the place of the line that leads with it, or that there is none.
module _ (b : StoredBasis) (sound : Sound b) (l : List Monomial) (irreducibles : ListsIrreducibles b l)
    (tables : Tables) (i s : ℕ) (hi : i < b.n) (hs : s < length l) where
  above_one : 1 < b.p
  above_one = sound.modulus.prime.above_one

  pub comes-through : Place b.n (rows_of b.n (leads_in b)) (product b.n (variable b.n i) (listed_at b.n l s)) None → Unlisted b.n l i s → Through b.n l i s
  comes-through none out = record {
    some = passes-some b l irreducibles above_one (cell_of b.p above_one tables) i s hi hs (reducible-outside b l irreducibles above_one _ out)
        (no_lead b l irreducibles above_one (cell_of b.p above_one tables) i s none);
    inside = λ j passes. divisor-listed b l irreducibles above_one i s hs j passes;
  }

  made-rule : (h : 1 < b.p) {w : Coordinates} → MadeBy b.p b.n l tables i s w → RuleFor b l irreducibles h (cell_of b.p h tables) i s w
  made-rule h (by_unit k u e c) = row-unit b l irreducibles h (cell_of b.p h tables) i s k u e _ c
  made-rule h (by_product q) = row-product b l irreducibles h i s hs q.by q.passes q.place q.within irreducibles.few q.multiplied

  pub row_made : {w : Coordinates} → MadeRow b.p b.n l tables i s w → RowFor b l tables i s w
  row_made m = record { below = m.below; rule = λ h. made-rule h m.made }

  pub row-led : {k : ℕ} → PlaceAt b.n (rows_of b.n (leads_in b)) (product b.n (variable b.n i) (listed_at b.n l s)) k → {w : Coordinates}
      → TailRow b.p b.n (generator_at b k) l w → RowFor b l tables i s w
  row-led place t = record { below = t.below; rule = λ h. row-tail b l irreducibles h (cell_of b.p h tables) i s place t }
