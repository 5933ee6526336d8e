-- The terms of the line that the code writes for a dependent monomial.
--   terms_as p h n ts       terms of the code as terms of a polynomial
--   Writing p n m c l g k   what holds at the head of the loop of `line_of`: the line g has m, and the terms of the monomials of l from place k on
--   writing-start           before the first turn
--   writing-more            a turn pushes a term
--   writing-skip            or none, where the coefficient is zero
--   writing-stop            after the last turn
use mathlib.Core.Path.{◌≡◌, refl, sym, ◌∙◌, ap, ap₂, subst}
use mathlib.Core.List.{List, [], ◌∷◌, ◌++◌, map, map-append, append-nil}
use Prim.Native.Nat.{ℕ, suc, ◌+◌, ◌-◌, ◌≤◌, ◌<◌}
use native.Mathlib.Nat.{mod-eq_of_lt}
use native.Mathlib.Omega.{arith}
use lib.ListN.{length, get_or, drop, length-append, drop_of_length-le}
use lib.Seq.{drop-cons, take-length}
use Rattle.lists.specs.Lists.{Each}
use Rattle.lists.proofs.EachElement.{each_take, each_last}
use Rattle.residue.specs.Modular.{negation_mod}
use Rattle.residue.specs.Field.{ZMod, modulo, residue}
use Rattle.residue.specs.RingLaws.{Field}
use Rattle.residue.proofs.Residues.{residue-zero, residue-one, residue-negation, residue-nonzero}
use Rattle.monomial.specs.Rows.{Row, one}
use Rattle.monomial.specs.Ordering.{monomials}
use Rattle.monomial.specs.Represented.{row}
use Rattle.monomial.specs.declared.Monomial.{Monomial}
use Rattle.groebner.specs.Polynomials.{Poly}
use Rattle.groebner.specs.OrderedTails.{nonzero_term}
use Rattle.groebner.proofs.Modules.{self, opposite-null}
use Rattle.groebner.proofs.OrderedTails.{nonzero-term-cases}
use Rattle.lines.specs.Sizes.{most_terms}
use Rattle.lines.specs.Terms.{Term, as_row}
use Rattle.lines.specs.LineTerms.{term_of, terms_in, Monic}
use Rattle.lines.specs.Bases.{Padded}
use Rattle.lines.specs.declared.line.LineTerm.{LineTerm}
use Rattle.lines.proofs.AsRow.{as_row-exponents}
use Rattle.staircase.specs.TermLines.{line_of}
use Rattle.staircase.specs.Listed.{listed}
use Rattle.staircase.proofs.ArrayRows.{no_monomial, rows-length, rows_at}
use Rattle.coordinates.specs.Vectors.{coordinate, vector, FullLength}
use Rattle.coordinates.specs.declared.Coordinates.{Coordinates}
use Rattle.coordinates.proofs.VectorEntries.{vector-entry, length-vector}
use Rattle.fglm.specs.Found.{PrintableLine}
use Rattle.fglm.specs.WrittenLines.{LineInput, WrittenLine}
use Rattle.fglm.proofs.PlacedTerms.{placed, placed-ordered}

-- The terms of a line as terms of a polynomial.
abbrev pub terms_as : (p : ℕ) → 1 < p → (n : ℕ) → List Term → Poly (ZMod p) (Row n)
terms_as p h n ts = map (λ (u : Term). (residue p h u.0, as_row n u.1)) ts

negation-positive : (p c : ℕ) → 0 < c → c < p → negation_mod p c ≡ p - c
unfolding negation_mod
negation-positive p c h l = mod-eq_of_lt (omega arith)

-- One term more.
terms-push : (p : ℕ) (h : 1 < p) (n : ℕ) (g : List LineTerm) (t : LineTerm)
    → terms_as p h n (terms_in n (g ++ (t ∷ []))) ≡ terms_as p h n (terms_in n g) ++ ((residue p h t.coefficient.0, row n t.monomial) ∷ [])
unfolding terms_in term_of
terms-push p h n g t = ap (terms_as p h n) (map-append (term_of n) g (t ∷ [])) ∙ map-append _ (terms_in n g) _
    ∙ ap (λ m. terms_as p h n (terms_in n g) ++ ((residue p h t.coefficient.0, m) ∷ [])) (as_row-exponents n t.monomial)

monic-push : (n : ℕ) (g : List LineTerm) (t : LineTerm) → Monic (terms_in n g) → Monic (terms_in n (g ++ (t ∷ [])))
unfolding terms_in
monic-push n [] t m = absurd m
monic-push n (x ∷ g) t m = m

printable-push : {p n : ℕ} {g : List LineTerm} {t : LineTerm} → length g < most_terms → (0 < t.coefficient.0) × (t.coefficient.0 < p) → Padded n t.monomial → PrintableLine p n g
    → PrintableLine p n (g ++ (t ∷ []))
printable-push {p} {n} {g} {t} room coefficient k w = record {
  held = (omega (arith, room, length-append g (t ∷ [])), each_last (λ (u : LineTerm). Padded n u.monomial) g w.held.1 k);
  coefficients = each_last _ g w.coefficients coefficient;
  monic = monic-push n g t w.monic;
}

-- The terms of a line, its first term told.
generator-of : (p : ℕ) (h : 1 < p) (n : ℕ) (ts : List Term) (x : ZMod p) (m : Row n) (f : Poly (ZMod p) (Row n)) → terms_as p h n ts ≡ (x, m) ∷ f
    → line_of p h n ts ≡ (m, f)
unfolding line_of
generator-of p h n [] x m f e = absurd (omega (arith, ap length e))
generator-of p h n (t ∷ ts) x m f e = let u : as_row n t.1 ≡ m = ap (λ g. lead g) e in let v : terms_as p h n ts ≡ f = ap (drop 1) e in ap₂ (λ y z. (y, z)) u v
  where
    lead : Poly (ZMod p) (Row n) → Row n
    lead [] = m
    lead (t ∷ g) = t.1

-- The loop of `line_of`.
pub record Writing (p n : ℕ) (m : Monomial) (c : Coordinates) (l : List Monomial) (g : List LineTerm) (k : ℕ) : Type 0 where
  pub within : k ≤ length l
  pub room : length g + k ≤ suc (length l)
  pub printable : PrintableLine p n g
  pub terms : (h : 1 < p) (field : Field (modulo p h)) → terms_as p h n (terms_in n g) ≡ ((modulo p h).one, row n m) ∷ placed field (drop k (listed n l)) (drop k (vector p h c))

module _ {p n : ℕ} {m : Monomial} {c : Coordinates} {l : List Monomial} (given : LineInput p n m c l) where
  pub writing-start : Writing p n m c l (record { coefficient = record { 0 = 1 }; monomial = m } ∷ []) (length l)
  unfolding placed terms_in term_of
  writing-start = record {
    within = omega arith;
    room = omega arith;
    printable = record { held = (omega arith, (given.padded, tt)); coefficients = ((omega arith, given.above_one), tt); monic = refl };
    terms = λ h field. ap₂ (λ x y. (x, y) ∷ []) (residue-one p h) (as_row-exponents n m)
        ∙ ap (λ B. ((modulo p h).one, row n m) ∷ placed field B (drop (length l) (vector p h c))) (sym (drop_of_length-le (listed n l) {i = length l} (omega (arith, rows-length n l))));
  }

  module _ (whole : FullLength c) where
    -- The terms of the monomials from place j on are those of the later ones, and the term of monomial j.
    placed-from : (h : 1 < p) (field : Field (modulo p h)) (j : ℕ) → j < length l → placed field (drop j (listed n l)) (drop j (vector p h c))
        ≡ placed field (drop (suc j) (listed n l)) (drop (suc j) (vector p h c)) ++ nonzero_term field ((modulo p h).neg (residue p h (coordinate c j))) (row n (get_or l j no_monomial))
    unfolding placed
    placed-from h field j inside =
        ap₂ (placed field) (drop-cons (listed n l) j (one n) (omega (arith, inside, rows-length n l))) (drop-cons (vector p h c) j (modulo p h).zero (omega (arith, inside, given.few, whole, length-vector p h c)))
        ∙ ap₂ (λ y z. placed field (drop (suc j) (listed n l)) (drop (suc j) (vector p h c)) ++ nonzero_term field ((modulo p h).neg y) z) (vector-entry p h c j) (rows_at n l j)

    module _ {g : List LineTerm} {k j : ℕ} (w : Writing p n m c l g k) (e : suc j ≡ k) where
      inside : j < length l
      inside = omega (arith, w.within)

      later : (h : 1 < p) (field : Field (modulo p h)) → terms_as p h n (terms_in n g) ≡ ((modulo p h).one, row n m) ∷ placed field (drop (suc j) (listed n l)) (drop (suc j) (vector p h c))
      later h field = w.terms h field ∙ ap (λ i. ((modulo p h).one, row n m) ∷ placed field (drop i (listed n l)) (drop i (vector p h c))) (sym e)

      pub writing-skip : coordinate c j ≡ 0 → Writing p n m c l g j
      unfolding self
      writing-skip z = record {
        within = omega (arith, inside);
        room = omega (arith, w.room);
        printable = w.printable;
        terms = λ h field. later h field ∙ ap (λ f. ((modulo p h).one, row n m) ∷ f)
            (nonzero-term-cases field (λ f. placed field (drop (suc j) (listed n l)) (drop (suc j) (vector p h c)) ≡ placed field (drop (suc j) (listed n l)) (drop (suc j) (vector p h c)) ++ f) _ _
            (λ _. sym (append-nil _))
            (λ q. absurd (q (ap (modulo p h).neg (ap (residue p h) z ∙ residue-zero p h) ∙ opposite-null (self field.ring))))
            ∙ sym (placed-from h field j inside));
      }

      pub writing-more : ¬ (coordinate c j ≡ 0) → {t : LineTerm} → t.coefficient.0 ≡ negation_mod p (coordinate c j) → t.monomial ≡ get_or l j no_monomial
          → Writing p n m c l (g ++ (t ∷ [])) j
      writing-more q {t} x y = record {
        within = omega (arith, inside);
        room = omega (arith, w.room, length-append g (t ∷ []));
        printable = printable-push (omega (arith, w.room, inside, given.few)) (omega (arith, x, value, below), omega (arith, x, value, below, q))
            (subst (Padded n) (sym y) ((each_take (Padded n) no_monomial (length l) l (omega arith)).0 (subst (Each (Padded n)) (sym (take-length l)) given.all_padded) j inside)) w.printable;
        terms = λ h field. terms-push p h n g t ∙ ap (◌++ ((residue p h t.coefficient.0, row n t.monomial) ∷ [])) (later h field)
            ∙ ap (λ f. ((modulo p h).one, row n m) ∷ f)
            (nonzero-term-cases field (λ f. placed field (drop (suc j) (listed n l)) (drop (suc j) (vector p h c)) ++ ((residue p h t.coefficient.0, row n t.monomial) ∷ [])
            ≡ placed field (drop (suc j) (listed n l)) (drop (suc j) (vector p h c)) ++ f) _ _
            (λ z. absurd (nonzero h z))
            (λ _. ap₂ (λ u v. placed field (drop (suc j) (listed n l)) (drop (suc j) (vector p h c)) ++ ((u, row n v) ∷ [])) (ap (residue p h) x ∙ residue-negation p h (coordinate c j) below) y)
            ∙ sym (placed-from h field j inside));
      }
        where
          below : coordinate c j < p
          below = given.below.below j

          value : negation_mod p (coordinate c j) ≡ p - coordinate c j
          value = negation-positive p (coordinate c j) (omega (arith, q)) below

          nonzero : (h : 1 < p) → (modulo p h).neg (residue p h (coordinate c j)) ≡ (modulo p h).zero → ⊥
          nonzero h z = let k = residue-nonzero p h (negation_mod p (coordinate c j)) (omega (arith, value, below, q)) (residue-negation p h (coordinate c j) below ∙ z) in omega (arith, value, k, below)

    pub writing-stop : {g : List LineTerm} {k : ℕ} → k ≡ 0 → Writing p n m c l g k → WrittenLine p n m c l g
    writing-stop {g} {k} e w = record {
      printable = w.printable;
      line = λ h field once. generator-of p h n (terms_in n g) _ _ _ (w.terms h field ∙ ap (λ j. ((modulo p h).one, row n m) ∷ placed field (drop j (listed n l)) (drop j (vector p h c))) e)
          ∙ ap (λ f. (row n m, f)) (placed-ordered field (monomials n) (listed n l) (vector p h c) (omega (arith, rows-length n l, given.few, whole, length-vector p h c)) once);
    }
