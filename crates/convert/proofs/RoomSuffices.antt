-- An output of 65,536 bytes is always long enough.
--   written-within   the text of a lex basis within the sizes
--   room-suffices    refusal 16 does not come where the room is that
--   program-answer   so an answer for an output of that length is not 16
use mathlib.Core.Path.{◌≡◌, sym, ◌∙◌, ap, subst}
use mathlib.Core.List.{List, [], ◌∷◌, ◌++◌, map}
use mathlib.Core.Logic.{◌⊎◌, inl, inr}
use Prim.Native.Nat.{ℕ, ◌<◌, ◌≤◌}
use native.Mathlib.Omega.{arith}
use lib.ListN.{length, length-append, length-map}
use Rattle.lists.specs.Lists.{◌∈◌, Bytes, Each}
use Rattle.lists.proofs.EachElement.{each_map, each_append}
use Rattle.residue.specs.Prime.{largest_modulus}
use Rattle.residue.specs.Field.{ZMod, modulo}
use Rattle.monomial.specs.Sizes.{most_variables, most_exponent}
use Rattle.monomial.specs.Rows.{Row, exponent}
use Rattle.answer.specs.Outcomes.{Judged, refused, passed}
use Rattle.answer.specs.Answers.{pair, returned}
use Rattle.answer.specs.declared.Refused.{Refused}
use Rattle.std.specs.Prelude.{Result}
use Rattle.groebner.specs.Lines.{Line, polynomial}
use Rattle.groebner.proofs.Lists.{of_map}
use Rattle.lines.specs.Sizes.{most_standard}
use Rattle.lines.specs.Terms.{Term}
use Rattle.tabtext.specs.Sizes.{most_bytes}
use Rattle.tabtext.specs.Text.{bytes, header, generator, standard, points, end, TextLine}
use Rattle.tabtext.specs.Printed.{printed}
use Rattle.tabtext.proofs.Separators.{end-counted, points-counted}
use Rattle.tabtext.proofs.Widths.{SmallRow, SmallTerm, number-width-3, header-width, counted-width, generator-width-most, standard-width-most}
use Rattle.convert.specs.Written.{exponents, as_generator, written}
use Rattle.convert.specs.Outcome.{Fits, Outcome}
use Rattle.convert.specs.Contract.{Meets}
use Rattle.convert.proofs.LineTerms.{exponents-count, exponents-each, terms_of_line, text-lines}
use Rattle.convert.proofs.TextWidth.{widest, text-width}
use Rattle.convert.proofs.SizesSuffice.{Sized}
use Rattle.convert.proofs.OutcomeCases.{Early, Reached, outcome-cases}
use Rattle.convert.proofs.OutputLines.{Small}
use Rattle.convert.proofs.ReachedSizes.{reached-sized}

module _ (p : ℕ) (h : 1 < p) (n : ℕ) (H : List (Line (ZMod p) (Row n))) (B : List (Row n)) (small : p ≤ largest_modulus) (some : 1 ≤ n) (few : n ≤ most_variables)
    (sized : Sized (modulo p h) n most_standard H) (standards : Small n B) where
  -- A line of the text is short.
  abbrev Short : TextLine → Type 0
  Short l = length (printed l) ≤ widest

  row_small : (m : Row n) → ((i : ℕ) → i < n → exponent n m i ≤ most_standard) → SmallRow (exponents n m)
  row_small m e = (omega (arith, exponents-count n m), exponents-each (λ e. e ≤ most_exponent) n m (λ i l. omega (arith, e i l)))

  -- A term, as a term of the text.
  abbrev as_term : ZMod p × Row n → Term
  as_term t = (t.0.0, exponents n t.1)

  line-short : (g : Line (ZMod p) (Row n)) → g ∈ H → Short (generator (terms_of_line p h n g))
  unfolding terms_of_line
  line-short g i = generator-width-most (terms_of_line p h n g) (omega (arith, length-map (polynomial (modulo p h) g) as_term, sized.terms g i))
      (each_map SmallTerm as_term (polynomial (modulo p h) g) (λ t q. let c = t.0.1 in (omega arith, row_small t.1 (λ v l. sized.exponents g i t q v l))))

  lines-short : Each Short (map (as_generator p h n) H)
  lines-short = subst (Each Short) (sym (text-lines p h n H)) (each_map Short generator (map (terms_of_line p h n) H) terms)
    where
      terms : (ts : List Term) → ts ∈ map (terms_of_line p h n) H → Short (generator ts)
      terms ts i = let (g, j, e) = of_map (terms_of_line p h n) H i in subst (λ ts. Short (generator ts)) (sym e) (line-short g j)

  back-short : Each Short (standard (map (exponents n) B) ∷ points (length B) ∷ end (length H) ∷ [])
  unfolding bytes
  back-short = (
    omega (arith, standard-width-most (map (exponents n) B) (omega (arith, length-map B (exponents n), standards.few)) (each_map SmallRow (exponents n) B (λ m i. row_small m (standards.exponents m i)))),
    (
      omega (arith, ap length (points-counted (length B)), counted-width (bytes "runs") (length B), number-width-3 (length B) (omega (arith, standards.few))),
      (omega (arith, ap length (end-counted (length H)), counted-width (bytes "end") (length H), number-width-3 (length H) (omega (arith, sized.lines some))), tt),
    ),
  )

  pub written-within : length (written p h n H B) ≤ most_bytes
  unfolding written bytes
  written-within =
      let back : List TextLine = standard (map (exponents n) B) ∷ points (length B) ∷ end (length H) ∷ [] in
      let front : Short (header (bytes "lex") p n) = omega (arith, header-width (bytes "lex") p n, number-width-3 p (omega arith), number-width-3 n (omega arith)) in
      omega (
        arith,
        text-width widest ((header (bytes "lex") p n ∷ map (as_generator p h n) H) ++ back) (front, each_append Short (map (as_generator p h n) H) back lines-short back-short),
        length-append (map (as_generator p h n) H) back,
        length-map H (as_generator p h n),
        sized.lines some,
      )

-- What is reached fits.
reached-fits : {input : Bytes} {line : ℕ} → ¬ Reached input most_bytes (refused 16 line)
reached-fits {line = line} a = at a.fits
  where
    at : ¬ Fits most_bytes (written a.basis.p a.passes.modulus.prime.above_one a.basis.n a.H a.B) (refused 16 line)
    at (inl (l, e)) =
        let v = a.passes.variables in
        let (sized, standards) = reached-sized a in
        omega (arith, written-within a.basis.p a.passes.modulus.prime.above_one a.basis.n a.H a.B a.passes.modulus.size v.some v.most sized standards)
    at (inr (l, e)) = let z : ◌≡◌ {A = ℕ} 0 1 = cc in omega arith

pub room-suffices : (input : Bytes) (line : ℕ) → ¬ Outcome input most_bytes (refused 16 line)
room-suffices input line w = at (outcome-cases input most_bytes (refused 16 line) w)
  where
    at : ¬ (Early (refused 16 line) ⊎ Reached input most_bytes (refused 16 line))
    at (inl (k, l, low, high, e)) = let z : 16 ≡ k = cc in omega arith
    at (inr a) = reached-fits a

never-16 : (input : Bytes) (o : Judged Bytes) → Outcome input most_bytes o → ¬ ((returned o).0 ≡ 16)
never-16 input (refused k line) w e = room-suffices input line (subst (λ k. Outcome input most_bytes (refused k line)) e w)
never-16 input (passed out) w e = omega arith

pub program-answer : {input was left : Bytes} {a : Result ℕ Refused} → most_bytes ≡ length was → Meets input was left a
    → ((o : Judged Bytes) × Outcome input most_bytes o × (pair a ≡ returned o)) × (¬ ((pair a).0 ≡ 16))
program-answer {input} {a = a} size m =
    let (o, w, e, l) = m.outcome in
    let at : Outcome input most_bytes o = subst (λ room. Outcome input room o) (sym size) w in
    ((o, at, e), λ q. never-16 input o at (ap (λ (x : ℕ × ℕ). x.0) (sym e) ∙ q))
