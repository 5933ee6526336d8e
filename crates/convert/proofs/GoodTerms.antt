-- The terms of the lines of a basis within the sizes are of the form, and those of a grevlex basis are good lines.
--   terms-form     of the form
--   terms-good     good
use Prim.Native.Nat.{ℕ, ◌<◌, ◌≤◌}
use mathlib.Core.Path.{refl, sym, ap, subst₂}
use mathlib.Core.HLevel.{Σ_prop_path}
use mathlib.Core.List.Memᴰ
use mathlib.Core.List.{List, [], ◌∷◌, map}
use mathlib.Core.Logic.{⊎_elim, by_cases}
use native.Mathlib.Bridge.{le_prop}
use native.Mathlib.Decide.{dec_lt}
use native.Mathlib.Omega.{arith}
use lib.ListN.{length-map}
use Rattle.lists.specs.Lists.{◌∈◌}
use Rattle.lists.proofs.EachElement.{each_map}
use Rattle.residue.specs.Prime.{largest_modulus}
use Rattle.residue.specs.Field.{Arithmetic, ZMod, modulo}
use Rattle.residue.proofs.ResidueField.{residue-ring}
use Rattle.monomial.specs.Sizes.{most_exponent}
use Rattle.monomial.specs.Rows.{Row}
use Rattle.monomial.specs.Ordering.{monomials, Grevlex}
use Rattle.groebner.specs.Polynomials.{Poly}
use Rattle.groebner.specs.Lines.{Line, polynomial, Falling, Lines}
use Rattle.groebner.proofs.Terms.{all-at, nonzero-of-term}
use Rattle.lines.specs.Sizes.{most_standard}
use Rattle.lines.specs.Terms.{Term}
use Rattle.tabtext.specs.Text.{Number, Exponents, generator, Form}
use Rattle.checks.proofs.GoodLines.{GoodTerm, GoodLine}
use Rattle.checks.proofs.GoodLines as good
use Rattle.convert.specs.Written.{exponents}
use Rattle.convert.proofs.SizesSuffice.{Sized}
use Rattle.convert.proofs.LineTerms.{exponents-count, exponents-each, row-of-exponents, terms_of_line}

module _ (p : ℕ) (h : 1 < p) (n : ℕ) where
  abbrev R : Arithmetic (ZMod p)
  R = modulo p h

  abbrev as_term : ZMod p × Row n → Term
  as_term t = (t.0.0, exponents n t.1)

  -- A term that is smaller than the one before it, after it.
  falling-terms : (f : Poly (ZMod p) (Row n)) → Falling (Grevlex n) f → good.FallingTerms n (map as_term f)
  falling-terms [] w = tt
  falling-terms (t ∷ []) w = tt
  falling-terms (t ∷ u ∷ f) w = (
    subst₂ (Grevlex n) (sym (row-of-exponents n u.1)) (sym (row-of-exponents n t.1)) (all-at w.0 (Memᴰ.head refl)),
    falling-terms (u ∷ f) w.1,
  )

  module _ (G : List (Line (ZMod p) (Row n))) (small : p ≤ largest_modulus) (sized : Sized R n most_standard G) where
    pub terms-form : (g : Line (ZMod p) (Row n)) → g ∈ G → Form n (generator (terms_of_line p h n g))
    unfolding terms_of_line polynomial
    terms-form g i = (
      omega arith,
      each_map (λ (t : Term). Number t.0 × Exponents n t.1) as_term (polynomial R g)
          (λ t q. let c = t.0.1 in (omega arith, (exponents-count n t.1, exponents-each Number n t.1 (λ v l. omega (arith, sized.exponents g i t q v l))))),
    )

    module _ (lines : Lines R (Grevlex n) G) where
      positive : (g : Line (ZMod p) (Row n)) → g ∈ G → (t : ZMod p × Row n) → t ∈ polynomial R g → 1 ≤ t.0.0
      unfolding polynomial modulo
      positive g i t q = ⊎_elim (λ e. omega (arith, ap (λ (x : ZMod p × Row n). x.0.0) e)) (λ j. by_cases (dec_lt 0 t.0.0) (λ l. l) (λ l. absurd (nonzero j l))) (Memᴰ.cases_cons q)
        where
          nonzero : t ∈ g.1 → ¬ ¬ (0 < t.0.0)
          nonzero j l = nonzero-of-term (residue-ring p h) (monomials n) g.1 (lines.proper g i) t.0 t.1 j (Σ_prop_path (λ x. le_prop) (omega arith))

      pub terms-good : (g : Line (ZMod p) (Row n)) → g ∈ G → GoodLine p n (terms_of_line p h n g)
      unfolding terms_of_line polynomial modulo
      terms-good g i = record {
        form = terms-form g i;
        terms = each_map (GoodTerm p) as_term (polynomial R g)
            (λ t q. (positive g i t q, t.0.1, exponents-each (λ e. e ≤ most_exponent) n t.1 (λ v l. omega (arith, sized.exponents g i t q v l))));
        monic = refl;
        falling = falling-terms (polynomial R g) (lines.falling g i);
        size = omega (arith, length-map (polynomial R g) as_term, sized.terms g i);
      }
