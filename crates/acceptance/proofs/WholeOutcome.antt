-- What the outcome of checks 12 to 15 says of the lines (demand 2, its last sentence).
--   Passing p prime n G   checks 12, 13 and 15 speak of nothing
--   passing-iff           they do exactly if the lines are, each once, a reduced grevlex Groebner basis with finitely many irreducible monomials
--   whole-of-passing      for such lines only check 14 is left, and what comes after
--   whole-passed          what passes is such a basis, with at most 32 irreducible monomials
--   AtMostOne P           at most one value has P
--   at-0-unique           a check of the whole text has one outcome, if those after it do
--   whole_unique          the checks have one outcome, if those after them do
use mathlib.Core.Path.{◌≡◌, sym, ◌∙◌, ap}
use mathlib.Core.List.{List}
use mathlib.Core.Logic.{inl, inr, ◌↔◌, by_cases}
use Prim.Native.Nat.{ℕ, ◌<◌}
use Rattle.std.specs.Prelude.{Some}
use Rattle.residue.specs.Prime.{Prime}
use Rattle.residue.specs.Field.{Arithmetic, ZMod, modulo}
use Rattle.monomial.specs.Rows.{Row}
use Rattle.monomial.specs.Ordering.{monomials, Grevlex}
use Rattle.monomial.proofs.Products.{rows-laws}
use Rattle.monomial.proofs.GrevlexOrder.{grevlex-order}
use Rattle.answer.specs.Outcomes.{Judged, refused, passed, refuse◌at_smallest◌else◌, refuse◌at_0_if◌else◌}
use Rattle.answer.proofs.Outcomes.{passed-not-refused}
use Rattle.groebner.specs.Lines.{Line, Lines, Reducible}
use Rattle.groebner.specs.Bases.{Reduced}
use Rattle.groebner.specs.Standard.{ZeroDimensional, Finite}
use Rattle.groebner.proofs.Instance.{ground, criterion}
use Rattle.groebner.proofs.ZeroDimension.{zero-dimensional-iff, zero-dimensional?}
use Rattle.staircase.specs.Conditions.{Divided, Failing, Large}
use Rattle.staircase.proofs.SmallestLine.{smallest-unique}
use Rattle.staircase.proofs.ClearLines.{divided-reduced}
use Rattle.staircase.proofs.FailingPairs.{failing-buchberger}
use Rattle.acceptance.specs.Whole.{Whole}

module _ (p : ℕ) (prime : Prime p) (n : ℕ) (G : List (Line (ZMod p) (Row n))) where
  abbrev h : 1 < p
  h = prime.above_one

  abbrev R : Arithmetic (ZMod p)
  R = modulo p h

  -- Checks 12, 13 and 15 speak of nothing.
  pub record Passing : Type 0 where
    pub undivided : (k : ℕ) → ¬ Divided R (monomials n) G k
    pub dimension : ¬ ¬ ZeroDimensional n G
    pub unfailing : (k : ℕ) → ¬ Failing R (monomials n) G (Grevlex n) k

  module _ (lines : Lines R (Grevlex n) G) where
    reduced-of-passing : Passing → Reduced R (monomials n) (Grevlex n) G × Finite (λ m. ¬ Reducible (monomials n) G m)
    reduced-of-passing w =
        let (once, clear) = (divided-reduced R (monomials n) G (rows-laws n)).0 w.undivided in
        let pairs = (failing-buchberger (ground p prime n) (grevlex-order n) G (λ g q. (lines.falling g q).0)).0 w.unfailing in (
          record { lines = lines; once = once; groebner = (criterion p prime n G lines).0 pairs; clear = clear },
          (zero-dimensional-iff n G).0 (by_cases (zero-dimensional? n G) (λ z. z) (λ z. absurd (w.dimension z))),
        )

    passing-of-reduced : Reduced R (monomials n) (Grevlex n) G × Finite (λ m. ¬ Reducible (monomials n) G m) → Passing
    passing-of-reduced (r, f) = record {
      undivided = (divided-reduced R (monomials n) G (rows-laws n)).1 (r.once, r.clear);
      dimension = λ z. z ((zero-dimensional-iff n G).1 f);
      unfailing = (failing-buchberger (ground p prime n) (grevlex-order n) G (λ g q. (lines.falling g q).0)).1 ((criterion p prime n G lines).1 r.groebner);
    }

    pub passing-iff : Passing ↔ (Reduced R (monomials n) (Grevlex n) G × Finite (λ m. ¬ Reducible (monomials n) G m))
    passing-iff = (reduced-of-passing, passing-of-reduced)

  module _ {A : Type 0} (later : Judged A → Type 0) where
    pub whole-of-passing : Passing → (o : Judged A) → Whole p h n G later o ↔ (refuse 14 at_0_if Large n G else later) o
    whole-of-passing w o = (there, back)
      where
        there : Whole p h n G later o → (refuse 14 at_0_if Large n G else later) o
        there (inl (k, d, q, e)) = absurd (w.undivided k d)
        there (inr (u, inl (z, e))) = absurd (w.dimension z)
        there (inr (u, inr (z, inl x))) = inl x
        there (inr (u, inr (z, inr (x, inl (k, f, q, e))))) = absurd (w.unfailing k f)
        there (inr (u, inr (z, inr (x, inr (v, l))))) = inr (x, l)

        back : (refuse 14 at_0_if Large n G else later) o → Whole p h n G later o
        back (inl x) = inr (w.undivided, inr (w.dimension, inl x))
        back (inr (x, l)) = inr (w.undivided, inr (w.dimension, inr (x, inr (w.unfailing, l))))

    pub whole-passed : (a : A) → Whole p h n G later (passed a) → Passing × (¬ Large n G) × later (passed a)
    whole-passed a (inl (k, d, q, e)) = absurd (passed-not-refused e)
    whole-passed a (inr (u, inl (z, e))) = absurd (passed-not-refused e)
    whole-passed a (inr (u, inr (z, inl (x, e)))) = absurd (passed-not-refused e)
    whole-passed a (inr (u, inr (z, inr (x, inl (k, f, q, e))))) = absurd (passed-not-refused e)
    whole-passed a (inr (u, inr (z, inr (x, inr (v, l))))) = (record { undivided = u; dimension = z; unfailing = v }, x, l)

-- At most one value has P.
abbrev pub AtMostOne : {A : Type 0} → (A → Type 0) → Type 0
AtMostOne {A} P = (o o' : A) → P o → P o' → o ≡ o'

module _ {A : Type 0} (number : ℕ) {later : Judged A → Type 0} (one : AtMostOne later) where
  at-smallest-unique : (Of : ℕ → Type 0) → AtMostOne (refuse number at_smallest Of else later)
  at-smallest-unique Of o o' (inl (k, a, p, e)) (inl (j, b, q, f)) = e ∙ ap (refused number) (let same : Some k ≡ Some j = smallest-unique Of (a, p) (b, q) in cc) ∙ sym f
  at-smallest-unique Of o o' (inl (k, a, p, e)) (inr (n, l)) = absurd (n k a)
  at-smallest-unique Of o o' (inr (n, l)) (inl (j, b, q, f)) = absurd (n j b)
  at-smallest-unique Of o o' (inr (n, l)) (inr (m, l')) = one o o' l l'

  pub at-0-unique : (P : Type 0) → AtMostOne (refuse number at_0_if P else later)
  at-0-unique P o o' (inl (a, e)) (inl (b, f)) = e ∙ sym f
  at-0-unique P o o' (inl (a, e)) (inr (n, l)) = absurd (n a)
  at-0-unique P o o' (inr (n, l)) (inl (b, f)) = absurd (n b)
  at-0-unique P o o' (inr (n, l)) (inr (m, l')) = one o o' l l'

pub whole_unique : {A : Type 0} (p : ℕ) (h : 1 < p) (n : ℕ) (G : List (Line (ZMod p) (Row n))) {later : Judged A → Type 0} → AtMostOne later → AtMostOne (Whole p h n G later)
whole_unique p h n G one = at-smallest-unique 12 (at-0-unique 13 (at-0-unique 14 (at-smallest-unique 15 one _) _) _) _
