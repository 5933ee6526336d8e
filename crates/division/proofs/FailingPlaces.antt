-- Check 15 by the places of the lines: the number of a line of the text is its place and 2.
--   failing-places    check 15 speaks of a line exactly if its pair with an earlier line fails
use mathlib.Core.List.{[]}
use mathlib.Core.Path.{◌≡◌, refl, sym, ◌∙◌, subst₂}
use mathlib.Core.Logic.{◌↔◌}
use Prim.Native.Nat.{ℕ, ◌+◌, ◌<◌}
use native.Mathlib.Omega.{arith}
use lib.ListN.{length}
use Rattle.residue.specs.Field.{ZMod, modulo}
use Rattle.monomial.specs.Rows.{Row, one}
use Rattle.monomial.specs.Ordering.{monomials, Grevlex}
use Rattle.groebner.specs.Lines.{Line}
use Rattle.groebner.specs.Bases.{SPolynomial}
use Rattle.lines.specs.declared.StoredBasis.{StoredBasis}
use Rattle.staircase.specs.StoredLines.{stored_lines}
use Rattle.staircase.specs.Conditions.{On, Failing}
use Rattle.staircase.proofs.LineElements.{stored-lines-length, line-at}
use Rattle.staircase.proofs.SmallestLine.{ByPlaces}
use Rattle.staircase.proofs.DividedPlaces.{on-iff}
use Rattle.division.specs.Clearing.{line_at}
use Rattle.division.specs.PairRemainders.{PairFails}

module _ (b : StoredBasis) (h : 1 < b.p) where
  -- The line of that number.
  line-on-iff : (k : ℕ) (g : Line (ZMod b.p) (Row b.n)) → On (stored_lines b h) k g ↔ ((i : ℕ) × (k ≡ i + 2) × (i < length b.lines.items) × (g ≡ line_at b h i))
  line-on-iff k g = (
    λ o.
        let (i, e, l, q) = (on-iff (one b.n, []) (stored_lines b h) k g).0 o in
        let m : i < length b.lines.items = omega (arith, stored-lines-length b h) in
        (i, e, m, q ∙ line-at b h i),
    λ (i, e, l, q). (on-iff (one b.n, []) (stored_lines b h) k g).1 (i, e, omega (arith, stored-lines-length b h), q ∙ sym (line-at b h i)),
  )

  -- Line j and an earlier line fail.
  abbrev FailsAt : ℕ → Type 0
  FailsAt j = (i : ℕ) × (i < j) × PairFails b h i j

  pub failing-places : ByPlaces (Failing (modulo b.p h) (monomials b.n) (stored_lines b h) (Grevlex b.n)) FailsAt (length b.lines.items)
  failing-places k = (to, from)
    where
      to : Failing (modulo b.p h) (monomials b.n) (stored_lines b h) (Grevlex b.n) k → (j : ℕ) × (k ≡ j + 2) × (j < length b.lines.items) × FailsAt j
      to f =
          let (i, e, l, p) = (line-on-iff f.j f.f).0 f.earlier in
          let (j, e', l', q) = (line-on-iff k f.g).0 f.later in
          let pair = subst₂ (λ x y. SPolynomial (modulo b.p h) (monomials b.n) x y f.s) p q f.pair in
          (j, e', l', (i, omega (arith, f.before), record { s = f.s; pair = pair; r = f.r; remainder = f.remainder; nonzero = f.nonzero }))

      from : (j : ℕ) × (k ≡ j + 2) × (j < length b.lines.items) × FailsAt j → Failing (modulo b.p h) (monomials b.n) (stored_lines b h) (Grevlex b.n) k
      from (j, e, l, (i, m, f)) = record {
        f = line_at b h i;
        g = line_at b h j;
        j = i + 2;
        earlier = (line-on-iff (i + 2) (line_at b h i)).1 (i, refl, omega arith, refl);
        later = (line-on-iff k (line_at b h j)).1 (j, e, l, refl);
        before = omega arith;
        s = f.s;
        pair = f.pair;
        r = f.r;
        remainder = f.remainder;
        nonzero = f.nonzero;
      }
