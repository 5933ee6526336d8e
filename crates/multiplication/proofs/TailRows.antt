-- The loop of `tail_row`: the terms of a tail are subtracted, from the last on.
--   subtracted-at        a store at a place of the list
--   subtracted-nowhere   a place that is none
--   Gathered             the terms from k on are subtracted, at the places of any list that has the ranks
--   gathered_none        at first none
--   gathered-small       the coefficient of the next term, as it is read, is below p
--   gathered-place       its place is one of a line
--   gathered-more        one term more
--   gathered-all         after the last
use mathlib.Core.Path.{◌≡◌, refl, sym, ◌∙◌, ap, subst}
use mathlib.Core.List.{List, ◌∷◌}
use mathlib.Core.Logic.{by_cases}
use Prim.Native.Nat.{ℕ, suc, ◌+◌, ◌-◌, ◌%◌, ◌≤◌, ◌<◌}
use native.Mathlib.Nat.{add-mod, mod-mod, mod-eq_of_lt}
use native.Mathlib.Decide.{ℕ_discrete}
use native.Mathlib.Omega.{arith}
use lib.ListN.{length, get_or, set, drop, drop_of_length-le}
use lib.Seq.{get_or-set_same, get_or-set_other}
use Rattle.std.specs.Prelude.{Option, Some, None}
use Rattle.residue.specs.Modular.{sum_mod, negation_mod}
use Rattle.residue.specs.Differences.{difference_mod}
use Rattle.residue.specs.Field.{ZMod, modulo, residue}
use Rattle.residue.specs.declared.Residue.{Residue}
use Rattle.residue.proofs.ResidueField.{residue-ring}
use Rattle.residue.proofs.Residues.{residue-same, residue-zero}
use Rattle.monomial.specs.Rows.{Row}
use Rattle.monomial.specs.Ordering.{monomials}
use Rattle.monomial.specs.Represented.{row}
use Rattle.groebner.specs.Polynomials.{coef}
use Rattle.groebner.proofs.Modules.{self, opposite-null, opposite-plus}
use Rattle.groebner.proofs.Terms.{coef-nil, coef-here, coef-there}
use Rattle.lines.specs.Sizes.{most_standard, most_terms}
use Rattle.lines.specs.LineTerms.{coefficient_at, monomial_at}
use Rattle.lines.specs.declared.line.LineTerm.{LineTerm}
use Rattle.staircase.specs.Sound.{SoundLine}
use Rattle.staircase.specs.Listed.{listed, listed_at, PlaceAt, Place}
use Rattle.monomial.specs.declared.Monomial.{Monomial}
use Rattle.staircase.proofs.ArrayRows.{rows-length}
use Rattle.coordinates.specs.Vectors.{coordinate, Below, coordinates_of}
use Rattle.coordinates.specs.declared.Coordinates.{Coordinates}
use Rattle.multiplication.specs.Tails.{Subtracted, TailRow, DistinctRanks}
use Rattle.multiplication.proofs.TailTerms.{term-read, tail_of, term_at, tail-length, tail_from}

-- a - c, as residues.
residue-difference : (p : ℕ) (h : 1 < p) (a c : ℕ) → c < p → residue p h (difference_mod p a c) ≡ (modulo p h).add (residue p h a) ((modulo p h).neg (residue p h c))
unfolding residue modulo sum_mod negation_mod difference_mod
residue-difference p h a c l = residue-same (mod-mod _ p ∙ add-mod a (p - c) p ∙ ap (λ x. (a % p + (p - x) % p) % p) (sym (mod-eq_of_lt l)))

module _ {p : ℕ} {r : Coordinates} {c : ℕ} (below : Below p r) where
  pub subtracted-at : {at : ℕ} {x : Residue} → length r.c ≡ most_standard → at < most_standard → (x.0 ≡ difference_mod p (coordinate r at) c) × (x.0 < p)
      → Subtracted p r c (Some at) (record { c = set r.c at x })
  subtracted-at {at} {x} s l e = record {
    below = record { below = λ k. by_cases (ℕ_discrete k at) (λ q. rw (q, here) e.1) (λ q. rw (other k q) (below.below k)) };
    there = λ k q. let same : k ≡ at = cc in rw same (here ∙ e.0);
    elsewhere = λ k q. other k (λ same. q (ap Some (sym same)));
  }
    where
      here : (get_or (set r.c at x) at (record { 0 = 0 })).0 ≡ x.0
      here = ap (λ (y : Residue). y.0) (get_or-set_same r.c at x (record { 0 = 0 }) (omega arith))

      other : (k : ℕ) → ¬ (k ≡ at) → (get_or (set r.c at x) k (record { 0 = 0 })).0 ≡ coordinate r k
      other k q = ap (λ (y : Residue). y.0) (get_or-set_other r.c at k x (record { 0 = 0 }) q)

  pub subtracted-nowhere : Subtracted p r c None r
  subtracted-nowhere = record { below = below; there = λ k q. cc; elsewhere = λ k q. refl }

negative-zero : (p : ℕ) (h : 1 < p) → (modulo p h).neg (modulo p h).zero ≡ (modulo p h).zero
unfolding self
negative-zero p h = opposite-null (self (residue-ring p h))

negative-sum : (p : ℕ) (h : 1 < p) (a b : ZMod p) → (modulo p h).add ((modulo p h).neg b) ((modulo p h).neg a) ≡ (modulo p h).neg ((modulo p h).add a b)
unfolding self
negative-sum p h a b = (residue-ring p h).add_comm _ _ ∙ sym (opposite-plus (self (residue-ring p h)) a b)

pub record Gathered (p n : ℕ) (g : List LineTerm) (ranks : List ℕ) (r : Coordinates) (k : ℕ) : Type 0 where
  pub some : 0 < k
  pub within : k ≤ length g
  pub sound : SoundLine p n g
  pub below : Below p r
  pub coefficients : (l : List Monomial) → DistinctRanks n l ranks → (h : 1 < p) (j : ℕ) → j < length l
      → coordinates_of p h r j ≡ (modulo p h).neg (coef (modulo p h) (monomials n) (drop (k - 1) (tail_of p h n g)) (listed_at n l j))

pub gathered_none : {p n : ℕ} {g : List LineTerm} {ranks : List ℕ} {r : Coordinates} → 0 < p → SoundLine p n g → ((k : ℕ) → coordinate r k ≡ 0) → Gathered p n g ranks r (length g)
unfolding coordinates_of
gathered_none {p} {n} {g} {r = r} o s z = record {
  some = s.some;
  within = omega arith;
  sound = s;
  below = record { below = λ k. omega (arith, z k) };
  coefficients = λ l _ h j m. ap (residue p h) (z j) ∙ residue-zero p h
      ∙ sym (ap (modulo p h).neg (ap (λ t. coef (modulo p h) (monomials n) t (listed_at n l j)) (drop_of_length-le (tail_of p h n g) {i = length g - 1} (omega (arith, tail-length p h n g)))
      ∙ coef-nil (residue-ring p h) (monomials n) _) ∙ negative-zero p h);
}

-- Whether a place is j.
option? : (o : Option ℕ) (j : ℕ) → Dec (o ≡ Some j)
option? None j = no (λ e. cc)
option? (Some i) j = go (ℕ_discrete i j)
  where
    go : Dec (i ≡ j) → Dec (Some i ≡ Some j)
    go (yes e) = yes (ap Some e)
    go (no d) = no (λ e. d cc)

module _ {p n : ℕ} {g : List LineTerm} {ranks : List ℕ} {r : Coordinates} {k : ℕ} (so_far : Gathered p n g ranks r k) (more : 1 < k) where
  inside : k - 1 < length g
  inside = omega (arith, so_far.within)

  coefficient-small : coefficient_at g (k - 1) < p
  coefficient-small = (so_far.sound.coefficients (k - 1) inside).1

  -- The term at place k - 1, by what is read there.
  pub gathered-small : (d : LineTerm) → (get_or g (k - 1) d).coefficient.0 < p
  gathered-small d = rw (term-read g (k - 1) d inside).0 coefficient-small

  pub gathered-place : (k - 1 < length g) × (k - 1 < most_terms)
  gathered-place = (inside, omega (arith, inside, so_far.sound.few))

  one-more : {at : Option ℕ} {a : Coordinates}
      → ((l : List Monomial) → DistinctRanks n l ranks → Place n (listed n l) (row n (monomial_at g (k - 1))) at)
      → Subtracted p r (coefficient_at g (k - 1)) at a → Gathered p n g ranks a (k - 1)
  unfolding coordinates_of
  one-more {at} {a} places sub = record {
    some = omega arith;
    within = omega (arith, so_far.within);
    sound = so_far.sound;
    below = sub.below;
    coefficients = λ l d h j m. by_cases (option? at j) (here l d h j m) (other l d h j m);
  }
    where
      c : ℕ
      c = coefficient_at g (k - 1)

      rest : (h : 1 < p) → List (ZMod p × Row n)
      rest h = drop (k - 1) (tail_of p h n g)

      step : (h : 1 < p) → drop (k - 1 - 1) (tail_of p h n g) ≡ term_at p h n g (k - 1) ∷ rest h
      step h = let e : suc (k - 1 - 1) ≡ k - 1 = omega arith in
          subst (λ i. drop (k - 1 - 1) (tail_of p h n g) ≡ term_at p h n g i ∷ drop i (tail_of p h n g)) e
          (tail_from p h n g (k - 1 - 1) (omega (arith, so_far.within)))

      goal : (l : List Monomial) (h : 1 < p) (j : ℕ) → ZMod p → Type 0
      goal l h j x = x ≡ (modulo p h).neg (coef (modulo p h) (monomials n) (drop (k - 1 - 1) (tail_of p h n g)) (listed_at n l j))

      here : (l : List Monomial) → DistinctRanks n l ranks → (h : 1 < p) (j : ℕ) → j < length l → at ≡ Some j → goal l h j (coordinates_of p h a j)
      here l d h j m q =
          let there : PlaceAt n (listed n l) (row n (monomial_at g (k - 1))) j = rw q at places l d in
          let e : listed_at n l j ≡ row n (monomial_at g (k - 1)) = there.found in
          let t : coordinate a j ≡ difference_mod p (coordinate r j) c = sub.there j q in
          ap (residue p h) t ∙ residue-difference p h (coordinate r j) c coefficient-small
          ∙ ap (λ x. (modulo p h).add x ((modulo p h).neg (residue p h c))) (so_far.coefficients l d h j m) ∙ negative-sum p h (residue p h c) _
          ∙ ap (modulo p h).neg (subst (λ x. (modulo p h).add (residue p h c) (coef (modulo p h) (monomials n) (rest h) x)
          ≡ coef (modulo p h) (monomials n) (term_at p h n g (k - 1) ∷ rest h) x) (sym e)
          (sym (coef-here (residue-ring p h) (monomials n) (residue p h c) (row n (monomial_at g (k - 1))) (rest h)))
          ∙ ap (λ t. coef (modulo p h) (monomials n) t (listed_at n l j)) (sym (step h)))

      other : (l : List Monomial) → DistinctRanks n l ranks → (h : 1 < p) (j : ℕ) → j < length l → ¬ (at ≡ Some j) → goal l h j (coordinates_of p h a j)
      other l d h j m q = ap (residue p h) (sub.elsewhere j q) ∙ so_far.coefficients l d h j m
          ∙ ap (modulo p h).neg (sym (ap (λ t. coef (modulo p h) (monomials n) t (listed_at n l j)) (step h) ∙ coef-there (residue-ring p h) (monomials n) _ (rest h) (listed_at n l j) differs))
        where
          differs : ¬ (listed_at n l j ≡ row n (monomial_at g (k - 1)))
          differs e = go at refl
            where
              go : (o : Option ℕ) → at ≡ o → ⊥
              go None is = (rw is at places l d) j (omega (arith, m, rows-length n l)) e
              go (Some i) is =
                  let there : PlaceAt n (listed n l) (row n (monomial_at g (k - 1))) i = rw is at places l d in
                  q (is ∙ ap Some (sym (d.once j i m (omega (arith, there.within, rows-length n l)) (e ∙ sym there.found))))

  pub gathered-more : (d : LineTerm) {at : Option ℕ} {a : Coordinates}
      → ((l : List Monomial) → DistinctRanks n l ranks → Place n (listed n l) (row n (get_or g (k - 1) d).monomial) at)
      → Subtracted p r (get_or g (k - 1) d).coefficient.0 at a → Gathered p n g ranks a (k - 1)
  gathered-more d {at} {a} places sub =
      let (c, m) = term-read g (k - 1) d inside in
      one-more (λ l e. rw m at places l e) (rw c at sub)

pub gathered-all : {p n : ℕ} {g : List LineTerm} {ranks : List ℕ} {r : Coordinates} {k : ℕ} → Gathered p n g ranks r k → k ≤ 1
    → (l : List Monomial) → DistinctRanks n l ranks → TailRow p n g l r
gathered-all {k = k} so_far h l d =
    let e : k - 1 ≡ 0 = omega arith in
    record { below = so_far.below; coefficients = λ q j m. rw e at (so_far.coefficients l d q j m) }
