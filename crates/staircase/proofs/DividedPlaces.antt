-- Check 12 by places: line k of the text stands at place k - 2.
--   on-iff                   line k of the text, by its place
--   monomials_of R g         the monomials of a line
--   DividedAt R 𝓜 G d i      a monomial of the line at place i is divisible by the leading monomial of the line at another place
--   divided-iff              check 12 by places of the lines
--   divides-at-place         the test for term k of a line
--   divides-read             so it says of a term that is read there
--   divides-term-iff         the test for the terms of a line
--   divided-by-another-iff   a monomial of a list at another place than i divides one of the line's
--   divided-of-basis         check 12 by places of the basis
use mathlib.Core.Path.{◌≡◌, refl, sym, ◌∙◌, ap, subst, subst₂}
use mathlib.Core.List.{List, [], map}
use mathlib.Core.Bool.{Bool, true}
use mathlib.Core.Logic.{◌↔◌}
use Prim.Native.Nat.{ℕ, zero, suc, ◌+◌, ◌<◌}
use native.Mathlib.Omega.{arith}
use lib.ListN.{length, get_or, length-map, get_or-map}
use Rattle.std.proofs.lemmas.List.{get_or_default}
use Rattle.lists.specs.Lists.{◌∈◌}
use Rattle.lists.proofs.Elements.{at-iff}
use Rattle.residue.specs.Field.{Arithmetic, ZMod, modulo}
use Rattle.monomial.specs.Rows.{Row, one}
use Rattle.monomial.specs.Quotients.{divides}
use Rattle.monomial.specs.Ordering.{Monomials, Divides, monomials}
use Rattle.monomial.specs.Represented.{row}
use Rattle.monomial.specs.declared.Monomial.{Monomial}
use Rattle.monomial.proofs.Products.{divides-iff}
use Rattle.groebner.specs.Lines.{Line, polynomial}
use Rattle.groebner.proofs.Lists.{in_map, of_map}
use Rattle.lines.specs.LineTerms.{no_term, monomial_at}
use Rattle.lines.specs.declared.line.LineTerm.{LineTerm}
use Rattle.lines.specs.declared.StoredBasis.{StoredBasis}
use Rattle.staircase.specs.StoredLines.{stored_lines}
use Rattle.staircase.specs.Sound.{Sound, generator_at}
use Rattle.staircase.specs.Leads.{rows_of, LeadsOf}
use Rattle.staircase.specs.Places.{DividesTerm, DividedByAnother}
use Rattle.staircase.specs.Conditions.{On, Divided}
use Rattle.staircase.proofs.ArrayRows.{no_monomial, rows-length, rows_at}
use Rattle.staircase.proofs.LineElements.{stored-lines-length, line-at, line-monomials-at}
use Rattle.staircase.proofs.SmallestLine.{ByPlaces}

pub on-iff : {A : Type 0} (d : A) (G : List A) (k : ℕ) (g : A) → On G k g ↔ ((i : ℕ) × (k ≡ i + 2) × (i < length G) × (g ≡ get_or G i d))
on-iff d G zero g = (λ o. absurd o, λ (i, e, l, q). absurd (omega arith))
on-iff d G (suc zero) g = (λ o. absurd o, λ (i, e, l, q). absurd (omega arith))
on-iff {A} d G (suc (suc k)) g = (
  λ o. let (l, q) = (at-iff d G k g).0 o in (k, omega arith, l, q),
  λ (i, e, l, q). let same : i ≡ k = omega arith in (at-iff d G k g).1 (subst (λ (x : ℕ). (x < length G) × (g ≡ get_or G x d)) same (l, q)),
)

module _ {F M : Type 0} (R : Arithmetic F) where
  -- The monomials of a line.
  abbrev pub monomials_of : Line F M → List M
  monomials_of g = map (λ t. t.1) (polynomial R g)

  module _ (𝓜 : Monomials M) (G : List (Line F M)) (d : Line F M) where
    abbrev pub DividedAt : ℕ → Type 0
    DividedAt i = (j : ℕ) × (j < length G) × (¬ (j ≡ i)) × (m : M) × (m ∈ monomials_of (get_or G i d)) × Divides 𝓜 (get_or G j d).0 m

    pub divided-iff : ByPlaces (Divided R 𝓜 G) DividedAt (length G)
    divided-iff k = (there, back)
      where
        there : Divided R 𝓜 G k → (i : ℕ) × (k ≡ i + 2) × (i < length G) × DividedAt i
        there w =
            let (i, ei, li, gi) = (on-iff d G k w.g).0 w.line in
            let (j, ej, lj, hj) = (on-iff d G w.j w.h).0 w.other in (
              i,
              ei,
              li,
              (
                j,
                lj,
                λ e. w.different (omega arith),
                w.term.1,
                subst (λ (g : Line F M). w.term.1 ∈ monomials_of g) gi (in_map (λ t. t.1) w.of_line),
                subst (λ (h : Line F M). Divides 𝓜 h.0 w.term.1) hj w.divides,
              ),
            )

        back : (i : ℕ) × (k ≡ i + 2) × (i < length G) × DividedAt i → Divided R 𝓜 G k
        back (i, ei, li, (j, lj, n, m, q, v)) =
            let (t, p, e) = of_map (λ t. t.1) (polynomial R (get_or G i d)) q in record {
              g = get_or G i d;
              h = get_or G j d;
              j = j + 2;
              line = (on-iff d G k (get_or G i d)).1 (i, ei, li, refl);
              other = (on-iff d G (j + 2) (get_or G j d)).1 (j, refl, lj, refl);
              different = λ e. n (omega arith);
              term = t;
              of_line = p;
              divides = subst (Divides 𝓜 (get_or G j d).0) e v;
            }

pub divides-at-place : (n : ℕ) (d : Row n) (g : List LineTerm) (k : ℕ) {t : Bool} → t ≡ divides n d (row n (monomial_at g k))
    → (t ≡ true) ↔ Divides (monomials n) d (row n (monomial_at g k))
divides-at-place n d g k e = rw e (divides-iff n d _)

pub divides-read : (n : ℕ) (d : Row n) (g : List LineTerm) (k : ℕ) {u : LineTerm} {t : Bool} → t ≡ divides n d (row n u.monomial) → u ≡ get_or g k u → k < length g
    → t ≡ divides n d (row n (monomial_at g k))
unfolding monomial_at
divides-read n d g k {u} e read l = e ∙ ap (λ (v : LineTerm). divides n d (row n v.monomial)) (read ∙ get_or_default g k u no_term l)

pub divides-term-iff : (n : ℕ) (d : Row n) (g : List LineTerm) {t : Bool}
    → (t ≡ true) ↔ ((k : ℕ) × (k < length g) × (divides n d (row n (monomial_at g k)) ≡ true)) → (t ≡ true) ↔ DividesTerm n d g
divides-term-iff n d g i = (λ e. let (k, l, q) = i.0 e in (k, l, (divides-iff n d _).0 q), λ (k, l, q). i.1 (k, l, (divides-iff n d _).1 q))

pub divided-by-another-iff : (n i : ℕ) (ms : List Monomial) (g : List LineTerm)
    → DividedByAnother n i (rows_of n ms) g ↔ ((j : ℕ) × (j < length ms) × ((¬ (j ≡ i)) × DividesTerm n (row n (get_or ms j no_monomial)) g))
divided-by-another-iff n i ms g = (
  λ (j, l, d, t). (j, omega (arith, rows-length n ms), (d, subst (λ (x : Row n). DividesTerm n x g) (rows_at n ms j) t)),
  λ (j, l, (d, t)). (j, omega (arith, rows-length n ms), d, subst (λ (x : Row n). DividesTerm n x g) (sym (rows_at n ms j)) t),
)

module _ (b : StoredBasis) (sound : Sound b) (ms : List Monomial) (leads : LeadsOf b ms) (h : 1 < b.p) where
  abbrev n : ℕ
  n = b.n

  abbrev G : List (Line (ZMod b.p) (Row n))
  G = stored_lines b h

  abbrev L : List (Row n)
  L = rows_of n ms

  many : length L ≡ length G
  many = ap length (leads.1 h) ∙ length-map G (λ g. g.0)

  lead-at : (j : ℕ) → (get_or G j (one n, [])).0 ≡ get_or L j (one n)
  lead-at j = sym (get_or-map (λ g. g.0) G j (one n, [])) ∙ ap (λ (l : List (Row n)). get_or l j (one n)) (sym (leads.1 h))

  monomial-in : (i : ℕ) → i < length b.lines.items → (m : Row n)
      → m ∈ monomials_of (modulo b.p h) (get_or G i (one n, [])) ↔ ((k : ℕ) × (k < length (generator_at b i)) × (m ≡ row n (monomial_at (generator_at b i) k)))
  monomial-in i l m = rw (line-at b h i) (line-monomials-at b.p h n (generator_at b i) (sound.lines i l).some m)

  divided-at : (i : ℕ) → i < length b.lines.items → DividedAt (modulo b.p h) (monomials n) G (one n, []) i ↔ DividedByAnother n i L (generator_at b i)
  divided-at i l = (
    λ (j, lj, d, m, q, v). let (k, lk, e) = (monomial-in i l m).0 q in (j, omega (arith, many), d, (k, lk, subst₂ (Divides (monomials n)) (lead-at j) e v)),
    λ (j, lj, d, (k, lk, v)).
        let m = row n (monomial_at (generator_at b i) k) in
        (j, omega (arith, many), d, m, (monomial-in i l m).1 (k, lk, refl), subst (λ (x : Row n). Divides (monomials n) x m) (sym (lead-at j)) v),
  )

  pub divided-of-basis : ByPlaces (Divided (modulo b.p h) (monomials n) G) (λ i. DividedByAnother n i L (generator_at b i)) (length b.lines.items)
  divided-of-basis k = (
    λ w.
        let (i, e, l, a) = (divided-iff (modulo b.p h) (monomials n) G (one n, []) k).0 w in
        let l' : i < length b.lines.items = omega (arith, stored-lines-length b h) in
        (i, e, l', (divided-at i l').0 a),
    λ (i, e, l, a). (divided-iff (modulo b.p h) (monomials n) G (one n, []) k).1 (i, e, omega (arith, stored-lines-length b h), (divided-at i l).1 a),
  )
