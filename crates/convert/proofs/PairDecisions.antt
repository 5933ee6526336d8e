-- Check 15 for a pair of lines, computed: its S-polynomial is divided in a number of steps.
--   s_terms f g                    the S-polynomial of two lines, its terms not yet collected
--   pair-normal                    every S-polynomial of the pair has the normal form of what those steps leave
--   nothing_left, something-left   what they leave decides whether the remainder is zero
--   pair_by k                      whether the remainder is not zero; by k steps if they suffice
use mathlib.Core.Path.{◌≡◌, sym, ◌∙◌, ap}
use mathlib.Core.List.{List, [], ◌∷◌, append-nil}
use Prim.Native.Nat.{ℕ}
use Rattle.residue.specs.Field.{Arithmetic}
use Rattle.monomial.specs.Ordering.{Monomials, Divides, Lcm}
use Rattle.monomial.proofs.OrderLaws.{MonomialOrder}
use Rattle.groebner.specs.Polynomials.{Poly, all_nil, Same, coef, minus, shift, scale, negate, relabel}
use Rattle.groebner.specs.Lines.{Line, polynomial}
use Rattle.groebner.specs.Criteria.{Low}
use Rattle.groebner.specs.Remainders.{Normal}
use Rattle.groebner.specs.Bases.{SPolynomial}
use Rattle.groebner.proofs.Terms.{clean, clean-proper, clean-same, coef-nil, nil-of-zero}
use Rattle.groebner.proofs.NormalForms.{Rewriting, NF, NF-same, NF-fixed}
use Rattle.groebner.proofs.Ground.{PolynomialRing}
use Rattle.groebner.proofs.Division.{LinePlace, rewriting, remainder, remainder-NF, remainder-proper, finished-irreducible}
use Rattle.groebner.proofs.Witnesses.{s-polynomial-unique}
use Rattle.groebner.proofs.Computing.{Deciders, finished?}
use Rattle.convert.proofs.ReducedTerms.{add_terms, reduce_terms, add_same, reduce-normal}
use Rattle.convert.proofs.CheckDecisions.{Fails, fails?}

-- What the decision has found, or else what is known.
known : {A : Type 0} → A → Dec A → A
known a (yes b) = b
known a (no n) = a

module _ {F M : Type 0} {R : Arithmetic F} {𝓜 : Monomials M} {lt : M → M → Type 0} (D : Deciders R 𝓜 lt) (lcm : (a b : M) → (m : M) × Lcm 𝓜 a b m) where
  -- Both leading monomials raised to their least common multiple, and the lines subtracted.
  unfoldable pub s_terms : Line F M → Line F M → Poly F M
  unfolding known polynomial negate scale relabel
  s_terms f g = let (m, w) = lcm f.0 g.0 in
      minus R (shift 𝓜 (known w.left (D.divisor? f.0 m)).0 (polynomial R f)) (shift 𝓜 (known w.right (D.divisor? g.0 m)).0 (polynomial R g))

module _ {F M : Type 0} {R : Arithmetic F} {𝓜 : Monomials M} {lt : M → M → Type 0} (𝓟 : PolynomialRing R 𝓜) (ord : MonomialOrder 𝓜 lt) (D : Deciders R 𝓜 lt)
    (lcm : (a b : M) → (m : M) × Lcm 𝓜 a b m) (G : List (Line F M)) (low : Low lt G) where
  open 𝓟 use {field}
  open field use {ring, decide}

  abbrev S : Rewriting R 𝓜 (LinePlace G)
  S = rewriting 𝓟 ord G low

  pair : (f g : Line F M) → SPolynomial R 𝓜 f g (clean ring 𝓜 decide (s_terms D lcm f g))
  unfolding s_terms
  pair f g =
      let (m, w) = lcm f.0 g.0 in
      let l : Divides 𝓜 f.0 m = known w.left (D.divisor? f.0 m) in
      let r : Divides 𝓜 g.0 m = known w.right (D.divisor? g.0 m) in
      record { m = m; lcm = w; u = l.0; left = l.1; v = r.0; right = r.1; proper = clean-proper ring 𝓜 decide (s_terms D lcm f g); outcome = clean-same ring 𝓜 decide (s_terms D lcm f g) }

  -- What k steps of the division leave of the S-polynomial.
  abbrev left_over : ℕ → Line F M → Line F M → Poly F M
  left_over k f g = reduce_terms D G k (add_terms D (s_terms D lcm f g) [])

  pub pair-normal : (k : ℕ) (f g : Line F M) (s : Poly F M) → SPolynomial R 𝓜 f g s → Same R 𝓜 (NF S s) (NF S (left_over k f g))
  pair-normal k f g s w j = NF-same S s (add_terms D x []) same j ∙ sym (reduce-normal 𝓟 ord D G low k (add_terms D x []) j)
    where
      x : Poly F M
      x = s_terms D lcm f g

      same : Same R 𝓜 s (add_terms D x [])
      same i = s-polynomial-unique 𝓟 ord f g s (clean ring 𝓜 decide x) w (pair f g) i ∙ clean-same ring 𝓜 decide x i ∙ ap (λ y. coef R 𝓜 y i) (sym (append-nil x)) ∙ sym (add_same 𝓟 ord D x [] i)

  pub nothing_left : (f g : Line F M) → ((s : Poly F M) → SPolynomial R 𝓜 f g s → Same R 𝓜 (NF S s) (NF S [])) → ¬ Fails 𝓟 ord G low f g
  nothing_left f g e (s, w, r, q, n) = n (nil-of-zero ring 𝓜 r (remainder-proper 𝓟 ord G low w.proper q)
      (λ j. remainder-NF 𝓟 ord G low q j ∙ e s w j ∙ NF-fixed S [] all_nil j ∙ coef-nil ring 𝓜 j))

  pub something-left : (f g : Line F M) (r : Poly F M) → ((s : Poly F M) → SPolynomial R 𝓜 f g s → Same R 𝓜 (NF S s) (NF S r)) → Normal 𝓜 G r
      → (j : M) → ¬ (coef R 𝓜 r j ≡ R.zero) → Fails 𝓟 ord G low f g
  something-left f g r e h j n =
      let s : Poly F M = clean ring 𝓜 decide (s_terms D lcm f g) in
      let (t, q) = remainder 𝓟 ord G low s (pair f g).proper in (
        s,
        pair f g,
        t,
        q,
        λ z. n (sym (NF-fixed S r (finished-irreducible 𝓟 ord G low r h) j) ∙ sym (e s (pair f g) j) ∙ sym (remainder-NF 𝓟 ord G low q j) ∙ ap (λ y. coef R 𝓜 y j) z ∙ coef-nil ring 𝓜 j),
      )

  -- By k steps: nothing is left, or an irreducible polynomial that is not zero; else by the remainder's definition.
  unfoldable pub pair_by : ℕ → (f g : Line F M) → Dec (Fails 𝓟 ord G low f g)
  unfolding s_terms reduce_terms finished? coef
  pair_by k f g = at (left_over k f g) (pair-normal k f g)
    where
      at : (r : Poly F M) → ((s : Poly F M) → SPolynomial R 𝓜 f g s → Same R 𝓜 (NF S s) (NF S r)) → Dec (Fails 𝓟 ord G low f g)
      at [] e = no (nothing_left f g e)
      at (t ∷ r) e = go (finished? D G (t ∷ r)) (D.equal? (coef R 𝓜 (t ∷ r) t.1) R.zero)
        where
          go : Dec (Normal 𝓜 G (t ∷ r)) → Dec (coef R 𝓜 (t ∷ r) t.1 ≡ R.zero) → Dec (Fails 𝓟 ord G low f g)
          go (yes h) (no n) = yes (something-left f g (t ∷ r) e h t.1 n)
          go (yes h) (yes z) = fails? 𝓟 ord G low f g
          go (no h) d = fails? 𝓟 ord G low f g
